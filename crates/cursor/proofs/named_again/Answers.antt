-- `named_again` meets its contract, command by command; an operand in range is an index of its array.
-- Assumes nothing.
use Prim.Native.Nat.{ℕ, ◌+◌, ◌≤◌}
use mathlib.Core.Path.{◌≡◌, refl, ap}
use native.Mathlib.Omega.{arith}
use lib.Dec.{eqb}
use lib.ListN.{length, get_or}
use borrow.Author.Tests.{lt-leb, le-leb, lt-ltb}
use Rattle.model.specs.Limits.{paper}
use Rattle.model.specs.Command.{width, need_prop, add_prop, delete_prop, close_effect}
use mathlib.Core.Bool.{false}
use mathlib.Core.Logic.{inl, inr}
use mathlib.Core.List.{List}
use Rattle.command.specs.declared.Command as code
use Rattle.command.specs.declared.Command.TheVariants.{Head, OpenMove, OpenGoal, EndTable, NeedProp, AddProp, DeleteProp, Term, CloseCondition, CloseEffect, Unknown}
use Rattle.cursor.specs.declared.Cursor.{Cursor}
use Rattle.command.specs.Names.{command_is}
use Rattle.cursor.specs.State.{wrong_at, repeated}
use Rattle.cursor.proofs.Passing.{need_range, add_range, delete_range, effect_range}
use Rattle.cursor.proofs.named_again.Goals as goal

-- a command that names nothing
unnamed : (t : List ℕ) (c : Cursor) (nd ch af : List ℕ) (k : code.Command) → (k ≡ NeedProp → ⊥) → (k ≡ AddProp → ⊥) → (k ≡ DeleteProp → ⊥) → (k ≡ Term → ⊥) → (k ≡ CloseEffect → ⊥) → false ≡ repeated t c nd ch af (command_is k)
unfolding command_is repeated
unnamed t c nd ch af (Head f) a b d e g = refl
unnamed t c nd ch af OpenMove a b d e g = refl
unnamed t c nd ch af OpenGoal a b d e g = refl
unnamed t c nd ch af EndTable a b d e g = refl
unnamed t c nd ch af NeedProp a b d e g = absurd (a refl)
unnamed t c nd ch af AddProp a b d e g = absurd (b refl)
unnamed t c nd ch af DeleteProp a b d e g = absurd (d refl)
unnamed t c nd ch af Term a b d e g = absurd (e refl)
unnamed t c nd ch af CloseCondition a b d e g = refl
unnamed t c nd ch af CloseEffect a b d e g = absurd (g refl)
unnamed t c nd ch af Unknown a b d e g = refl

pub is_named-requires : goal.is_named-requires
unfolding width command_is
is_named-requires c =
    let uncut : c.args.c.at + 2 ≤ length c.args.table.now = rw c.in-NeedProp.is at c.requires.1 in
    let ranged : wrong_at c.args.table.now c.args.c need_prop ≡ 0 = rw c.in-NeedProp.is at c.requires.2 in
    (omega (arith, uncut), omega (arith, need_range c.args.table.now c.args.c ranged, c.requires.0.props))

pub is_named-requires-in-AddProp : goal.is_named-requires-in-AddProp
unfolding width command_is
is_named-requires-in-AddProp c =
    let t = c.args.table.now in
    let k = c.args.c in
    elim c.in-AddProp.is [
      | inl e ↦
          let uncut : k.at + 2 ≤ length t = rw e at c.requires.1 in
          let ranged : wrong_at t k add_prop ≡ 0 = rw e at c.requires.2 in
          (omega (arith, uncut), omega (arith, add_range t k ranged, c.requires.0.props))
      | inr e ↦
          let uncut : k.at + 2 ≤ length t = rw e at c.requires.1 in
          let ranged : wrong_at t k delete_prop ≡ 0 = rw e at c.requires.2 in
          (omega (arith, uncut), omega (arith, delete_range t k ranged, c.requires.0.props))
    ]

pub byte-requires : goal.byte-requires
unfolding width command_is
byte-requires c =
    let uncut : c.args.c.at + 4 ≤ length c.args.table.now = rw c.in-Term.is at c.requires.1 in
    omega (arith, uncut)

pub byte-var-requires : goal.byte-var-requires
unfolding width command_is
byte-var-requires c =
    let uncut : c.args.c.at + 7 ≤ length c.args.table.now = rw c.in-CloseEffect.is at c.requires.1 in
    omega (arith, uncut)

pub bounds-named-var : goal.bounds-named-var
unfolding command_is
bounds-named-var c =
    let ranged : wrong_at c.args.table.now c.args.c close_effect ≡ 0 = rw c.in-CloseEffect.is at c.requires.2 in
    omega (arith, effect_range c.args.table.now c.args.c ranged, c.byte-var.ensures.0, c.requires.0.vars)

pub returns-in-NeedProp : goal.returns-in-NeedProp
unfolding command_is repeated
returns-in-NeedProp c = rw c.in-NeedProp.is c.is_named.ensures

pub returns-in-AddProp : goal.returns-in-AddProp
unfolding command_is repeated
returns-in-AddProp c = elim c.in-AddProp.is [ inl e ↦ rw e c.is_named-in-AddProp.ensures | inr e ↦ rw e c.is_named-in-AddProp.ensures ]

pub returns-then-byte-c : goal.returns-then-byte-c
unfolding command_is repeated paper
returns-then-byte-c c = rw (c.in-Term.is, lt-leb c.args.c.next (get_or c.args.table.now (c.args.c.at + 1) 0) (omega (arith, c.byte.ensures.0, c.if-byte-c.true))) (lt-ltb _ _ c.if-byte-c.true)

pub returns-else-byte-c : goal.returns-else-byte-c
unfolding command_is repeated paper
returns-else-byte-c c = rw (c.in-Term.is, le-leb c.args.c.next (get_or c.args.table.now (c.args.c.at + 1) 0) (omega (arith, c.byte.ensures.0, c.if-byte-c.false))) refl

pub returns-in-CloseEffect : goal.returns-in-CloseEffect
unfolding command_is repeated
returns-in-CloseEffect c =
    rw c.in-CloseEffect.is
    (ap (λ (p : ℕ). eqb (get_or c.args.named.now.affected p 0) c.args.c.stamp) c.byte-var.ensures.0)

pub returns-in_default : goal.returns-in_default
returns-in_default c =
    let d = c.in_default in
    unnamed _ _ _ _ _ _ d.not-NeedProp d.not-AddProp d.not-DeleteProp d.not-Term d.not-CloseEffect
