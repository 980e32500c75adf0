-- `unfinished` meets its contract: every call but the rewriter's makes the check, of a move. Assumes nothing.
use Rattle.std.proofs.Common.{◌≡◌, Bool, true, false, refl, sym, ◌∙◌}
use mathlib.Core.Bool.{not}
use denote.Enum.Bare.{sameb}
use Rattle.model.specs.Command.{order, in_move}
use Rattle.model.specs.Reading.{checks16}
use Rattle.command.specs.declared.Place.{Place}
use Rattle.command.specs.declared.Place.TheVariants.{InMove}
use Rattle.command.specs.declared.Wanted.{Wanted}
use Rattle.command.specs.declared.Wanted.TheVariants.{Written, Normal, Both, Stored}
use Rattle.command.specs.contracts.Place as place
use Rattle.command.specs.contracts.Wanted as wanted
use Rattle.command.specs.Names.{place_of, wanted_of}
use Rattle.command.specs.Checks.{lies_in, unfinished}
use Rattle.command.proofs.Places.{each_place}
use Rattle.command.proofs.unfinished.Goals as goal
use Rattle.command.proofs.unfinished.Goals.{then-ne, else-ne}

checks : (w : Wanted) → checks16 (wanted_of w) ≡ not (sameb wanted.the_type w Stored)
unfolding checks16 wanted_of
checks Written = refl
checks Normal = refl
checks Both = refl
checks Stored = refl

in_a_move : (p : Place) → lies_in in_move in_move (place_of p) ≡ sameb place.the_type p InMove
unfolding lies_in order place_of
in_a_move = each_place _ refl refl refl refl refl

module _ (w : Wanted) (p : Place) (a : Bool) {x : Bool} (ex : x ≡ not (sameb wanted.the_type w Stored)) where
  unchecked : x ≡ false → false ≡ unfinished (wanted_of w) (place_of p) a
  unfolding unfinished
  unchecked h = rw (checks w ∙ sym ex ∙ h) refl

  other_place : {y : Bool} → x ≡ true → y ≡ sameb place.the_type p InMove → y ≡ false → false ≡ unfinished (wanted_of w) (place_of p) a
  unfolding unfinished
  other_place h ey k = rw (checks w ∙ sym ex ∙ h, in_a_move p ∙ sym ey ∙ k) refl

  a_move : {y : Bool} → x ≡ true → y ≡ sameb place.the_type p InMove → y ≡ true → not a ≡ unfinished (wanted_of w) (place_of p) a
  unfolding unfinished
  a_move h ey k = rw (checks w ∙ sym ex ∙ h, in_a_move p ∙ sym ey ∙ k) refl

pub returns-then-eq : goal.returns-then-eq
returns-then-eq c =
    elim c.if-ne.branch [
      | then-ne w ↦ a_move _ _ _ c.ne.ensures w.if-ne.true w.eq.ensures (sym w.value-is ∙ c.if-eq.true)
      | else-ne w ↦ (let e : ◌≡◌ true false = sym c.if-eq.true ∙ w.value-is ∙ w.if-ne.false in cc)
    ]

pub returns-else-eq : goal.returns-else-eq
returns-else-eq c =
    c.if-eq.false
    ∙ elim c.if-ne.branch [
      | then-ne w ↦ other_place _ _ _ c.ne.ensures w.if-ne.true w.eq.ensures (sym w.value-is ∙ c.if-eq.false)
      | else-ne w ↦ unchecked _ _ _ c.ne.ensures w.if-ne.false
    ]
