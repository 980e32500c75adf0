-- `apply` meets its contract. The invariant: in every reading, the items passed are taken in. The measure is what is left of the
-- part. Assumes nothing.
use Prim.Native.Nat.{ℕ, ◌<◌}
use native.Mathlib.Omega.{arith}
use mathlib.Core.Path.{◌≡◌, refl, sym, ap, ◌∙◌, subst}
use mathlib.Core.Bool.{Bool}
use mathlib.Core.List.{List}
use lib.IntN.{ℤ}
use lib.ListN.{length}
use Rattle.integer.specs.Linear.{back_small}
use Rattle.block.specs.Items.{readable, next_ahead}
use Rattle.block.specs.Blocks.{next_is, effect_base}
use Rattle.block.specs.declared.ItemAt.{ItemAt}
use Rattle.block.specs.declared.ItemAt.TheVariants.{Need, Add, Delete, Condition as ConditionAt, Effect as EffectAt, End}
use Rattle.block.proofs.Passed.{before_end}
use Rattle.layer_memory.specs.declared.Layer.{Layer}
use Rattle.layer_moves.specs.Raising.{IsRaised}
use Rattle.layer_moves.specs.Walking.{AppliedUpTo, LeftIn, AppliesItem, upto_start, upto_next, upto_end}
use Rattle.layer_moves.proofs.apply.Goals as goal
use Rattle.layer_moves.proofs.apply.Goals.{in-Add, in-Effect, in_default, At-loop-prop, After-behind-at}

pub loop-prop-init : goal.loop-prop-init
loop-prop-init c = upto_start

own : (c : At-loop-prop) → LeftIn c.requires.ranges c.args.part.now c.loop-prop.at
own c = let p = c.requires in c.loop-prop.invariant.items p.ranges p.block p.left

pub next-item-requires : goal.next-item-requires
next-item-requires c =
    readable (own (goal.at.next-item-requires c).At-loop-prop).left

pub bounds-next-prop : goal.bounds-next-prop
bounds-next-prop c =
    let p = c.requires in
    let o = own (goal.at.bounds-next-prop c).At-loop-prop in
    omega (arith, ((next_is c.next-item.ensures c.in-Add.is).found p.ranges o.rest o.left).ok, p.flags_room, c.loop-prop.invariant.same_flags)

pub raise-requires : goal.raise-requires
raise-requires c =
    let p = c.requires in
    let o = own (goal.at.raise-requires c).At-loop-prop in
    let f = (next_is c.next-item.ensures c.in-Effect.is).found p.ranges o.rest o.left in
    rw (back_small c.in-Effect.base (omega (arith, effect_base f.is)))
    (record {
      ranges = p.ranges;
      over = p.over;
      behind = c.in-Effect.after;
      rest = o.rest;
      found = f;
      row_is = p.row_is;
      room = omega (arith, p.next_room, c.loop-prop.invariant.same_next);
    })

inside : (c : After-behind-at) → c.loop-prop.at < length c.args.part.now
inside c = elim c.match-item.branch [
  | in-Add w ↦ omega (arith, (next_is c.next-item.ensures w.in-Add.is).moves)
  | in-Effect w ↦ omega (arith, (next_is c.next-item.ensures w.in-Effect.is).moves)
  | in_default w ↦ before_end c.next-item.result w.in_default.not-End c.next-item.ensures.moves
]

same : (c : After-behind-at) → c.next-item.result ≡ c.match-item.item
same c = elim c.match-item.branch [
  | in-Add w ↦ w.in-Add.is ∙ sym w.item-is
  | in-Effect w ↦ w.in-Effect.is ∙ sym w.item-is
  | in_default w ↦ sym w.item-is
]

pub loop-prop-smaller : goal.loop-prop-smaller
loop-prop-smaller c =
    omega (arith, next_ahead (inside (goal.at.loop-prop-smaller c).After-behind-at) (next_is c.next-item.ensures (same (goal.at.loop-prop-smaller c).After-behind-at)), c.behind-at.ensures)

-- an item that neither adds nor changes a value leaves both arrays
passed_over :
    (part : List ℕ) (row : List ℤ) {flags flags' : List Bool} {next next' : List ℤ} (x : ItemAt)
    → ((p after : ℕ) → x ≡ Add p after → ⊥)
    → ((kd : ℕ) (v : ℕ) (z : ℤ) (from n after : ℕ) → x ≡ EffectAt kd v z from n after → ⊥)
    → (x ≡ End → ⊥)
    → (flags' ≡ flags) × (next' ≡ next)
    → AppliesItem part row flags next flags' next' x
passed_over part row (Need p after) h k l e = e
passed_over part row (Add p after) h k l e = absurd (h p after refl)
passed_over part row (Delete p after) h k l e = e
passed_over part row (ConditionAt o z from n after) h k l e = e
passed_over part row (EffectAt kd v z from n after) h k l e = absurd (k kd v z from n after refl)
passed_over part row End h k l e = absurd (l refl)

abbrev has_of : Layer → List Bool
has_of l = l.has

abbrev row_of : Layer → List ℤ
row_of l = l.row

pub loop-prop-preserved : goal.loop-prop-preserved
loop-prop-preserved c =
    let applies : AppliesItem c.args.part.now c.args.row.now c.loop-prop.next.has c.loop-prop.next.row c.match-item.next.has c.match-item.next.row c.match-item.item = let a = c.args in
    let p = c.requires in
    let o = own (goal.at.loop-prop-preserved c).At-loop-prop in
    let there : ItemAt → Type 0 = λ (x : ItemAt). AppliesItem a.part.now a.row.now c.loop-prop.next.has c.loop-prop.next.row c.match-item.next.has c.match-item.next.row x in
    elim c.match-item.branch [
      | in-Add w ↦ subst there (sym w.item-is) (ap has_of w.next-is, ap row_of w.next-is)
      | in-Effect w ↦
          let e = w.in-Effect in
          let f = (next_is c.next-item.ensures e.is).found p.ranges o.rest o.left in
          subst there (sym w.item-is) (
            ap has_of w.next-is,
            subst (λ (next' : List ℤ). IsRaised a.part.now e.kind e.var e.base e.from e.count a.row.now c.loop-prop.next.row next') (sym (ap row_of w.next-is))
                (rw (back_small e.base (omega (arith, effect_base f.is))) at w.raise.ensures),
          )
      | in_default w ↦
          subst there (sym w.item-is)
          (passed_over a.part.now a.row.now c.next-item.result w.in_default.not-Add w.in_default.not-Effect w.in_default.not-End (ap has_of w.next-is, ap row_of w.next-is))
    ] in
    let m = c.match-item in
    let a = c.args in
    subst (λ (at : ℕ). AppliedUpTo a.part.now a.row.now a.next.now.has a.next.now.row at m.next.has m.next.row) (sym c.behind-at.ensures)
    (upto_next c.loop-prop.invariant (inside (goal.at.loop-prop-preserved c).After-behind-at) (next_is c.next-item.ensures (same (goal.at.loop-prop-preserved c).After-behind-at)) (applies))

pub returns-in-End : goal.returns-in-End
returns-in-End c = upto_end c.loop-prop.invariant (next_is c.next-item.ensures c.in-End.is).moves
