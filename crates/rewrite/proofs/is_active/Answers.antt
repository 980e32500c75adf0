-- `is_active` meets its contract. The invariant: the items that are left decide. The measure is what is left of the part.
-- Assumes nothing.
use Prim.Native.Nat.{ℕ, ◌<◌}
use lib.IntN.{ℤ}
use native.Mathlib.Omega.{arith}
use mathlib.Core.Path.{◌≡◌, refl, sym, subst}
use mathlib.Core.Bool.{true}
use mathlib.Core.Logic.{◌⊎◌, inl, inr}
use mathlib.Core.List.{List}
use lib.ListN.{length}
use Rattle.model.specs.Lists.{any}
use Rattle.model.specs.Task.{changes, active}
use Rattle.block.specs.Items.{readable, next_ahead}
use Rattle.block.specs.Blocks.{Walk, Passing, Deciding, walk_next, walk_stop, next_is, any_true, any_false}
use Rattle.block.specs.declared.ItemAt.{ItemAt}
use Rattle.block.specs.declared.ItemAt.TheVariants.{Need, Add, Delete, Condition as ConditionAt, Effect as EffectAt, End}
use Rattle.block.proofs.Passed.{before_end}
use Rattle.rewrite.proofs.is_active.Invariants.{Over, changing}
use Rattle.rewrite.proofs.is_active.Goals as goal

pub next-item-requires : goal.next-item-requires
next-item-requires c =
    let p = c.requires in
    readable (c.loop-at.invariant.reading p.ranges p.rest tt p.left tt).left

-- an item that changes something decides
some_change :
    (part : List ℕ) (x : ItemAt)
    → ((p : ℕ) × (after : ℕ) × x ≡ Add p after)
    ⊎ (((p : ℕ) × (after : ℕ) × x ≡ Delete p after)
    ⊎ ((kd : ℕ) × (v : ℕ) × (z : ℤ) × (from : ℕ) × (n : ℕ) × (after : ℕ) × x ≡ EffectAt kd v z from n after))
    → Deciding part Over changing true x
some_change part x (inl (p, after, e)) =
    subst (Deciding part Over changing true) (sym e) (λ k s w h. any_true changes (unfold changes in refl))
some_change part x (inr (inl (p, after, e))) =
    subst (Deciding part Over changing true) (sym e) (λ k s w h. any_true changes (unfold changes in refl))
some_change part x (inr (inr (kd, v, z, from, n, after, e))) =
    subst (Deciding part Over changing true) (sym e) (λ k s e w v h. any_true changes (unfold changes in refl))

pub returns-in-Add : goal.returns-in-Add
unfolding active
returns-in-Add c =
    record {
      is =
          λ k b l.
          walk_stop Over changing c.loop-at.invariant c.next-item.ensures (some_change _ c.next-item.result c.in-Add.is) k b tt l tt;
    }

pub returns-in-End : goal.returns-in-End
unfolding active any
returns-in-End c =
    record {
      is =
          λ k b l.
          walk_stop Over changing c.loop-at.invariant (next_is c.next-item.ensures c.in-End.is)
          (λ s. refl) k b tt l tt;
    }

-- an item that changes nothing does not change the answer
no_change :
    (part : List ℕ) (x : ItemAt)
    → ((p after : ℕ) → x ≡ Add p after → ⊥)
    → ((p after : ℕ) → x ≡ Delete p after → ⊥)
    → ((kd : ℕ) (v : ℕ) (z : ℤ) (from n after : ℕ) → x ≡ EffectAt kd v z from n after → ⊥)
    → (x ≡ End → ⊥)
    → Passing part Over changing x
no_change part (Need p after) h d e n = λ k s w r. any_false changes (unfold changes in refl)
no_change part (Add p after) h d e n = absurd (h p after refl)
no_change part (Delete p after) h d e n = absurd (d p after refl)
no_change part (ConditionAt o z from m after) h d e n = λ k s q w r. any_false changes (unfold changes in refl)
no_change part (EffectAt kd v z from m after) h d e n = absurd (e kd v z from m after refl)
no_change part End h d e n = absurd (n refl)

pub loop-at-smaller : goal.loop-at-smaller
loop-at-smaller c =
    let inside : c.loop-at.at < length c.args.part.now = before_end c.next-item.result c.in_default.not-End c.next-item.ensures.moves in
    omega (arith, next_ahead inside c.next-item.ensures, c.behind-at.ensures)

pub loop-at-preserved : goal.loop-at-preserved
loop-at-preserved c =
    let inside : c.loop-at.at < length c.args.part.now = before_end c.next-item.result c.in_default.not-End c.next-item.ensures.moves in
    subst (Walk _ Over changing) (sym c.behind-at.ensures)
    (walk_next Over changing c.loop-at.invariant inside c.next-item.ensures
    (no_change _ c.next-item.result c.in_default.not-Add c.in_default.not-Delete c.in_default.not-Effect c.in_default.not-End))
