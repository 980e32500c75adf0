-- "It is the true reason": a part of the goal is met in the last layer exactly when some list of relaxed moves reaches it alone; so the
-- first part that the last layer does not meet is the first that no list reaches, and no goal that still holds it is reached.
-- Assumes nothing.
use Rattle.std.specs.Prelude.{ℕ, ◌<◌, ◌≡◌, refl, ◌↔◌, false, List, map, T, length}
use Rattle.std.proofs.Math.Bool.{true}
use Rattle.std.proofs.Math.Option.{some}
use Rattle.std.proofs.Common.{arith}
use Rattle.model.specs.Limits.{Limits}
use Rattle.model.specs.Lists.{In, all}
use Rattle.model.specs.Task.{normal, Item, Block, Task}
use Rattle.model.specs.Move.{State, relaxed, Solves}
use Rattle.model.specs.Layer.{holds_in, usable, layer_at, meets_goal, EqualNext, settled}
use Rattle.model.specs.Plan.{records, move_and_count, plan_list}
use Rattle.model.specs.Blocking.{goal_part, first_unmet}
use Rattle.model.specs.Theorems.Reading.WellFormed.{TaskOk}
use Rattle.model.proofs.Theorems.Laws.Booleans.{T_true, true_t, not-false, T-stable, and_both}
use Rattle.model.proofs.Theorems.Layers.Settled.{settled_equal}
use Rattle.model.proofs.Theorems.Layers.Relaxation.{no_plan}
use Rattle.model.proofs.Theorems.Plans.Solving.{plan_solves}
use Rattle.model.proofs.Theorems.Blocking.Parts.{first_unmet_holds}
use Rattle.model.specs.Theorems.Blocking.Goals.{with_goal, alone}
use Rattle.model.proofs.Theorems.Blocking.Goals.{part_ok, part_in, solves_part}
use Rattle.model.specs.Theorems.Blocking.Reason.{FirstUnreachable, Reachable, Unreachable}

-- "what to give up": giving up other parts does not help, for with any goal that still holds such a part no list of relaxed moves solves
-- the task
pub keeping_unreachable :
    (k : Task) (s : State) (i : Item)
    → Unreachable k s i
    → (g : Block)
    → In i g
    → (list : List ℕ)
    → Solves relaxed (with_goal k g) s list
    → ⊥
keeping_unreachable k s i none-reaches g stands list solves = none-reaches list (solves_part relaxed k g i stands s list solves)

-- ---- one part, in a layer that equals its next one: "the last layer"
module _ {L : Limits} {k : Task} (ok : TaskOk L normal k) (s : State) (i : Item) (stands : In i k.goal) where
  -- a part that some layer meets is reached by the list of a plan for it
  pub met_reachable : (t : ℕ) → T (holds_in (layer_at k s t) i) → Reachable k s i
  unfolding meets_goal usable all layer_at
  met_reachable t met =
      record {
        list = plan_list (map move_and_count (records (alone k i) s t));
        solves = plan_solves (part_ok ok i stands) s t (and_both (holds_in (layer_at k s t) i) true met tt);
      }

  module _ (m : ℕ) (last : EqualNext k s m) where
    -- "It is the true reason: no list of relaxed moves, of any length, reaches that one part alone."
    pub part_unreachable : holds_in (layer_at k s m) i ≡ false → Unreachable k s i
    unfolding settled layer_at meets_goal usable all
    part_unreachable unmet list solves =
        no_plan (part_ok ok i stands) s m ((settled_equal ok s m).1 last) (rw unmet refl) list solves

    -- the last layer meets exactly the parts that some list reaches alone
    pub last_reachable : T (holds_in (layer_at k s m) i) ↔ Reachable k s i
    last_reachable = (
      met_reachable m,
      λ r.
          T-stable (holds_in (layer_at k s m) i)
          (λ fails. part_unreachable (not-false (holds_in (layer_at k s m) i) fails) r.list r.solves),
    )

module _ {L : Limits} {k : Task} (ok : TaskOk L normal k) (s : State) (m : ℕ) (last : EqualNext k s m) where
  -- "the first 50 or 43 command of the goal, in table order, that the last layer does not meet" is the first that no list reaches
  pub first_unreachable : (n : ℕ) → (first_unmet k (layer_at k s m) ≡ some n) ↔ FirstUnreachable k s n
  first_unreachable n = (
    λ e.
        let u = (first_unmet_holds k (layer_at k s m) n).0 e in
        record {
          inside = u.inside;
          unreachable = part_unreachable ok s (goal_part k n) (part_in k n u.inside) m last u.unmet;
          before =
              λ j h. met_reachable ok s (goal_part k j) (part_in k j (omega (arith, u.inside))) m (true_t (u.before j h));
        },
    λ f.
        let part : (j : ℕ) → j < length k.goal → T (holds_in (layer_at k s m) (goal_part k j)) ↔ Reachable k s (goal_part k j) =
        λ j h. last_reachable ok s (goal_part k j) (part_in k j h) m last in
        (first_unmet_holds k (layer_at k s m) n).1 (record {
          inside = f.inside;
          unmet =
              not-false (holds_in (layer_at k s m) (goal_part k n))
              (λ met. let r = (part n f.inside).0 met in f.unreachable r.list r.solves);
          before = λ j h. T_true (holds_in (layer_at k s m) (goal_part k j)) ((part j (omega (arith, f.inside))).1 (f.before j h));
        }),
  )
