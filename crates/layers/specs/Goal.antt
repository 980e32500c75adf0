-- The goal tested in a layer that stands in two arrays.
-- Assumes nothing.
use Rattle.std.specs.Prelude.{ℕ, ◌≡◌, Bool, List, ℤ, length}
use Rattle.std.proofs.Common.{arith, sym, ap, ◌∙◌, subst}
use Rattle.model.specs.Task.{normal, Task}
use Rattle.model.specs.Layer.{Layer, usable}
use Rattle.table.specs.Outlines.{part_at, Outline}
use Rattle.reader.specs.Parts.{PartIn, outline_part}
use Rattle.block.specs.Items.{Left}
use Rattle.block.specs.Parts.{ranges_of, goal_left}
use Rattle.block.specs.Blocks.{LayerState, LayerTestable, IsUsable}

pub record GoalTestable (table marks : List ℕ) (moves : ℕ) (has : List Bool) (row : List ℤ) : Type 0 where
  pub task : Task
  pub over : Layer
  pub outlined : Outline normal table marks task
  pub count : moves ≡ length task.moves
  pub state : LayerState (ranges_of normal task) has row over

-- t says whether the layer meets the goal
pub record IsMet (table marks : List ℕ) (moves : ℕ) (has : List Bool) (row : List ℤ) (t : Bool) : Type 0 where
  pub is : (k : Task) (l : Layer) → Outline normal table marks k → moves ≡ length k.moves → LayerState (ranges_of normal k) has row l → t ≡ usable l k.goal

-- the goal stands in its part
pub goal_at : {table marks : List ℕ} {moves : ℕ} {part : List ℕ} {k : Task} → part ≡ part_at table marks moves → Outline normal table marks k → moves ≡ length k.moves → Left (ranges_of normal k) part 1 k.goal
goal_at {table} {marks} {k} e o c =
    subst (λ (x : List ℕ). Left (ranges_of normal k) x 1 k.goal) (sym (e ∙ ap (part_at table marks) c)) (goal_left o.ok o.goal)

module _ {table marks : List ℕ} {moves : ℕ} {has : List Bool} {row : List ℤ} (p : GoalTestable table marks moves has row) where
  pub goal_part : PartIn table marks moves
  goal_part = outline_part p.outlined moves (omega (arith, p.count))

  pub goal_testable : {part : List ℕ} → part ≡ part_at table marks moves → LayerTestable part has row
  goal_testable e =
      record {
        ranges = ranges_of normal p.task;
        block = p.task.goal;
        over = p.over;
        left = goal_at e p.outlined p.count;
        row = p.state;
      }

pub is_met : {table marks : List ℕ} {moves : ℕ} {part : List ℕ} {has : List Bool} {row : List ℤ} {t : Bool} → part ≡ part_at table marks moves → IsUsable part has row t → IsMet table marks moves has row t
is_met e u = record { is = λ k l o c w. u.is (ranges_of normal k) k.goal l (goal_at e o c) w }
