-- The part of the goal that a stored layer does not meet: where its 50 or 43 stands in the table. Assumes nothing.
use Rattle.std.specs.Prelude.{ℕ, ◌+◌, ◌-◌, ◌*◌, ◌≤◌, ◌≡◌, Bool, false, List, [], ◌∷◌, ◌++◌, ℤ, pos, drop}
use native.Mathlib.Omega.{arith}
use Rattle.std.proofs.Common.{sym, ◌∙◌, length-drop, length-take-le}
use Rattle.std.proofs.Math.Path.{ap}
use Rattle.std.proofs.Math.Option.{some}
use Rattle.std.proofs.Math.ListN.{length, get_or, length-append}
use Rattle.model.specs.Task.{normal, Task}
use Rattle.model.specs.Command.{head, open_goal, end_table, code_of, items_bytes, moves_bytes, task_bytes}
use Rattle.model.specs.Move.{State}
use Rattle.model.specs.Layer.{layer_at}
use Rattle.model.specs.Blocking.{first_unmet, part_offset}
use Rattle.model.specs.Theorems.Sizes.Stored.{StoredLayers}
use Rattle.model.specs.Theorems.Blocking.Parts.{unmet_size}
use Rattle.model.proofs.Theorems.Blocking.Parts.{unmet_offset}
use Rattle.table.specs.Outlines.{Outline, part_at}
use Rattle.block.specs.Parts.{ranges_of}
use Rattle.block.specs.Unmet.{IsUnmet}
use Rattle.layers.specs.Goal.{GoalTestable, goal_at, goal_part}
use Rattle.stored_layer.specs.View.{Filled, held_at, number_at}
use Rattle.stored_layer.specs.Stored.{stored_state}

-- an outlined table, and a memory that holds the layers 0 to t of its task
pub record Searchable (table marks : List ℕ) (layers : List ℤ) (props vars moves t : ℕ) : Type 0 where
  pub task : Task
  pub start : State
  pub steps : ℕ
  pub outlined : Outline normal table marks task
  pub memory : StoredLayers task start props vars moves t steps layers

-- r is the offset of the first part that layer t does not meet, in every reading
pub record IsPart (table marks : List ℕ) (layers : List ℤ) (props vars moves t r : ℕ) : Type 0 where
  pub is :
      (k : Task) (s : State) (steps : ℕ)
      → Outline normal table marks k
      → StoredLayers k s props vars moves t steps layers
      → (n : ℕ)
      → first_unmet k (layer_at k s t) ≡ some n
      → r ≡ part_offset k n

module _ {table marks : List ℕ} {layers : List ℤ} {props vars moves t steps : ℕ} {k : Task} {s : State} (o : Outline normal table marks k) (x : StoredLayers k s props vars moves t steps layers) {has : List Bool} {row : List ℤ} (flags : Filled false (held_at layers 0 t) props 120 has) (values : Filled (pos 0) (number_at layers (props + moves + vars * t)) vars 32 row) where
  -- the goal, and the layer in the two arrays
  abbrev pub goal_read : GoalTestable table marks moves has row
  goal_read =
      record {
        task = k;
        over = layer_at k s t;
        outlined = o;
        count = sym x.moves_is;
        state = stored_state x (omega arith) values flags;
      }

  module _ {part : List ℕ} {r : ℕ} (e : part ≡ part_at table marks moves) (u : IsUnmet part has row r) where
    in_goal_lem : r + unmet_size (layer_at k s t) k.goal ≡ length part
    in_goal_lem = u.is (ranges_of normal k) k.goal (layer_at k s t) (goal_at e o (sym x.moves_is)) goal_read.state

    -- the search ends within the table
    pub part_inside : get_or marks moves 0 + r ≤ length table
    part_inside =
        let from = get_or marks moves 0 in
        let to = get_or marks (moves + 1) 0 in
        let p = goal_part goal_read in
        let long : length part ≡ to - from =
        ap length e ∙ length-take-le (to - from) (drop from table) (omega (arith, length-drop from table, p.rises, p.within)) in
        omega (arith, in_goal_lem, p.rises, p.within)

    -- the goal's mark and the offset in the goal's part
    pub part_at_holds : (n : ℕ) → first_unmet k (layer_at k s t) ≡ some n → get_or marks moves 0 + r ≡ part_offset k n
    unfolding task_bytes
    part_at_holds n found =
        let front = code_of (head normal) ∷ k.props ∷ k.vars ∷ length k.moves ∷ moves_bytes k.moves in
        let goal = code_of open_goal ∷ items_bytes k.goal in
        let mark : get_or marks moves 0 ≡ 4 + length (moves_bytes k.moves) = ap (λ (b : ℕ). get_or marks b 0) (sym x.moves_is) ∙ o.goal_mark in
        let here : part ≡ goal = e ∙ ap (part_at table marks) (sym x.moves_is) ∙ o.goal in
        omega (
          arith,
          in_goal_lem,
          ap length here,
          unmet_offset k (layer_at k s t) n found,
          length-append (front ++ goal) (code_of end_table ∷ []),
          length-append front goal,
        )

pub is_part : {table marks : List ℕ} {layers : List ℤ} {props vars moves t : ℕ} {part : List ℕ} {has : List Bool} {row : List ℤ} {r : ℕ} → Filled false (held_at layers 0 t) props 120 has → Filled (pos 0) (number_at layers (props + moves + vars * t)) vars 32 row → part ≡ part_at table marks moves → IsUnmet part has row r → IsPart table marks layers props vars moves t (get_or marks moves 0 + r)
is_part flags values e u = record { is = λ k s steps o x n found. part_at_holds o x flags values e u n found }
