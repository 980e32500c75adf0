-- Layer 0: the state's truths and values in two arrays and in the memory.
-- Assumes nothing.
use Rattle.std.specs.Prelude.{ℕ, ◌+◌, ◌-◌, ◌*◌, ◌/◌, ◌≤◌, ◌<◌, ◌≡◌, Result, Err, Bool, ℤ}
use Rattle.std.proofs.Common.{arith, ◌∙◌}
use Rattle.std.proofs.Math.Path.{refl, ap, subst}
use Rattle.std.proofs.Math.Bool.{false}
use mathlib.Core.List.{List, []}
use Rattle.std.proofs.Math.Option.{none}
use borrow.Rule.Slice.PartMut.{mid_of, put_mid}
use Rattle.std.proofs.Math.IntN.{pos, nat_abs}
use Rattle.std.proofs.Math.ListN.{length, get_or}
use Rattle.integer.specs.Linear.{zlin, nat_abs_split, le_lt_z}
use Rattle.layers.specs.declared.Built.{Built as BuiltAnswer}
use Rattle.model.specs.declared.Refusal.{Refusal}
use Rattle.model.specs.Limits.{paper}
use Rattle.model.specs.Lists.{tabulate}
use Rattle.model.specs.Task.{normal, Task}
use Rattle.model.specs.Move.{State}
use Rattle.model.specs.NormalForm.{normal_state}
use Rattle.model.specs.StateTable.{state_of, state_refusal}
use Rattle.model.specs.Layer.{finite, layer_of, layer, layer_at}
use Rattle.model.specs.Memory.{encode, too_large, wrong15, overwrite, stopped, built_memory}
use Rattle.model.specs.Theorems.Reading.WellFormed.{TaskOk}
use Rattle.model.proofs.Theorems.Laws.Booleans.{not-false, false_not}
use Rattle.model.proofs.Theorems.Laws.Searching.{any_below_cases}
use Rattle.model.proofs.Theorems.Layers.Answer.{passed_none}
use Rattle.model.specs.Theorems.Layers.Building.{BuildsFrom}
use Rattle.model.proofs.Theorems.Layers.Building.{build_unrolled}
use Rattle.model.specs.Theorems.Layers.Memories.{size}
use Rattle.table.specs.Outlines.{Outline}
use Rattle.block.specs.Parts.{ranges_of}
use Rattle.block.specs.Sums.{Encoded}
use Rattle.block.specs.Blocks.{LayerState}
use Rattle.state.specs.Overwriting.{written_at}
use Rattle.model.proofs.Theorems.Reading.States.{accepted_state}
use Rattle.state.specs.Loading.{accepted_signed}
use Rattle.layer_memory.specs.Filling.{Filled, cleared, noted_at, row_at}
use Rattle.layer_memory.specs.Arrays.{Values}
use Rattle.layer_step.specs.Step.{Counts, state_truths}
use Rattle.layer_memory.specs.Storing.{FilledAt, filled_behind, row_behind, holds_cleared, holds_layer}
use Rattle.layers.specs.Building.{IsBuilt, Layered, built_of, room_there, room_missing, built_by}

-- the signed variables of an accepted state
abbrev pub start_of : ℕ → List ℕ → State
start_of props bs = normal_state (state_of props bs)

-- an outlined table with its counts, and an accepted state
pub record Buildable (table marks : List ℕ) (props vars moves : ℕ) (bs : List ℕ) : Type 0 where
  pub task : Task
  pub outlined : Outline normal table marks task
  pub counts : Counts task props vars moves
  pub accepted : state_refusal paper props (vars / 2) bs ≡ none

-- what building in a memory ends with, in every reading of the table
pub record Builds (table marks : List ℕ) (props vars moves : ℕ) (bs : List ℕ) (mem mem' : List ℤ) (r : Result BuiltAnswer Refusal) : Type 0 where
  pub is : (k : Task) → Outline normal table marks k → Counts k props vars moves → IsBuilt k (start_of props bs) mem mem' r

-- "N even, 0..32"
pub even_half : {k : Task} → TaskOk paper normal k → 2 * (k.vars / 2) ≡ k.vars
unfolding paper
even_half ok = omega (arith, ok.vars.1)

module _ {table marks : List ℕ} {props vars moves : ℕ} {bs : List ℕ} (p : Buildable table marks props vars moves bs) where
  pub props_small : props ≤ 120
  unfolding paper
  props_small = omega (arith, p.counts.props_is, p.outlined.ok.props)

  pub vars_small : vars ≤ 32
  unfolding paper
  vars_small = omega (arith, p.counts.vars_is, p.outlined.ok.vars.0)

  pub moves_small : moves ≤ 64
  unfolding paper
  moves_small = omega (arith, p.counts.moves_is, p.outlined.ok.moves)

  pub half_vars : 2 * (vars / 2) ≡ vars
  half_vars = rw p.counts.vars_is (even_half p.outlined.ok)

  pub state_long : props + 4 * (vars / 2) ≤ length bs
  state_long = omega (arith, (accepted_state paper props (vars / 2) bs p.accepted).length_is)

-- the arrays hold layer 0
module _ {k : Task} {props vars moves : ℕ} (ok : TaskOk paper normal k) (n : Counts k props vars moves) (bs : List ℕ) (accepted : state_refusal paper props (vars / 2) bs ≡ none) where
  pub first_layer :
      {has : List Bool} {row : List ℤ} (has₀ : List Bool) (row₀ : List ℤ)
      → props ≤ length has
      → vars ≤ length row
      → has ≡ overwrite (tabulate (state_of props bs).has 0 props) has₀
      → row ≡ overwrite (tabulate (start_of props bs).val 0 (2 * (vars / 2))) row₀
      → LayerState (ranges_of normal k) has row (layer_at k (start_of props bs) 0)
  unfolding layer_at layer layer_of normal_state encode paper
  first_layer {has} {row} has₀ row₀ hl rl h r =
      record {
        long = omega (arith, n.props_is);
        has = λ q i. ap (λ (l : List Bool). get_or l q false) h ∙ written_at (state_of props bs).has has₀ props q false (omega (arith, n.props_is));
        row = record { long = omega (arith, n.vars_is); each = each };
      }
    where
      each : (v : ℕ) → v < k.vars → Encoded paper.layer_value (finite ((start_of props bs).val v)) (get_or row v (pos 0))
      each v i =
          let half : 2 * (vars / 2) ≡ vars = rw n.vars_is (even_half ok) in
          let small : nat_abs ((start_of props bs).val v) ≤ 1_000_000 = accepted_signed props (vars / 2) bs accepted v (omega (arith, n.vars_is)) in
          record {
            is = ap (λ (l : List ℤ). get_or l v (pos 0)) r ∙ written_at (start_of props bs).val row₀ (2 * (vars / 2)) v (pos 0) (omega (arith, n.vars_is));
            size = omega arith;
          }

  -- no value of the state is past the limit
  first_small : wrong15 paper k (start_of props bs) 0 ≡ false
  unfolding wrong15 too_large paper layer_at layer layer_of
  first_small =
      not-false (wrong15 paper k (start_of props bs) 0)
      (λ t.
      any_below_cases (λ v. too_large paper ((layer_at k (start_of props bs) 0).val v)) k.vars t
      (λ v h big.
      let half : 2 * (vars / 2) ≡ vars = rw n.vars_is (even_half ok) in
      let small : nat_abs ((start_of props bs).val v) ≤ 1_000_000 = accepted_signed props (vars / 2) bs accepted v (omega (arith, n.vars_is)) in
      false_not (le_lt_z {a = pos paper.layer_value} {b = (start_of props bs).val v} (omega (zlin, nat_abs_split ((start_of props bs).val v)))) big))

  -- 14 at layer 0 leaves the memory as it was
  pub first_short : {old : List ℤ} → length old < props + moves + vars → IsBuilt k (start_of props bs) old old (Err (record { number = 14; place = 0 }))
  unfolding built_of built_memory overwrite
  first_short {old} h =
      built_by (stopped 14 0) []
      ((build_unrolled ok (start_of props bs) (length old) _).1
      (BuildsFrom.too_short first_small (room_missing k (start_of props bs) (length old) 0 (omega (arith, n.props_is, n.vars_is, n.moves_is)))))
      refl refl refl

  -- layer 0 is stored: its values, then the entries
  pub first_stored :
      {old part mem mem' : List ℤ} {has : List Bool} {row : List ℤ}
      → props + moves + vars ≤ length old
      → LayerState (ranges_of normal k) has row (layer_at k (start_of props bs) 0)
      → Filled (pos 0) (row_at row) vars (mid_of (props + moves) (length old - (props + moves)) old) part
      → Filled (pos 0) cleared (props + moves) (put_mid (props + moves) (length old - (props + moves)) old part) mem
      → Filled (pos 0) (noted_at mem has 0) props mem mem'
      → Layered k (start_of props bs) old 0 mem' has row
  unfolding paper
  first_stored {old} {part} {mem} {mem'} {has} {row} enough w r f g =
      let s = start_of props bs in
      let mem₁ = put_mid (props + moves) (length old - (props + moves)) old part in
      let fits : size k s 1 ≤ length old = omega (arith, n.props_is, n.vars_is, n.moves_is) in
      let front : props + moves ≡ k.props + length k.moves = omega (arith, n.props_is, n.moves_is) in
      let place : props + moves ≡ size k s 0 = omega (arith, n.props_is, n.moves_is) in
      let at : FilledAt (row_at row) (size k s 0) k.vars old mem₁ =
      subst (λ (x : ℕ). FilledAt (row_at row) x k.vars old mem₁) place
      (subst (λ (x : ℕ). FilledAt (row_at row) (props + moves) x old mem₁) n.vars_is (filled_behind (row_at row) (props + moves) vars old part enough r)) in
      let values : Values paper.layer_value k.vars row (layer_at k s 0).val = record { long = w.row.long; each = w.row.each } in
      record {
        passed = passed_none;
        stored = record { small = first_small; fits = room_there k s (length old) 0 fits };
        built = λ b r. (build_unrolled ok s (length old) b).1 r;
        holds =
            holds_layer (row_behind s values at refl (λ i h. refl)) (holds_cleared (subst (λ (x : ℕ). Filled (pos 0) cleared x mem₁ mem) front f)) (state_truths k w)
            (subst (λ (x : ℕ). Filled (pos 0) (noted_at mem has 0) x mem mem') n.props_is g);
        room = fits;
        state = w;
      }
