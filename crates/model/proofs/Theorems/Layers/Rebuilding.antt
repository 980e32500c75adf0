-- Building layers leaves a memory of the same length, and building them again changes nothing: so decide and plan may run one
-- after the other on the same memory. Assumes nothing.
use Rattle.std.specs.Prelude.{ℕ, zero, suc, ◌+◌, ◌*◌, ◌≤◌, ◌<◌, ◌≡◌, refl, List, T, ltb, ℤ}
use Rattle.std.proofs.Math.Path.{ap}
use Rattle.std.proofs.Common.{◌∙◌, arith}
use Rattle.std.proofs.Math.Option.{Option, some}
use Rattle.std.proofs.Math.Dec.{not_T, nltb→le}
use Rattle.std.proofs.Math.ListN.{length}
use Rattle.model.specs.Limits.{Limits, paper}
use Rattle.model.specs.Task.{Task}
use Rattle.model.specs.Move.{State}
use Rattle.model.specs.Layer.{Outcome, reached, exhausted, reported, outcome}
use Rattle.model.specs.Memory.{layer_memory, overwrite, room, wrong15, wrong14, refuses, answered, stop_at, build, built_memory}
use Rattle.model.specs.Calls.{Ready, ready, unready, prepared, memory_of, decide_memory, plan_of, plan_answer, plan_out_of, plan_out}
use Rattle.model.proofs.Theorems.Laws.Booleans.{or_right}
use Rattle.model.proofs.Theorems.Laws.Searching.{first_from_cases}
use Rattle.model.proofs.Theorems.Printing.Outputs.{length_overwrite, overwrite_again}
use Rattle.model.proofs.Theorems.Layers.Memories.{length_memory}

module _ (L : Limits) (k : Task) (s : State) (size : ℕ) where
  layers_fit : (t steps : ℕ) → (T (refuses L k s size t) → ⊥) → length (layer_memory k s (suc t) steps) ≤ size
  unfolding wrong14 room
  layers_fit t steps passes =
      let fits : room k t ≤ size =
      nltb→le size (room k t) (not_T (ltb size (room k t)) (λ short. passes (or_right (wrong15 L k s t) (ltb size (room k t)) short))) in
      omega (arith, length_memory k s (suc t) steps, ap (λ (n : ℕ). k.vars * n) (native.Mathlib.Numerals.add-one t))

  -- what building writes fits the memory
  pub built_fits : length (built_memory k s (build L k s size)) ≤ size
  unfolding build stop_at built_memory reported
  built_fits =
      first_from_cases (refuses L k s size) (λ (f : Option ℕ). length (built_memory k s (stop_at L k s f (outcome k s))) ≤ size) 0
      (suc (reported (outcome k s))) found
      (λ never. by_outcome (outcome k s) (never (reported (outcome k s)) (omega arith) (omega arith)))
    where
      by_outcome : (o : Outcome) → (T (refuses L k s size (reported o)) → ⊥) → length (built_memory k s (answered o)) ≤ size
      by_outcome (reached m) passes = layers_fit m m passes
      by_outcome (exhausted m) passes = layers_fit m (suc m) passes

      found :
          (t : ℕ) → 0 ≤ t → t < 0 + suc (reported (outcome k s)) → T (refuses L k s size t)
          → ((u : ℕ) → 0 ≤ u → u < t → T (refuses L k s size u) → ⊥)
          → length (built_memory k s (stop_at L k s (some t) (outcome k s))) ≤ size
      found zero low high bad before = omega arith
      found (suc t) low high bad before = layers_fit t t (before t (omega arith) (omega arith))

-- what builds layers leaves a memory of the same length
pub memory_length : (L : Limits) (r : Ready) (mem : List ℤ) → length (memory_of L r mem) ≡ length mem
unfolding memory_of
memory_length L (ready k s) mem = length_overwrite (built_memory k s (build L k s (length mem))) mem (built_fits L k s (length mem))
memory_length L (unready r) mem = refl

pub decide_length : (t bs : List ℕ) (mem : List ℤ) → length (decide_memory paper t bs mem) ≡ length mem
unfolding decide_memory
decide_length t bs mem = memory_length paper (prepared paper t bs) mem

-- to decide again changes nothing
pub decide_again : (t bs : List ℕ) (mem : List ℤ) → decide_memory paper t bs (decide_memory paper t bs mem) ≡ decide_memory paper t bs mem
unfolding decide_memory memory_of
decide_again t bs mem = go (prepared paper t bs)
  where
    go : (r : Ready) → memory_of paper r (memory_of paper r mem) ≡ memory_of paper r mem
    go (ready k s) =
        ap (λ (n : ℕ). overwrite (built_memory k s (build paper k s n)) (overwrite (built_memory k s (build paper k s (length mem))) mem))
        (length_overwrite (built_memory k s (build paper k s (length mem))) mem (built_fits paper k s (length mem)))
        ∙ overwrite_again (built_memory k s (build paper k s (length mem))) mem
    go (unready r) = refl

-- plan's answer and records depend on the memory's length alone
pub plan_same_length :
    (t bs : List ℕ) (mem other : List ℤ) (out : List ℕ) → length mem ≡ length other
    → (plan_answer paper t bs mem out ≡ plan_answer paper t bs other out) × (plan_out paper t bs mem out ≡ plan_out paper t bs other out)
unfolding plan_answer plan_out
plan_same_length t bs mem other out e = (
  ap (λ (n : ℕ). plan_of paper n (length out) (prepared paper t bs)) e,
  ap (λ (n : ℕ). plan_out_of paper n (prepared paper t bs) out) e,
)
