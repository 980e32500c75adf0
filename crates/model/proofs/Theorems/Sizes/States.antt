-- Sizes of the numbers of a state and of a real move: an accepted state's values are within ±1,000,000, a move's sums within
-- ±8,000,000,000 and its results, before they are checked, within ±8,002,000,000. Assumes nothing.
use Rattle.std.specs.Prelude.{ℕ, ◌*◌, ◌/◌, ◌%◌, ◌≤◌, ◌<◌, ◌≡◌, List, eqb, neg_ℤ}
use Rattle.std.proofs.Common.{arith}
use Rattle.std.proofs.Math.Option.{none}
use Rattle.std.proofs.Math.IntN.{nat_abs}
use Rattle.integer.specs.Linear.{abs_sum, abs_sub, abs_neg}
use Rattle.model.specs.Limits.{paper}
use Rattle.model.specs.Task.{Form, Term, Kind, assign, increase, decrease, Effect, Block}
use Rattle.model.specs.Move.{State, sum, value, changed, changed_by, real}
use Rattle.model.specs.NormalForm.{normal_state}
use Rattle.model.specs.StateTable.{state_of, state_refusal}
use Rattle.model.specs.Theorems.Reading.WellFormed.{TermOk, EffectOk, ItemOk, BlockOk}
use Rattle.model.proofs.Theorems.Reading.States.{accepted_state}
use Rattle.model.proofs.Theorems.Laws.Booleans.{cond_cases}
use Rattle.model.proofs.Theorems.Laws.Searching.{All-map}
use Rattle.model.proofs.Theorems.Layers.NextLayer.{effect_on_cases}
use Rattle.model.specs.Theorems.Sizes.Bounds.{FewTerms}
use Rattle.model.proofs.Theorems.Sizes.Bounds.{sum_size, sum_few, weight_size}
use Rattle.model.specs.Theorems.Sizes.States.{SmallState}

-- a state whose bytes are accepted
pub accepted_small :
    (props vars : ℕ) (bs : List ℕ)
    → state_refusal paper props vars bs ≡ none
    → SmallState vars (state_of props bs)
unfolding state_of paper
accepted_small props vars bs e = record { values = (accepted_state paper props vars bs e).values }

-- the values of its signed variables: "Layer 0 is the state."
pub normal_state_small :
    {vars signed : ℕ} {s : State}
    → signed ≤ 2 * vars
    → SmallState vars s
    → SmallState signed (normal_state s)
unfolding normal_state
normal_state_small {s} most start =
    record {
      values =
          λ j h. cond_cases (λ z. nat_abs z ≤ 1_000_000) (eqb (j % 2) 0) (s.val (j / 2)) (neg_ℤ (s.val (j / 2)))
          (λ even. start.values (j / 2) (omega arith))
          (λ odd. rw (abs_neg (s.val (j / 2))) (start.values (j / 2) (omega arith)));
    }

-- ---- real moves
module _ {vars : ℕ} {s : State} (start : SmallState vars s) where
  -- a sum in the state, or a part of one
  pub state_sum_size : {f : Form} {ts : List Term} → FewTerms f vars ts → nat_abs (sum s.val ts) ≤ 8_000_000_000
  state_sum_size {f} {ts} few =
      omega (
        arith,
        few.few,
        sum_size 1_000_000 s.val ts
            (All-map {P = TermOk paper f vars} ts (λ t ok. (weight_size ok, start.values t.var ok.var)) few.terms),
      )

  -- an effect's value in the state
  pub state_value_size : {f : Form} {e : Effect} → EffectOk paper f vars e → nat_abs (value s e) ≤ 8_001_000_000
  unfolding value paper
  state_value_size {e} ok =
      omega (arith, abs_sum (sum s.val e.terms) e.base, state_sum_size (sum_few ok.sum), ok.base)

  changed_size :
      {f : Form} {e : Effect} {v : ℕ}
      → EffectOk paper f vars e
      → v < vars
      → (d : Kind)
      → nat_abs (changed d (s.val v) (value s e)) ≤ 8_002_000_000
  unfolding changed
  changed_size {e} {v} ok h assign = omega (arith, state_value_size ok)
  changed_size {e} {v} ok h increase =
      omega (arith, abs_sum (s.val v) (value s e), start.values v h, state_value_size ok)
  changed_size {e} {v} ok h decrease =
      omega (arith, abs_sub (s.val v) (value s e), start.values v h, state_value_size ok)

  -- "a result beyond ±1,000,000": what a move makes of a variable, before it is checked
  pub real_size :
      {f : Form} {props v : ℕ} {b : Block}
      → BlockOk paper f props vars b
      → v < vars
      → nat_abs ((real b s).val v) ≤ 8_002_000_000
  unfolding real changed_by
  real_size {f} {props} {v} {b} ok h =
      effect_on_cases (λ o. nat_abs (changed_by s v o) ≤ 8_002_000_000) (ItemOk paper f props vars) v b ok.items
      (omega (arith, start.values v h))
      (λ e at-v e-ok. changed_size e-ok h e.kind)
