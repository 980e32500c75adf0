-- The truths and values of a state loaded into arrays, and the signed variables of its normal form.
-- Assumes nothing.
use Rattle.std.specs.Prelude.{ℕ, ◌+◌, ◌*◌, ◌/◌, ◌%◌, ◌≤◌, ◌<◌, ◌≡◌, List, ℤ, neg_ℤ, nat_abs, length, set, take, drop}
use native.Mathlib.Omega.{arith}
use Rattle.std.proofs.Math.Path.{refl}
use Rattle.std.proofs.Common.{sym, ap, ◌∙◌}
use Rattle.std.proofs.Math.Option.{none}
use Rattle.integer.specs.BigEndian.{signed}
use Rattle.model.specs.Limits.{paper}
use Rattle.model.specs.Lists.{tabulate}
use Rattle.model.specs.Memory.{overwrite}
use Rattle.model.specs.Move.{State}
use Rattle.model.specs.NormalForm.{normal_state}
use Rattle.model.specs.StateTable.{value_offset, state_value, state_of, state_refusal}
use Rattle.model.proofs.Theorems.Sizes.States.{accepted_small, normal_state_small}
use Rattle.state.specs.Overwriting.{length_written, written_none, written_next}

-- a value read from its place
pub value_read : (props : ℕ) (bs : List ℕ) (v : ℕ) → signed (take 4 (drop (props + 4 * v) bs)) ≡ state_value props bs v
unfolding state_value value_offset
value_read props bs v = refl

-- "Signed variable 2i is v_i and 2i+1 is −v_i."
module _ (s : State) (v : ℕ) where
  pub normal_even : (normal_state s).val (2 * v) ≡ s.val v
  unfolding normal_state
  normal_even =
      let m : 2 * v % 2 ≡ 0 = omega arith in
      let d : 2 * v / 2 ≡ v = omega arith in
      rw (m, d) refl

  pub normal_odd : (normal_state s).val (2 * v + 1) ≡ neg_ℤ (s.val v)
  unfolding normal_state
  normal_odd =
      let m : (2 * v + 1) % 2 ≡ 1 = omega arith in
      let d : (2 * v + 1) / 2 ≡ v = omega arith in
      rw (m, d) refl

-- the signed variables of an accepted state are as small as its values
pub accepted_signed :
    (props vars : ℕ) (bs : List ℕ)
    → state_refusal paper props vars bs ≡ none
    → (j : ℕ)
    → j < 2 * vars
    → nat_abs ((normal_state (state_of props bs)).val j) ≤ 1_000_000
accepted_signed props vars bs e =
    (normal_state_small {signed = 2 * vars} (omega arith) (accepted_small props vars bs e)).values

-- the first i of n entries of a table are written
pub record Written {A : Type 0} (f : ℕ → A) (n : ℕ) (old new : List A) (i : ℕ) : Type 0 where
  pub within : i ≤ n
  pub is : new ≡ overwrite (tabulate f 0 i) old

module _ {A : Type 0} {f : ℕ → A} {n : ℕ} {old : List A} where
  pub written_start : Written f n old old 0
  written_start = record { within = omega arith; is = written_none f old }

  module _ (fits : n ≤ length old) {new : List A} {i : ℕ} (w : Written f n old new i) where
    pub written_length_lem : length new ≡ length old
    written_length_lem = ap length w.is ∙ length_written f old i (omega (arith, w.within))

    pub written_step : i < n → {x : A} → x ≡ f i → Written f n old (set new i x) (i + 1)
    written_step h {x} e =
        record { within = omega arith; is = rw (e, w.is) (written_next f old i (omega arith)) }

  pub written_end : {new : List A} {i : ℕ} → Written f n old new i → n ≤ i → new ≡ overwrite (tabulate f 0 n) old
  written_end {i} w h =
      let e : i ≡ n = omega (arith, w.within) in
      w.is ∙ ap (λ (k : ℕ). overwrite (tabulate f 0 k) old) e

-- both signed variables of a value
pub signed_step :
    (s : State) (vars : ℕ) {old new : List ℤ} (v : ℕ)
    → 2 * vars ≤ length old
    → Written (normal_state s).val (2 * vars) old new (2 * v)
    → v < vars
    → {x y : ℤ}
    → x ≡ s.val v
    → y ≡ neg_ℤ (s.val v)
    → Written (normal_state s).val (2 * vars) old (set (set new (2 * v) x) (2 * v + 1) y) (2 * (v + 1))
signed_step s vars v fits w h e f =
    let n : 2 * (v + 1) ≡ 2 * v + 1 + 1 = omega arith in
    rw n
    (written_step fits (written_step fits w (omega arith) (e ∙ sym (normal_even s v))) (omega arith)
    (f ∙ sym (normal_odd s v)))
