-- Sizes of the numbers that a supporting move is judged and counted by, where the targets of the layer above are at most b: what
-- its effect has to reach, the way from the state to the target, the divisor and the count (document 01, "Plan").
-- Assumes nothing.
use Rattle.std.specs.Prelude.{ℕ, ◌+◌, ◌≤◌, ◌<◌, ◌≡◌, false, T, ℤ, pos, negsuc, nat_abs, ◌-ℤ◌, ◌≤ℤ◌}
use native.Mathlib.Omega.{arith}
use Rattle.std.specs.Int.Signed.{le_z}
use Rattle.integer.specs.Linear.{zlin, up, pos-≤}
use Rattle.integer.specs.Ceiling.{ceiling}
use Rattle.model.specs.Limits.{paper}
use Rattle.model.specs.Task.{normal, Kind, assign, increase, decrease, Effect}
use Rattle.model.specs.Move.{State}
use Rattle.model.specs.Layer.{Value, finite, unbounded, reaches}
use Rattle.model.specs.Plan.{demand, step_size, runs}
use Rattle.model.specs.Theorems.Reading.WellFormed.{EffectOk}
use Rattle.model.proofs.Theorems.Laws.Booleans.{not-false}
use Rattle.model.proofs.Theorems.Plans.Wanting.{positive_size}
use Rattle.model.specs.Theorems.Sizes.Bounds.{Between}
use Rattle.model.proofs.Theorems.Sizes.Bounds.{between_wider, between_size, size_between, between_diff}
use Rattle.model.specs.Theorems.Sizes.States.{SmallState}
use Rattle.model.specs.Theorems.Sizes.Layers.{FiniteBetween}
use Rattle.model.proofs.Theorems.Sizes.Targets.{ceiling_between}

-- a target that a small layer does not reach is above −1,000,000
pub unreached_between :
    {b : ℕ} (x : Value) {z : ℤ}
    → FiniteBetween 1_000_000 1_000_000_000_000 x
    → (T (reaches x z) → ⊥)
    → z ≤ℤ pos b
    → Between 1_000_000 b z
unfolding reaches
unreached_between (finite y) {z} h low k =
    let above : le_z z y ≡ false = not-false (le_z z y) low in
    record { from = omega (zlin, h.if_finite.from); to = k }
unreached_between unbounded h low k = absurd (low tt)

up_most : (z : ℤ) (n : ℕ) → z ≤ℤ pos n → up z ≤ n
up_most (pos m) n h = pos-≤ h
up_most (negsuc m) n h = omega arith

-- "d the value in t−1 if finite, else 1": a divisor above 0
pub step_size_positive : (x : Value) → T (reaches x (pos 1)) → 0 < step_size x
unfolding reaches step_size
step_size_positive (finite z) t = (positive_size z (record { le = t })).1
step_size_positive unbounded t = omega arith

-- and far within 64 bits, for an effect's value in a small layer
pub step_size_most : (x : Value) → FiniteBetween 8_001_000_000 8_000_000_001_000_000 x → step_size x ≤ 8_000_000_001_000_000
unfolding step_size
step_size_most (finite z) h = between_size 8_000_000_001_000_000 (omega arith) (omega arith) h.if_finite
step_size_most unbounded h = omega arith

module _ {b : ℕ} {z : ℤ} (large : 1_000_000_000_000 ≤ b) (near : Between 1_000_000 b z) where
  -- "value ≥ target T (:=) or > 0 (+=)"
  pub demand_between : (d : Kind) → Between 1_000_000 b (demand d z)
  unfolding demand
  demand_between assign = near
  demand_between increase = between_wider {a = 1} {b = 1} (omega arith) (omega arith) (size_between (pos 1) (omega arith))
  demand_between decrease = between_wider {a = 1} {b = 1} (omega arith) (omega arith) (size_between (pos 1) (omega arith))

  -- T − c or 1 − c, for an effect "with value sum + c": what its sum has to reach
  pub wanted_between :
      {vars : ℕ} {e : Effect}
      → EffectOk paper normal vars e
      → Between 2_000_000 (b + 1_000_000) (demand e.kind z -ℤ e.base)
  unfolding paper
  wanted_between {e} ok = between_diff (demand_between e.kind) (size_between e.base ok.base)

  -- its size
  pub wanted_size :
      {vars : ℕ} {e : Effect}
      → b ≤ 30_000_000_000_000
      → EffectOk paper normal vars e
      → nat_abs (demand e.kind z -ℤ e.base) ≤ 40_000_000_000_000
  wanted_size most ok = between_size 40_000_000_000_000 (omega arith) (omega arith) (wanted_between ok)

  module _ {vars v : ℕ} {s : State} (start : SmallState vars s) (h : v < vars) where
    -- "T − state value of v"
    pub way_between : Between 2_000_000 (b + 1_000_000) (z -ℤ s.val v)
    way_between = between_diff near (size_between (s.val v) (start.values v h))

    -- its size
    pub way_size : b ≤ 30_000_000_000_000 → nat_abs (z -ℤ s.val v) ≤ 40_000_000_000_000
    way_size most = between_size 40_000_000_000_000 (omega arith) (omega arith) way_between

    -- "Count: 1; for += (T − state value of v)/d rounded up"
    pub runs_most : (d : Kind) (x : Value) → T (reaches x (demand d z)) → runs d z (s.val v) x ≤ b + 1_000_000
    unfolding runs demand
    runs_most assign x t = omega arith
    runs_most increase x t =
        up_most (ceiling (z -ℤ s.val v) (step_size x)) (b + 1_000_000)
        (ceiling_between (z -ℤ s.val v) (step_size x) (step_size_positive x t) way_between).to
    runs_most decrease x t = omega arith
