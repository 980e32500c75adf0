-- `to_residue` meets its contract: by the sign, the number itself or the number and `m`.
-- Assumes nothing.
use Prim.Native.Nat.{ℕ, ◌<◌, ◌≤◌, ◌^◌}
use mathlib.Core.Path.{◌≡◌, refl}
use native.Mathlib.Omega.{arith}
use lib.IntN.{ℤ, pos, nat_abs, ◌+ℤ◌}
use mir.Syntax.{w64}
use mir.Val.{SFits, to_z, of_z}
use Rattle.integer.specs.BigEndian.{residue}
use Rattle.integer.proofs.BigEndian.{residue_small, residue_neg, residue_nonneg}
use Rattle.integer.specs.Linear.{lt_true, lt_false, small_fits, back, back_small}
use Rattle.integer.proofs.to_residue.Goals as goal

-- a number that is the residue is read back as it was stored
result : (v : ℤ) (m : ℕ) (z : ℤ) → m ≤ 2 ^ 62 → 0 < m → z ≡ pos (residue m v) → nat_abs (to_z w64 (of_z w64 z)) ≡ residue m v
result v m z h p e =
    let fits : SFits w64 z = rw e (small_fits (pos (residue m v)) (omega (arith, residue_small m v p))) in
    rw (back z fits.sfits, e) refl

pub returns-then-v-lt0 : goal.returns-then-v-lt0
returns-then-v-lt0 c =
    let value : to_z w64 (of_z w64 c.args.v) ≡ c.args.v = back c.args.v c.ranges.v.sfits in
    let below : to_z w64 (of_z w64 c.args.v) +ℤ to_z w64 c.args.m ≡ pos (residue c.args.m c.args.v) =
    rw (value, back_small (pos c.args.m) (omega arith))
    (residue_neg c.args.m c.args.v (lt_true c.args.v (pos 0) (rw value at c.if-v-lt0.true)) c.requires.0) in
    result c.args.v c.args.m _ c.requires.1 (omega arith) below

pub returns-else-v-lt0 : goal.returns-else-v-lt0
returns-else-v-lt0 c =
    let value : to_z w64 (of_z w64 c.args.v) ≡ c.args.v = back c.args.v c.ranges.v.sfits in
    let above : c.args.v ≡ pos (residue c.args.m c.args.v) =
    residue_nonneg c.args.m c.args.v (lt_false c.args.v (pos 0) (rw value at c.if-v-lt0.false)) c.requires.0 in
    result c.args.v c.args.m _ c.requires.1 (omega arith) above
