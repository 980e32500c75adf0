-- `from_residue` meets its contract: the test is the definition's own.
-- Assumes nothing.
use Prim.Native.Nat.{◌*◌}
use mathlib.Core.Path.{◌≡◌, refl}
use native.Mathlib.Omega.{arith}
use borrow.Author.Tests.{lt-ltb, le-ltb}
use lib.IntN.{ℤ, pos, ◌-ℤ◌}
use mir.Syntax.{w64}
use mir.Val.{SFits, to_z}
use Rattle.integer.specs.BigEndian.{twos}
use Rattle.integer.proofs.BigEndian.{twos_size}
use Rattle.integer.specs.Linear.{small_fits, back, back_small}
use Rattle.integer.proofs.from_residue.Goals as goal

pub overflow_cast-result : goal.overflow_cast-result
overflow_cast-result c = small_fits (pos c.args.n) (omega arith)

pub overflow_cast-result-else-n-half : goal.overflow_cast-result-else-n-half
overflow_cast-result-else-n-half c = small_fits (pos c.args.n) (omega arith)

pub overflow_cast-result-else-n-half-2 : goal.overflow_cast-result-else-n-half-2
overflow_cast-result-else-n-half-2 c = small_fits (pos (2 * c.args.half)) (omega arith)

pub overflow_sub-result : goal.overflow_sub-result
unfolding twos
overflow_sub-result c =
    let fits : (z : ℤ) → z ≡ twos c.args.half c.args.n → SFits w64 z = λ z e. rw e (small_fits (twos c.args.half c.args.n) (omega (arith, twos_size c.args.half c.args.n c.requires.0))) in
    let number : to_z w64 c.args.n ≡ pos c.args.n = back_small (pos c.args.n) (omega arith) in
    let twice : to_z w64 (2 * c.args.half) ≡ pos (2 * c.args.half) = back_small (pos (2 * c.args.half)) (omega arith) in
    let high : to_z w64 c.args.n -ℤ to_z w64 (2 * c.args.half) ≡ twos c.args.half c.args.n = rw (number, twice, le-ltb _ _ c.if-n-half.false) refl in
    fits _ (high)

pub returns-then-n-half : goal.returns-then-n-half
unfolding twos
returns-then-n-half c =
    let number : to_z w64 c.args.n ≡ pos c.args.n = back_small (pos c.args.n) (omega arith) in
    let low : to_z w64 c.args.n ≡ twos c.args.half c.args.n = rw (number, lt-ltb _ _ c.if-n-half.true) refl in
    rw (low) (refl, twos_size c.args.half c.args.n c.requires.0)

pub returns-else-n-half : goal.returns-else-n-half
unfolding twos
returns-else-n-half c =
    let fits : (z : ℤ) → z ≡ twos c.args.half c.args.n → SFits w64 z = λ z e. rw e (small_fits (twos c.args.half c.args.n) (omega (arith, twos_size c.args.half c.args.n c.requires.0))) in
    let number : to_z w64 c.args.n ≡ pos c.args.n = back_small (pos c.args.n) (omega arith) in
    let twice : to_z w64 (2 * c.args.half) ≡ pos (2 * c.args.half) = back_small (pos (2 * c.args.half)) (omega arith) in
    let high : to_z w64 c.args.n -ℤ to_z w64 (2 * c.args.half) ≡ twos c.args.half c.args.n = rw (number, twice, le-ltb _ _ c.if-n-half.false) refl in
    rw (back _ (fits _ (high)).sfits, high) (refl, twos_size c.args.half c.args.n c.requires.0)
