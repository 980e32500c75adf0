-- `unsigned_at` meets its contract. The invariant: `n` is the number in the bytes passed.
-- Assumes nothing.
use mathlib.Core.Path.{◌≡◌, refl, sym}
use Prim.Native.Nat.{ℕ, ◌+◌, ◌*◌, ◌^◌, ◌<◌}
use lib.ListN.{get_or}
use native.Mathlib.Numerals.{add-one}
use native.Mathlib.Omega.{arith}
use Rattle.integer.specs.BigEndian.{unsigned}
use Rattle.integer.proofs.BigEndian.{unsigned_next, next_small, eight_small}
use Rattle.integer.proofs.unsigned_at.Goals as goal

pub loop-i-init : goal.loop-i-init
unfolding unsigned
loop-i-init c = (refl, omega arith)

-- one byte more fits eight bytes
room : (n i b : ℕ) → n < 256 ^ i → b < 256 → i < 8 → n * 256 + b < 2 ^ 64
room n i b h k l = omega (arith, next_small n i b h k, eight_small l)

pub overflow_mul-n : goal.overflow_mul-n
overflow_mul-n c = omega (arith, room c.loop-i.n c.loop-i.i 0 c.loop-i.invariant.1 (omega arith) (omega arith))

pub overflow_add-n-in-loop-i : goal.overflow_add-n-in-loop-i
overflow_add-n-in-loop-i c =
    let l = c.loop-i in
    let k = c.args.at + l.i in
    omega (arith, room l.n l.i (get_or c.args.s.now k 0) l.invariant.1 (c.type_inv.s k).fits (omega arith))

pub loop-i-preserved : goal.loop-i-preserved
loop-i-preserved c =
    let l = c.loop-i in
    let a = c.args in
    let k = a.at + l.i in
    rw (add-one l.i) (
      rw l.invariant.0 (sym (unsigned_next a.s.now a.at l.i (omega arith))),
      next_small l.n l.i (get_or a.s.now k 0) l.invariant.1 (c.type_inv.s k).fits,
    )

pub returns : goal.returns
returns c =
    let e : c.loop-i.i ≡ c.args.width = omega arith in
    rw (← e) (c.loop-i.invariant.0, c.loop-i.invariant.1)
