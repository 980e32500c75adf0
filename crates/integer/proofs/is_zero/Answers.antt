-- `is_zero` meets its contract: a signed local is 0 where its size is. Assumes nothing.
use Prim.Native.Nat.{suc, ◌-◌, ◌<◌, ◌^◌}
use native.Mathlib.Omega.{arith}
use mathlib.Core.Path.{◌≡◌, refl, sym, ◌∙◌}
use borrow.Author.Tests.{ne_eqb}
use lib.Dec.{eqb}
use lib.IntN.{ℤ, pos, negsuc, nat_abs}
use lib.Signed.{mag}
use mir.Syntax.{w64}
use mir.Val.{of_z}
use Rattle.integer.proofs.is_zero.Goals as goal

test : (z : ℤ) → mag z < 2 ^ 63 → eqb (of_z w64 z) 0 ≡ eqb (nat_abs z) 0
test (pos n) h = refl
test (negsuc n) h =
    let small : n < 2 ^ 63 = h in
    ne_eqb (2 ^ 64 - suc n) 0 (λ e. omega arith) ∙ sym (ne_eqb (suc n) 0 (λ e. omega arith))

pub returns : goal.returns
returns c = test c.args.z c.ranges.z.sfits
