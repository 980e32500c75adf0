-- `runs` meets its contract. Assumes nothing.
use Prim.Native.Nat.{zero, suc}
use native.Mathlib.Omega.{arith}
use mathlib.Core.Path.{◌≡◌, refl, sym, ap, ◌∙◌, subst}
use lib.Dec.{T}
use lib.IntN.{ℤ, pos, negsuc, nat_abs, ◌-ℤ◌}
use lib.Signed.{non_neg}
use Rattle.std.proofs.lemmas.Int.{ints}
use Rattle.std.specs.Int.{int_max}
use Rattle.integer.specs.Linear.{back, up, mag_size, abs_sub, op2_fits, op2_back}
use Rattle.integer.specs.Ceiling.{ceiling}
use Rattle.taking.specs.Taking.{runs_first, runs_other}
use Rattle.taking.proofs.runs.Goals as goal

pub returns-then-kind-eq0 : goal.returns-then-kind-eq0
returns-then-kind-eq0 c = let a = c.args in runs_first a.kind a.target a.old a.value c.if-kind-eq0.true

pub step_size-d-requires : goal.step_size-d-requires
step_size-d-requires c = rw (back c.args.value c.ranges.value.sfits) (c.requires.2 c.if-kind-eq0.false)

pub overflow_sub-target : goal.overflow_sub-target
overflow_sub-target c =
    let a = c.args in
    op2_fits ◌-ℤ◌ a.target a.old c.ranges.target c.ranges.old (omega (arith, abs_sub a.target a.old, c.requires.0, c.requires.1))

pub ceil_div-requires : goal.ceil_div-requires
ceil_div-requires c =
    let a = c.args in
    let size = abs_sub a.target a.old in
    rw (op2_back ◌-ℤ◌ a.target a.old c.ranges.target c.ranges.old (omega (arith, size, c.requires.0, c.requires.1)))
    (c.step_size-d.ensures.1, omega (arith, size, c.step_size-d.ensures.2, c.requires.0, c.requires.1))

-- the larger of z and 0
larger_is : (z : ℤ) → T (non_neg (int_max z (pos 0))) × (nat_abs (int_max z (pos 0)) ≡ up z)
larger_is (pos zero) = (tt, refl)
larger_is (pos (suc n)) =
    let e : int_max (pos (suc n)) (pos 0) ≡ pos (suc n) = grind (arith, ints) in
    rw e (tt, refl)
larger_is (negsuc n) = (tt, refl)

pub overflow_cast-result : goal.overflow_cast-result
overflow_cast-result c =
    let z = c.ceil_div.result in
    let e : c.max.result ≡ int_max z (pos 0) = rw (back z c.ceil_div.type_inv) at c.max.ensures.value in
    rw (back c.max.result c.max.type_inv)
    (subst (λ (y : ℤ). T (non_neg y)) (sym e) (larger_is z).0, record { fits = omega (arith, mag_size c.max.result c.max.type_inv) })

pub returns : goal.returns
returns c =
    let a = c.args in
    let z = c.ceil_div.result in
    let e : c.max.result ≡ int_max z (pos 0) = rw (back z c.ceil_div.type_inv) at c.max.ensures.value in
    let difference = op2_back ◌-ℤ◌ a.target a.old c.ranges.target c.ranges.old (omega (arith, abs_sub a.target a.old, c.requires.0, c.requires.1)) in
    runs_other a.kind a.target a.old a.value c.if-kind-eq0.false
    (λ w f.
    ap nat_abs (back c.max.result c.max.type_inv ∙ e)
    ∙ (larger_is z).1
    ∙ ap up
    (c.ceil_div.ensures.0
    ∙ ap (λ (y : ℤ). ceiling y c.step_size-d.result) difference
    ∙ ap (ceiling (a.target -ℤ a.old)) ((rw (back a.value c.ranges.value.sfits) at c.step_size-d.ensures.0).is w f)))
