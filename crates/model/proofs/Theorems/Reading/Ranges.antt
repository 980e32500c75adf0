-- Check 4 of document 01, "operand out of range": a test that passes says that the number is in its range, and a comparison or
-- a kind in range has the code that was read. Assumes nothing.
use Rattle.std.specs.Prelude.{ℕ, zero, suc, ◌+◌, ◌*◌, ◌%◌, ◌≤◌, ◌≡◌, refl, T, eqb, leb, ℤ, pos, neg_ℤ, nat_abs}
use Rattle.std.proofs.Common.{arith, sym, subst, eqb→eq, leb→le}
use Rattle.std.specs.Int.Signed.{le_z}
use Rattle.model.specs.Limits.{Limits, vars_in_range, weight_in_range, comparison_in_range, kind_in_range, bound_in_range}
use Rattle.model.specs.Task.{Form, written, normal}
use Rattle.model.specs.Command.{comparison_code, kind_code}
use Rattle.model.specs.Seen.{comparison_of, kind_of}
use Rattle.model.specs.Theorems.Reading.WellFormed.{WeightOk, ComparisonOk, KindOk, BoundOk, VarsOk}
use Rattle.model.proofs.Theorems.Laws.Booleans.{and_left, and_right}

pub vars_in_range_lem : (L : Limits) (f : Form) (n : ℕ) → T (vars_in_range L f n) → VarsOk L f n
unfolding vars_in_range
vars_in_range_lem L written n h = leb→le n L.vars h
vars_in_range_lem L normal n h =
    (leb→le n (2 * L.vars) (and_left (leb n (2 * L.vars)) (eqb (n % 2) 0) h), eqb→eq (n % 2) 0 (and_right (leb n (2 * L.vars)) (eqb (n % 2) 0) h))

pub weight_in_range_lem : (L : Limits) (f : Form) (z : ℤ) → T (weight_in_range L f z) → WeightOk L f z
unfolding weight_in_range
weight_in_range_lem L written z h = leb→le (nat_abs z) L.weight h
weight_in_range_lem L normal z h =
    let a = le_z (pos 1) z in
    let b = leb (nat_abs z) L.weight in
    (record { le = and_left a b h }, leb→le (nat_abs z) L.weight (and_right a b h))

pub bound_in_range_lem : (L : Limits) (f : Form) (z : ℤ) → T (bound_in_range L f z) → BoundOk L f z
unfolding bound_in_range
bound_in_range_lem L written z h = leb→le (nat_abs z) L.constant h
bound_in_range_lem L normal z h =
    let a = le_z (neg_ℤ (pos L.constant)) z in
    let b = le_z z (pos (L.constant + 1)) in
    (record { le = and_left a b h }, record { le = and_right a b h })

-- a written comparison's number is one of the five
pub one_of_five : (n : ℕ) → T (comparison_in_range written n) → n ≤ 4
unfolding comparison_in_range
one_of_five n h = leb→le n 4 h

pub comparison_in_range_lem : (f : Form) (n : ℕ) → T (comparison_in_range f n) → ComparisonOk f (comparison_of n) × (comparison_code (comparison_of n) ≡ n)
unfolding comparison_in_range comparison_of comparison_code
comparison_in_range_lem written n h = (tt, go n (one_of_five n h))
  where
    go : (m : ℕ) → m ≤ 4 → comparison_code (comparison_of m) ≡ m
    go zero k = refl
    go (suc zero) k = refl
    go (suc (suc zero)) k = refl
    go (suc (suc (suc zero))) k = refl
    go (suc (suc (suc (suc m)))) k = omega arith
comparison_in_range_lem normal n h =
    subst (λ (m : ℕ). ComparisonOk normal (comparison_of m) × (comparison_code (comparison_of m) ≡ m)) (sym (eqb→eq n 0 h)) (tt, refl)

pub kind_in_range_lem : (f : Form) (n : ℕ) → T (kind_in_range f n) → KindOk f (kind_of n) × (kind_code (kind_of n) ≡ n)
unfolding kind_in_range kind_of kind_code
kind_in_range_lem written n h = (tt, go n (leb→le n 2 h))
  where
    go : (m : ℕ) → m ≤ 2 → kind_code (kind_of m) ≡ m
    go zero k = refl
    go (suc zero) k = refl
    go (suc (suc m)) k = omega arith
kind_in_range_lem normal n h = go n (leb→le n 1 h)
  where
    go : (m : ℕ) → m ≤ 1 → KindOk normal (kind_of m) × (kind_code (kind_of m) ≡ m)
    go zero k = (tt, refl)
    go (suc zero) k = (tt, refl)
    go (suc (suc m)) k = absurd (omega arith)
