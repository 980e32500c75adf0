-- The operands of a well-formed task pass check 4 of document 01, "operand out of range": each is in its range, small enough
-- for its width, and a comparison's or a kind's code reads back. Assumes nothing.
use Rattle.std.specs.Prelude.{ℕ, ◌+◌, ◌*◌, ◌≤◌, ◌%◌, ◌≡◌, refl, T, leb, eqb, ℤ, pos, neg_ℤ, nat_abs}
use Rattle.std.proofs.Common.{arith}
use Rattle.std.proofs.Math.Dec.{le→leb}
use Rattle.std.specs.Int.Signed.{le_z}
use Rattle.integer.specs.Linear.{zlin, le_le_z, size_within, neg_up, neg_dn}
use Rattle.model.specs.Limits.{Limits, weight_in_range, comparison_in_range, kind_in_range, bound_in_range, vars_in_range}
use Rattle.model.specs.Task.{Form, written, normal, Comparison, at_least, above, at_most, below, equal, Kind, assign, increase, decrease}
use Rattle.model.specs.Command.{comparison_code, kind_code}
use Rattle.model.specs.Seen.{comparison_of, kind_of}
use Rattle.model.specs.Theorems.Reading.WellFormed.{WeightOk, ComparisonOk, KindOk, BoundOk, VarsOk}
use Rattle.model.proofs.Theorems.Laws.Booleans.{true_t, and_both}

pub comparison_back : (o : Comparison) → comparison_of (comparison_code o) ≡ o
unfolding comparison_of comparison_code
comparison_back at_least = refl
comparison_back above = refl
comparison_back at_most = refl
comparison_back below = refl
comparison_back equal = refl

pub kind_back : (k : Kind) → kind_of (kind_code k) ≡ k
unfolding kind_of kind_code
kind_back assign = refl
kind_back increase = refl
kind_back decrease = refl

pub comparison_range : (f : Form) (o : Comparison) → ComparisonOk f o → T (comparison_in_range f (comparison_code o))
unfolding comparison_in_range comparison_code
comparison_range written at_least ok = tt
comparison_range written above ok = tt
comparison_range written at_most ok = tt
comparison_range written below ok = tt
comparison_range written equal ok = tt
comparison_range normal at_least ok = tt
comparison_range normal above ok = absurd ok
comparison_range normal at_most ok = absurd ok
comparison_range normal below ok = absurd ok
comparison_range normal equal ok = absurd ok

pub kind_range : (f : Form) (k : Kind) → KindOk f k → T (kind_in_range f (kind_code k))
unfolding kind_in_range kind_code
kind_range written assign ok = tt
kind_range written increase ok = tt
kind_range written decrease ok = tt
kind_range normal assign ok = tt
kind_range normal increase ok = tt
kind_range normal decrease ok = absurd ok

module _ (L : Limits) where
  pub weight_range : (f : Form) (z : ℤ) → WeightOk L f z → T (weight_in_range L f z)
  unfolding weight_in_range
  weight_range written z ok = le→leb (nat_abs z) L.weight ok
  weight_range normal z ok =
      and_both (le_z (pos 1) z) (leb (nat_abs z) L.weight)
      (true_t (le_le_z ok.0)) (le→leb (nat_abs z) L.weight ok.1)

  pub bound_range : (f : Form) (z : ℤ) → BoundOk L f z → T (bound_in_range L f z)
  unfolding bound_in_range
  bound_range written z ok = le→leb (nat_abs z) L.constant ok
  bound_range normal z ok =
      and_both (le_z (neg_ℤ (pos L.constant)) z) (le_z z (pos (L.constant + 1)))
      (true_t (le_le_z ok.0)) (true_t (le_le_z ok.1))

  pub weight_size : (f : Form) (z : ℤ) → WeightOk L f z → nat_abs z ≤ L.weight
  weight_size written z ok = ok
  weight_size normal z ok = ok.1

  pub bound_size : (f : Form) (z : ℤ) → BoundOk L f z → nat_abs z ≤ L.constant + 1
  bound_size written z ok = omega arith
  bound_size normal z ok =
      let a = pos L.constant in
      let b = pos (L.constant + 1) in
      size_within z (L.constant + 1) (omega (zlin, neg_up a, neg_dn a, neg_up b, neg_dn b)) ok.1

pub vars_range : (L : Limits) (f : Form) (n : ℕ) → VarsOk L f n → T (vars_in_range L f n)
unfolding vars_in_range
vars_range L written n ok = le→leb n L.vars ok
vars_range L normal n ok = and_both (leb n (2 * L.vars)) (eqb (n % 2) 0) (le→leb n (2 * L.vars) ok.0) (rw ok.1 tt)
