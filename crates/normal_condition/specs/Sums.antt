-- The normal form of a sum's terms, printed one by one. Assumes nothing.
use Rattle.std.specs.Prelude.{ℕ, ◌+◌, ◌*◌, ◌-◌, ◌^◌, ◌≤◌, ◌<◌, ◌≡◌, Bool, List, ℤ, length}
use Rattle.std.proofs.Common.{arith, sym, ap, ◌∙◌}
use Rattle.block.specs.Sums.{few_terms}
use Rattle.block.specs.Terms.{term_of, terms_at, length_terms, rest_all, rest_next, rest_none, SumAt}
use Rattle.output.specs.Writing.{Written, Writing, writing_start, writing_rest, writing_step, writing_end}
use Rattle.normal_condition.specs.Signs.{negate_if, negate_term_if, kept_bytes, sum_bytes, sum_nil, sum_cons, length_sum}

-- ---- the terms written one by one

pub sum_start :
    (m : Bool) (part : List ℕ) (from n : ℕ) (old : List ℕ) (at : ℕ)
    → Writing old at (sum_bytes m (terms_at part from n)) old at (sum_bytes m (terms_at part (from + 4 * 0) (n - 0)))
sum_start m part from n old at =
    writing_rest (writing_start old at (sum_bytes m (terms_at part from n))) (ap (sum_bytes m) (sym (rest_all part from n)))

pub sum_step :
    (m : Bool) (part : List ℕ) (from n : ℕ) {old : List ℕ} {at : ℕ} {bs new next : List ℕ} {to on : ℕ} (i : ℕ) {v : ℕ} {w : ℤ}
    → i < n
    → Writing old at bs new to (sum_bytes m (terms_at part (from + 4 * i) (n - i)))
    → v ≡ (term_of part (from + 4 * i)).var
    → w ≡ negate_if m (term_of part (from + 4 * i)).weight
    → Written new to (kept_bytes (record { var = v; weight = w })) next on
    → Writing old at bs next on (sum_bytes m (terms_at part (from + 4 * (i + 1)) (n - (i + 1))))
unfolding negate_term_if
sum_step m part from n i {v} {w} h p e f q =
    let first = ap (sum_bytes m) (rest_next part from n i h) ∙ sum_cons m (term_of part (from + 4 * i)) (terms_at part (from + 4 * (i + 1)) (n - (i + 1))) in
    writing_step (writing_rest p first) (rw (e, f) at q)

-- all are written
pub sum_done :
    (m : Bool) (part : List ℕ) (from n i : ℕ) {old : List ℕ} {at : ℕ} {bs new : List ℕ} {to : ℕ}
    → n ≤ i
    → Writing old at bs new to (sum_bytes m (terms_at part (from + 4 * i) (n - i)))
    → Written old at bs new to
sum_done m part from n i h p = writing_end (writing_rest p (ap (sum_bytes m) (rest_none part from n i h) ∙ sum_nil m))

-- a sum is short, so what closes it stands near
module _ (m : Bool) {part : List ℕ} {from n : ℕ} (s : SumAt part from n) where
  pub sum_short : length (sum_bytes m (terms_at part from n)) ≤ 32
  sum_short = omega (arith, length_sum m (terms_at part from n), length_terms part from n, few_terms s.terms)

  pub close_short :
      {old : List ℕ} {at : ℕ} {new : List ℕ} {to : ℕ}
      → at < 2 ^ 61
      → Written old at (sum_bytes m (terms_at part from n)) new to
      → to < 2 ^ 61 + 33
  close_short h w = omega (arith, w.behind, sum_short)
