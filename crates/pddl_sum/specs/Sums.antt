-- Sums of the PDDL text as they are written: the terms in their order, the constant, and all closing brackets. Assumes nothing.
use Rattle.std.specs.Prelude.{ℕ, zero, suc, ◌+◌, ◌*◌, ◌-◌, ◌≤◌, ◌<◌, ◌≡◌, refl, List, [], ◌∷◌, ◌++◌, ℤ, pos, negsuc, nat_abs, length, replicate, ◌≤ℤ◌, ◌<ℤ◌}
use Rattle.std.proofs.Common.{arith, sym, ap, append_assoc, append-nil}
use Rattle.std.proofs.lemmas.List.{length-replicate}
use Rattle.integer.specs.Linear.{lt_in}
use Rattle.model.specs.Ascii.{ascii}
use Rattle.model.specs.Listing.{decimal}
use Rattle.model.specs.Task.{Term}
use Rattle.model.specs.Pddl.{number_text, head_text, expression_text, sum_of}
use Rattle.pddl_sum.specs.Names.{name_text}
use Rattle.block.specs.Terms.{SumAt, term_of, terms_at, rest_all, rest_next, rest_none}
use Rattle.output.specs.Writing.{Written, Writing, writing_start, writing_rest, writing_end}

-- a number's text, by its sign
pub number_negative : (z : ℤ) → z <ℤ pos 0 → number_text z ≡ ascii "-" ++ decimal (nat_abs z)
unfolding number_text
number_negative (pos n) h = absurd (omega (arith, lt_in (pos n) (pos 0) h))
number_negative (negsuc n) h = refl

pub number_nonneg : (z : ℤ) → pos 0 ≤ℤ z → number_text z ≡ decimal (nat_abs z)
unfolding number_text
number_nonneg (pos n) h = refl
number_nonneg (negsuc n) h = absurd h.le

-- what opens the sum of a term and the rest
unfoldable pub term_text : Term → List ℕ
term_text t = ascii "(+ (* " ++ number_text t.weight ++ name_text (ascii " (v") t.var ++ ascii ") "

unfoldable pub term_texts : List Term → List ℕ
term_texts [] = []
term_texts (t ∷ ts) = term_text t ++ term_texts ts

-- a closing bracket for each of the n terms
unfoldable pub closes : ℕ → List ℕ
closes n = replicate n 41

closes_last : (n : ℕ) → closes n ++ ascii ")" ≡ closes (suc n)
unfolding closes ascii
closes_last zero = refl
closes_last (suc n) = ap (λ (l : List ℕ). 41 ∷ l) (closes_last n)

-- the sum's text is what opens it, its constant and what closes it
pub sum_text : (ts : List Term) (c : ℤ) → term_texts ts ++ number_text c ++ closes (length ts) ≡ expression_text (sum_of ts c)
unfolding term_texts term_text name_text expression_text sum_of head_text
sum_text [] c = unfold closes in (append-nil (number_text c))
sum_text (t ∷ ts) c = rw (← sum_text ts c, ← closes_last (length ts)) (simp append_assoc (unfold ascii in refl))

-- ---- the terms written one by one

-- a term of a written sum stands there
pub record TermHere (part : List ℕ) (at : ℕ) : Type 0 where
  pub n : ℕ
  pub sum : SumAt part at n
  pub some : 0 < n

pub terms_start :
    (part : List ℕ) (from n : ℕ) (old : List ℕ) (at : ℕ)
    → Writing old at (term_texts (terms_at part from n)) old at (term_texts (terms_at part (from + 4 * 0) (n - 0)))
terms_start part from n old at =
    writing_rest (writing_start old at (term_texts (terms_at part from n))) (ap term_texts (sym (rest_all part from n)))

-- the next term and the others
pub terms_next :
    (part : List ℕ) (from n i : ℕ)
    → i < n
    → term_texts (terms_at part (from + 4 * i) (n - i))
    ≡ term_text (term_of part (from + 4 * i)) ++ term_texts (terms_at part (from + 4 * (i + 1)) (n - (i + 1)))
unfolding term_texts
terms_next part from n i h = ap term_texts (rest_next part from n i h)

-- all are written
pub terms_done :
    (part : List ℕ) (from n i : ℕ) {old : List ℕ} {at : ℕ} {bs new : List ℕ} {to : ℕ}
    → n ≤ i
    → Writing old at bs new to (term_texts (terms_at part (from + 4 * i) (n - i)))
    → Written old at bs new to
unfolding term_texts
terms_done part from n i h p = writing_end (writing_rest p (ap term_texts (rest_none part from n i h)))

-- ---- the closing brackets one by one

pub length_closes : (n : ℕ) → length (closes n) ≡ n
unfolding closes
length_closes n = length-replicate n 41

pub closes_start : (n : ℕ) (old : List ℕ) (at : ℕ) → Writing old at (closes n) old at (closes (n - 0))
closes_start n old at = let e : n - 0 ≡ n = omega arith in rw e (writing_start old at (closes n))

pub closes_next : (n i : ℕ) → i < n → closes (n - i) ≡ ascii ")" ++ closes (n - (i + 1))
unfolding closes ascii
closes_next n i h = let e : n - i ≡ suc (n - (i + 1)) = omega arith in rw e refl

pub closes_done :
    (n i : ℕ) {old : List ℕ} {at : ℕ} {bs new : List ℕ} {to : ℕ} → n ≤ i → Writing old at bs new to (closes (n - i)) → Written old at bs new to
unfolding closes
closes_done n i h p = let e : n - i ≡ 0 = omega arith in writing_end (rw e at p)
