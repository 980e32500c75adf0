-- The terms of a sum as they stand in the part of a block of a written table. Assumes nothing.
use Prim.Native.Nat.{ℕ, zero, suc, ◌+◌, ◌*◌, ◌-◌, ◌≤◌, ◌<◌}
use native.Mathlib.Omega.{arith}
use Rattle.std.specs.Prelude.{◌≡◌, refl, List, [], ◌∷◌, ℤ, length, get_or, take, drop}
use Rattle.std.proofs.Math.Path.{sym, ap}
use Rattle.std.proofs.Common.{ap₂, ◌∙◌}
use Rattle.integer.specs.BigEndian.{signed}
use Rattle.model.specs.Task.{Term}
use Rattle.block.specs.Items.{Ranges, Terms, TermAt, IsVariable, IsWeight, first_of, term_at, term_var, term_weight, term_var_small, terms_behind, terms_place}

-- the term at an offset, and the n terms from there on
unfoldable pub term_of : List ℕ → ℕ → Term
term_of part at = record { var = get_or part (at + 1) 0; weight = signed (take 2 (drop (at + 2) part)) }

unfoldable pub terms_at : List ℕ → ℕ → ℕ → List Term
terms_at part from zero = []
terms_at part from (suc n) = term_of part from ∷ terms_at part (from + 4) n

pub length_terms : (part : List ℕ) (from n : ℕ) → length (terms_at part from n) ≡ n
unfolding terms_at
length_terms part from zero = refl
length_terms part from (suc n) = ap suc (length_terms part (from + 4) n)

-- the terms from term i on: first all of them, then the next one and those behind it, at last none
module _ (part : List ℕ) (from n : ℕ) where
  pub rest_all : terms_at part (from + 4 * 0) (n - 0) ≡ terms_at part from n
  rest_all =
      let f : from + 4 * 0 ≡ from = omega arith in
      let g : n - 0 ≡ n = omega arith in
      rw (f, g) refl

  pub rest_next :
      (i : ℕ) → i < n
      → terms_at part (from + 4 * i) (n - i) ≡ term_of part (from + 4 * i) ∷ terms_at part (from + 4 * (i + 1)) (n - (i + 1))
  unfolding terms_at
  rest_next i h =
      let k : n - i ≡ suc (n - (i + 1)) = omega arith in
      let j : from + 4 * i + 4 ≡ from + 4 * (i + 1) = omega arith in
      ap (terms_at part (from + 4 * i)) k
      ∙ ap (λ (a : ℕ). term_of part (from + 4 * i) ∷ terms_at part a (n - (i + 1))) j

  pub rest_none : (i : ℕ) → n ≤ i → terms_at part (from + 4 * i) (n - i) ≡ []
  unfolding terms_at
  rest_none i h =
      let e : n - i ≡ 0 = omega arith in
      ap (terms_at part (from + 4 * i)) e

-- they are the terms that stand there
pub terms_read : {k : Ranges} {part : List ℕ} {from n : ℕ} {ts : List Term} → Terms k part from n ts → terms_at part from n ≡ ts
unfolding terms_at term_of
terms_read {k} {part} {from} {n} {ts} h = go n from ts h
  where
    go : (m at : ℕ) (l : List Term) → Terms k part at m l → terms_at part at m ≡ l
    go zero at [] g = refl
    go zero at (t ∷ l) g = absurd (omega (arith, g.many))
    go (suc m) at [] g = absurd (omega (arith, g.many))
    go (suc m) at (t ∷ l) g =
        ap₂ (λ (u : Term) (us : List Term). u ∷ us)
        (ap₂ (λ (v : ℕ) (w : ℤ). record { var = v; weight = w }) (term_var g) (term_weight g))
        (go m (at + 4) l (terms_behind g m refl))

-- n terms of a written sum stand there
pub record SumAt (part : List ℕ) (from n : ℕ) : Type 0 where
  pub ranges : Ranges
  pub few : ranges.vars ≤ 16
  pub ts : List Term
  pub terms : Terms ranges part from n ts

pub sum_behind : {part : List ℕ} {from n : ℕ} (i : ℕ) → SumAt part from n → i ≤ n → SumAt part (from + 4 * i) (n - i)
sum_behind {part} {from} {n} i s h = go i from n s.ts s.terms h
  where
    go : (j at m : ℕ) (l : List Term) → Terms s.ranges part at m l → j ≤ m → SumAt part (at + 4 * j) (m - j)
    go zero at m l g p =
        record { ranges = s.ranges; few = s.few; ts = l; terms = terms_place g (omega arith) (omega arith) }
    go (suc j) at m l g p =
        let f = first_of g (omega arith) in
        let r = go j (at + 4) (m - 1) f.others (terms_behind f.terms (m - 1) (omega arith)) (omega arith) in
        record { ranges = r.ranges; few = r.few; ts = r.ts; terms = terms_place r.terms (omega arith) (omega arith) }

-- a weight that is read is that of the term
pub weight_read : {part : List ℕ} {at : ℕ} {w : ℤ} → TermAt part at → IsWeight part at w → w ≡ (term_of part at).weight
unfolding term_of
weight_read h q = q.is h.ranges h.n h.first h.others h.terms ∙ sym (term_weight h.terms)

-- its first term
module _ {part : List ℕ} {at n : ℕ} (s : SumAt part at n) (h : 0 < n) where
  pub sum_term : TermAt part at
  sum_term = term_at (first_of s.terms h).terms

  pub term_variable : {v : ℕ} → IsVariable part at v → (v ≡ (term_of part at).var) × (v < 16)
  unfolding term_of
  term_variable q =
      let f = first_of s.terms h in
      let e = q.is s.ranges n f.first f.others f.terms in
      (e ∙ sym (term_var f.terms), omega (arith, term_var_small f.terms, s.few))

  pub term_weighs : {w : ℤ} → IsWeight part at w → w ≡ (term_of part at).weight
  term_weighs q = weight_read sum_term q
