-- What a signed variable is worth in the normal state, and that a signed sum has there the value of the sum it comes from.
-- Assumes nothing.
use Rattle.std.specs.Prelude.{ℕ, ◌+◌, ◌*◌, ◌/◌, ◌%◌, ◌≤◌, ◌≡◌, refl, List, [], ◌∷◌, map, ℤ, pos, neg_ℤ, ◌+ℤ◌, ◌*ℤ◌, ◌<ℤ◌, ◌≤ℤ◌}
use Rattle.std.proofs.Common.{arith, sym, ap, ap₂, ◌∙◌}
use Rattle.std.specs.Int.Signed.{lt_z, lt_z_yes}
use Rattle.integer.specs.Linear.{lt_false, neg_neg, neg_sum, neg-*, *-neg}
use Rattle.model.specs.Task.{Term, kept}
use Rattle.model.specs.Move.{State, sum}
use Rattle.model.specs.NormalForm.{negated, signed_term, signed_sum, normal_state}
use Rattle.model.proofs.Theorems.Laws.Booleans.{cond_cases, not-false}
use Rattle.model.proofs.Theorems.Reading.Kept.{kept_sum}
use Rattle.model.specs.Theorems.NormalForm.SignedSums.{even_term, negative, odd_term}

-- "Signed variable 2i is v_i and 2i+1 is −v_i."
pub even_value : (s : State) (i : ℕ) → (normal_state s).val (2 * i) ≡ s.val i
unfolding normal_state
even_value s i =
    let parity : (2 * i) % 2 ≡ 0 = omega arith in
    let half : (2 * i) / 2 ≡ i = omega arith in
    rw (parity, half) refl

pub odd_value : (s : State) (i : ℕ) → (normal_state s).val (2 * i + 1) ≡ neg_ℤ (s.val i)
unfolding normal_state
odd_value s i =
    let parity : (2 * i + 1) % 2 ≡ 1 = omega arith in
    let half : (2 * i + 1) / 2 ≡ i = omega arith in
    rw (parity, half) refl

pub signed_term_cases :
    (P : Term → Type 0) (t : Term)
    → (pos 0 <ℤ t.weight → P (even_term t))
    → (t.weight ≤ℤ pos 0 → P (odd_term t))
    → P (signed_term t)
unfolding signed_term
signed_term_cases P t plus minus =
    cond_cases P (lt_z (pos 0) t.weight) (even_term t) (odd_term t) (λ above. plus (lt_z_yes above))
    (λ not-above. minus (lt_false (pos 0) t.weight (not-false (lt_z (pos 0) t.weight) not-above)))

-- a signed term stands on 2i or 2i+1
pub signed_var : (t : Term) → (2 * t.var ≤ (signed_term t).var) × ((signed_term t).var ≤ 2 * t.var + 1)
signed_var t =
    signed_term_cases (λ (u : Term). (2 * t.var ≤ u.var) × (u.var ≤ 2 * t.var + 1)) t
    (λ plus. omega arith) (λ minus. omega arith)

-- a signed term is worth what its term is worth
signed_product :
    (s : State) (t : Term)
    → (signed_term t).weight *ℤ (normal_state s).val (signed_term t).var ≡ t.weight *ℤ s.val t.var
signed_product s t =
    signed_term_cases (λ (u : Term). u.weight *ℤ (normal_state s).val u.var ≡ t.weight *ℤ s.val t.var) t
    (λ plus. ap (λ (z : ℤ). t.weight *ℤ z) (even_value s t.var))
    (λ minus.
    ap (λ (z : ℤ). neg_ℤ t.weight *ℤ z) (odd_value s t.var)
    ∙ neg-* t.weight (neg_ℤ (s.val t.var))
    ∙ ap neg_ℤ (*-neg t.weight (s.val t.var))
    ∙ neg_neg (t.weight *ℤ s.val t.var))

signed_terms : (s : State) (ts : List Term) → sum (normal_state s).val (map signed_term ts) ≡ sum s.val ts
unfolding sum
signed_terms s [] = refl
signed_terms s (t ∷ ts) = ap₂ ◌+ℤ◌ (signed_product s t) (signed_terms s ts)

-- A signed sum has in the normal state the value of the sum that it comes from: what it drops contributes nothing.
pub signed_sum_lem : (s : State) (ts : List Term) → sum (normal_state s).val (signed_sum ts) ≡ sum s.val ts
unfolding signed_sum
signed_sum_lem s ts = signed_terms s (kept ts) ∙ kept_sum s.val ts

pub negated_map : (ts : List Term) → map negative ts ≡ negated ts
unfolding negated
negated_map [] = refl
negated_map (t ∷ ts) = ap (λ (us : List Term). negative t ∷ us) (negated_map ts)

-- its value is −S
pub negated_sum : (f : ℕ → ℤ) (ts : List Term) → sum f (negated ts) ≡ neg_ℤ (sum f ts)
unfolding sum negated
negated_sum f [] = refl
negated_sum f (t ∷ ts) =
    ap₂ ◌+ℤ◌ (neg-* t.weight (f t.var)) (negated_sum f ts) ∙ sym (neg_sum (t.weight *ℤ f t.var) (sum f ts))

pub signed_negated_sum :
    (s : State) (ts : List Term)
    → sum (normal_state s).val (signed_sum (negated ts)) ≡ neg_ℤ (sum s.val ts)
signed_negated_sum s ts = signed_sum_lem s (negated ts) ∙ negated_sum s.val ts
