-- Terms of weight 0 (document 02, request 2): what is left of a sum without them, that it has the same value and meets the same
-- checks, and that a normal sum loses nothing. Assumes nothing.
use Rattle.std.specs.Prelude.{ℕ, zero, suc, ◌≤◌, ◌<◌, ◌≡◌, Bool, List, [], ◌∷◌, T, eqb, ℤ, pos, negsuc, neg_ℤ, nat_abs, ◌+ℤ◌, ◌*ℤ◌, length}
use native.Mathlib.Omega.{arith}
use Rattle.std.proofs.Math.Path.{refl}
use Rattle.std.proofs.Common.{sym, ap, ◌∙◌, inl, inr, eqb→eq}
use Rattle.std.proofs.Math.Dec.{eqb_refl}
use Rattle.integer.specs.Linear.{zlin, zero-+, prod, nat_abs_split, abs_neg}
use Rattle.model.specs.Limits.{Limits}
use Rattle.model.specs.Lists.{In, any}
use Rattle.model.specs.Task.{normal, Term, kept}
use Rattle.model.specs.Move.{sum}
use Rattle.model.specs.NormalForm.{negated}
use Rattle.model.proofs.Theorems.Laws.Booleans.{or_left, or_right, or_cases, T-cases, T_true, not-false}
use Rattle.model.specs.Theorems.Reading.WellFormed.{All, Rising, TermOk}

-- ---- what it means

-- a term of weight 0 is dropped, every other is kept
pub kept_cases :
    (P : List Term → Type 0) (t : Term) (ts : List Term)
    → (nat_abs t.weight ≡ 0 → P (kept ts))
    → (0 < nat_abs t.weight → P (t ∷ kept ts))
    → P (kept (t ∷ ts))
unfolding kept
kept_cases P t ts drops keeps =
    T-cases (eqb (nat_abs t.weight) 0)
    (λ h. rw (kept, T_true (eqb (nat_abs t.weight) 0) h) (drops (eqb→eq (nat_abs t.weight) 0 h)))
    (λ h. rw (kept, not-false (eqb (nat_abs t.weight) 0) h) (keeps (above (nat_abs t.weight) h)))
  where
    above : (n : ℕ) → (T (eqb n 0) → ⊥) → 0 < n
    above zero h = absurd (h (eqb_refl 0))
    above (suc n) h = omega arith

-- the terms whose weight is not 0, and no other
pub kept_in : (t : Term) (ts : List Term) → In t (kept ts) → In t ts × (0 < nat_abs t.weight)
kept_in t [] h = absurd (unfold kept in h)
kept_in t (u ∷ ts) h =
    kept_cases (λ us. In t us → In t (u ∷ ts) × (0 < nat_abs t.weight)) u ts
    (λ zero i. let r = kept_in t ts i in (inr r.0, r.1))
    (λ weighs i. elim i [ inl e ↦ (inl e, rw e weighs) | inr later ↦ (let r = kept_in t ts later in (inr r.0, r.1)) ])
    h

pub in_kept : (t : Term) (ts : List Term) → In t ts → 0 < nat_abs t.weight → In t (kept ts)
in_kept t [] h w = absurd h
in_kept t (u ∷ ts) (inl e) w =
    kept_cases (In t) u ts (λ zero. absurd (omega (arith, ap (λ (x : Term). nat_abs x.weight) e))) (λ weighs. inl e)
in_kept t (u ∷ ts) (inr h) w = kept_cases (In t) u ts (λ zero. in_kept t ts h w) (λ weighs. inr (in_kept t ts h w))

zero_product : (w z : ℤ) → nat_abs w ≡ 0 → w *ℤ z ≡ pos 0
zero_product (pos zero) z h = omega (zlin, prod (pos 0) z)
zero_product (pos (suc n)) z h = absurd (omega arith)
zero_product (negsuc n) z h = absurd (omega arith)

-- "read as no contribution": the sum of what is kept is the sum
pub kept_sum : (f : ℕ → ℤ) (ts : List Term) → sum f (kept ts) ≡ sum f ts
unfolding sum
kept_sum f [] = unfold kept in refl
kept_sum f (t ∷ ts) =
    kept_cases (λ us. sum f us ≡ sum f (t ∷ ts)) t ts
    (λ zero. kept_sum f ts ∙ sym (ap (λ (z : ℤ). z +ℤ sum f ts) (zero_product t.weight (f t.var) zero) ∙ zero-+ (sum f ts)))
    (λ weighs. ap (λ (z : ℤ). (t.weight *ℤ f t.var) +ℤ z) (kept_sum f ts))

-- what is kept is kept again
pub kept_again : (ts : List Term) → kept (kept ts) ≡ kept ts
kept_again [] = unfold kept in refl
kept_again (t ∷ ts) =
    kept_cases (λ us. kept us ≡ us) t ts (λ zero. kept_again ts)
    (λ weighs.
    kept_cases (λ us. us ≡ t ∷ kept ts) t (kept ts) (λ zero. absurd (omega arith))
    (λ also. ap (λ (us : List Term). t ∷ us) (kept_again ts)))

-- ---- checks
pub kept_length : (ts : List Term) → length (kept ts) ≤ length ts
kept_length [] = unfold kept in omega arith
kept_length (t ∷ ts) =
    kept_cases (λ us. length us ≤ length (t ∷ ts)) t ts (λ zero. omega (arith, kept_length ts)) (λ weighs. omega (arith, kept_length ts))

-- what holds of every term holds of those kept, and these have weight
pub kept_weighs : (P : Term → Type 0) (ts : List Term) → All P ts → All (λ (t : Term). P t × (0 < nat_abs t.weight)) (kept ts)
kept_weighs P [] a = unfold kept in tt
kept_weighs P (t ∷ ts) a =
    kept_cases (All (λ (t : Term). P t × (0 < nat_abs t.weight))) t ts
    (λ zero. kept_weighs P ts a.1) (λ weighs. ((a.0, weighs), kept_weighs P ts a.1))

pub kept_all : (P : Term → Type 0) (ts : List Term) → All P ts → All P (kept ts)
kept_all P [] a = unfold kept in tt
kept_all P (t ∷ ts) a = kept_cases (All P) t ts (λ zero. kept_all P ts a.1) (λ weighs. (a.0, kept_all P ts a.1))

-- what is kept rises as the sum does
pub kept_rising : (ts : List Term) → Rising ts → Rising (kept ts)
kept_rising [] r = unfold kept in tt
kept_rising (t ∷ ts) r =
    kept_cases Rising t ts (λ zero. kept_rising ts r.1)
    (λ weighs. (kept_all (λ (u : Term). t.var < u.var) ts r.0, kept_rising ts r.1))

-- "normal tables still begin at weight 1": of a normal sum all is kept
pub kept_normal : (L : Limits) (vars : ℕ) (ts : List Term) → All (TermOk L normal vars) ts → kept ts ≡ ts
kept_normal L vars [] a = unfold kept in refl
kept_normal L vars (t ∷ ts) a =
    kept_cases (λ us. us ≡ t ∷ ts) t ts (λ zero. absurd (omega (zlin, a.0.weight.0, nat_abs_split t.weight)))
    (λ weighs. ap (λ (us : List Term). t ∷ us) (kept_normal L vars ts a.1))

-- ---- tests and signs
pub kept_any : (f : Term → Bool) (ts : List Term) → T (any f (kept ts)) → T (any f ts)
unfolding any
kept_any f [] h = unfold kept in h
kept_any f (t ∷ ts) h =
    kept_cases (λ us. T (any f us) → T (any f (t ∷ ts))) t ts
    (λ zero g. or_right (f t) (any f ts) (kept_any f ts g))
    (λ weighs g. or_cases (f t) (any f (kept ts)) g (or_left (f t) (any f ts)) (λ later. or_right (f t) (any f ts) (kept_any f ts later)))
    h

-- −S keeps what S keeps
pub kept_negated : (ts : List Term) → kept (negated ts) ≡ negated (kept ts)
unfolding negated
kept_negated [] = unfold kept in refl
kept_negated (t ∷ ts) =
    kept_cases (λ us. kept (negative ∷ negated ts) ≡ negated us) t ts
    (λ zero. minus (negated (kept ts)) (λ also. kept_negated ts) (λ weighs. absurd (omega (arith, abs_neg t.weight))))
    (λ weighs.
    minus (negative ∷ negated (kept ts)) (λ zero. absurd (omega (arith, abs_neg t.weight)))
    (λ also. ap (λ (us : List Term). negative ∷ us) (kept_negated ts)))
  where
    negative : Term
    negative = record { var = t.var; weight = neg_ℤ t.weight }

    minus :
        (us : List Term)
        → (nat_abs (neg_ℤ t.weight) ≡ 0 → kept (negated ts) ≡ us)
        → (0 < nat_abs (neg_ℤ t.weight) → negative ∷ kept (negated ts) ≡ us)
        → kept (negative ∷ negated ts) ≡ us
    minus us f g = kept_cases (λ ws. ws ≡ us) negative (negated ts) f g
