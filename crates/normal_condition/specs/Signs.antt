-- The signs of a sum: S or −S by a flag, and the bytes of its signed terms (document 01, "Normal form").
-- Assumes nothing.
use Rattle.std.specs.Prelude.{ℕ, ◌+◌, ◌*◌, ◌≤◌, ◌≡◌, Bool, true, false, not, List, [], ◌∷◌, ◌++◌, map, eqb, ℤ, pos, neg_ℤ, nat_abs, length}
use Rattle.std.proofs.Common.{arith, sym, ap, ap₂, ◌∙◌}
use Rattle.std.proofs.Math.Path.{refl}
use Rattle.std.proofs.lemmas.List.{length-map}
use Rattle.std.specs.Int.Signed.{lt_z}
use Rattle.integer.specs.Linear.{neg_neg}
use Rattle.model.specs.Task.{Term, kept}
use Rattle.model.specs.Command.{term_bytes}
use Rattle.model.specs.NormalForm.{negated, signed_term, signed_sum}
use Rattle.model.proofs.Theorems.Reading.Kept.{kept_length}
use Rattle.model.specs.Theorems.NormalForm.SignedSums.{negative}
use Rattle.model.proofs.Theorems.NormalForm.SignedSums.{negated_map}
use Rattle.model.proofs.Theorems.Printing.Items.{length_terms}
use Rattle.block.specs.Items.{first_term}

-- z, or −z
unfoldable pub negate_if : Bool → ℤ → ℤ
negate_if true z = neg_ℤ z
negate_if false z = z

-- S, or −S
unfoldable pub negate_sum_if : Bool → List Term → List Term
negate_sum_if true ts = negated ts
negate_sum_if false ts = ts

unfoldable pub negate_term_if : Bool → Term → Term
negate_term_if m t = record { var = t.var; weight = negate_if m t.weight }

pub negate_nil : (m : Bool) → negate_sum_if m [] ≡ []
unfolding negate_sum_if negated
negate_nil true = refl
negate_nil false = refl

pub negate_cons : (m : Bool) (t : Term) (ts : List Term) → negate_sum_if m (t ∷ ts) ≡ negate_term_if m t ∷ negate_sum_if m ts
unfolding negate_sum_if negate_term_if negate_if negated
negate_cons true t ts = refl
negate_cons false t ts = refl

negated_negated : (ts : List Term) → negated (negated ts) ≡ ts
unfolding negated
negated_negated [] = refl
negated_negated (t ∷ ts) =
    ap₂ (λ (w : ℤ) (us : List Term). record { var = t.var; weight = w } ∷ us) (neg_neg t.weight) (negated_negated ts)

-- negated once more
pub negate_again : (m : Bool) (ts : List Term) → negate_sum_if (not m) ts ≡ negated (negate_sum_if m ts)
unfolding negate_sum_if
negate_again true ts = sym (negated_negated ts)
negate_again false ts = refl

-- the bytes of the signed terms of S, or of −S
unfoldable pub sum_bytes : Bool → List Term → List ℕ
sum_bytes m ts = term_bytes (signed_sum (negate_sum_if m ts))

pub sum_nil : (m : Bool) → sum_bytes m [] ≡ []
unfolding sum_bytes signed_sum kept term_bytes
sum_nil m = ap (λ (ts : List Term). term_bytes (signed_sum ts)) (negate_nil m)

-- the bytes of one of them; of weight 0, "the normal form drops it"
unfoldable pub kept_bytes : Term → List ℕ
kept_bytes t = elim (eqb (nat_abs t.weight) 0) [ true ↦ [] | false ↦ first_term (signed_term t) ]

module _ (t : Term) where
  pub bytes_dropped : eqb (nat_abs t.weight) 0 ≡ true → [] ≡ kept_bytes t
  unfolding kept_bytes
  bytes_dropped e = rw (kept_bytes, e) refl

  pub bytes_kept : eqb (nat_abs t.weight) 0 ≡ false → first_term (signed_term t) ≡ kept_bytes t
  unfolding kept_bytes
  bytes_kept e = rw (kept_bytes, e) refl

kept_first : (t : Term) (ts : List Term) → term_bytes (signed_sum (t ∷ ts)) ≡ kept_bytes t ++ term_bytes (signed_sum ts)
unfolding signed_sum kept term_bytes kept_bytes first_term
kept_first t ts = go (eqb (nat_abs t.weight) 0)
  where
    go :
        (b : Bool)
        → term_bytes (map signed_term (elim b [ true ↦ kept ts | false ↦ t ∷ kept ts ]))
        ≡ elim b [ true ↦ [] | false ↦ first_term (signed_term t) ] ++ term_bytes (map signed_term (kept ts))
    go true = refl
    go false = refl

pub sum_cons : (m : Bool) (t : Term) (ts : List Term) → sum_bytes m (t ∷ ts) ≡ kept_bytes (negate_term_if m t) ++ sum_bytes m ts
unfolding sum_bytes
sum_cons m t ts =
    ap (λ (us : List Term). term_bytes (signed_sum us)) (negate_cons m t ts) ∙ kept_first (negate_term_if m t) (negate_sum_if m ts)

negate_length : (m : Bool) (ts : List Term) → length (negate_sum_if m ts) ≡ length ts
unfolding negate_sum_if
negate_length true ts = rw (← negated_map ts) (length-map ts negative)
negate_length false ts = refl

-- no longer than the terms themselves
pub length_sum : (m : Bool) (ts : List Term) → length (sum_bytes m ts) ≤ 4 * length ts
unfolding sum_bytes signed_sum
length_sum m ts =
    let us = kept (negate_sum_if m ts) in
    omega (arith, length_terms (map signed_term us), length-map us signed_term, kept_length (negate_sum_if m ts), negate_length m ts)

-- "A weight w above 0 becomes w on 2i, below 0 becomes −w on 2i+1."
module _ (v : ℕ) (w : ℤ) where
  pub signed_above : lt_z (pos 0) w ≡ true → signed_term (record { var = v; weight = w }) ≡ record { var = 2 * v; weight = w }
  unfolding signed_term
  signed_above e = rw e refl

  pub signed_below : lt_z (pos 0) w ≡ false → signed_term (record { var = v; weight = w }) ≡ record { var = 2 * v + 1; weight = neg_ℤ w }
  unfolding signed_term
  signed_below e = rw e refl
