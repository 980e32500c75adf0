-- The bytes of normal effects, in the terms of the written one (document 01, "Normal form").
-- Assumes nothing.
use Rattle.std.specs.Prelude.{ℕ, ◌+◌, ◌*◌, ◌≤◌, ◌≡◌, Bool, true, false, not, List, ◌∷◌, ◌++◌, ℤ, neg_ℤ, length}
use Rattle.std.proofs.Common.{arith, sym, ap, ◌∙◌, append-nil, length-append}
use Rattle.integer.specs.BigEndian.{signed_bytes}
use Rattle.integer.proofs.BigEndian.{length_signed_bytes}
use Rattle.model.specs.Task.{Term, Kind, assign, increase, decrease}
use Rattle.model.specs.Command.{code_of, close_effect, kind_code, term_bytes, item_bytes, items_bytes}
use Rattle.model.specs.NormalForm.{negated, signed_sum, mirrored, normal_effect}
use Rattle.block.specs.Terms.{SumAt, terms_at}
use Rattle.normal_condition.specs.Signs.{negate_sum_if, negate_again, sum_bytes}
use Rattle.normal_condition.specs.Sums.{sum_short}

-- the normal effect on v with value S + c, or −S + c
unfoldable pub effect_bytes : Bool → ℕ → ℕ → List Term → ℤ → List ℕ
effect_bytes m kd v ts c = sum_bytes m ts ++ code_of close_effect ∷ kd ∷ v ∷ signed_bytes 4 c

-- "Each effect on v_i is written on 2i, then mirrored on 2i+1."
unfoldable pub mirror_bytes : Bool → ℕ → ℕ → List Term → ℤ → List ℕ
mirror_bytes m kd v ts c = effect_bytes m kd (2 * v) ts c ++ effect_bytes (not m) kd (2 * v + 1) ts (neg_ℤ c)

mirrored_print : (m : Bool) (k : Kind) (v : ℕ) (ts : List Term) (c : ℤ) → items_bytes (mirrored k v (negate_sum_if m ts) c) ≡ mirror_bytes m (kind_code k) v ts c
unfolding mirrored items_bytes item_bytes mirror_bytes effect_bytes sum_bytes
mirrored_print m k v ts c =
    let first = term_bytes (signed_sum (negate_sum_if m ts)) ++ code_of close_effect ∷ kind_code k ∷ (2 * v) ∷ signed_bytes 4 c in
    let close = code_of close_effect ∷ kind_code k ∷ (2 * v + 1) ∷ signed_bytes 4 (neg_ℤ c) in
    ap (λ (l : List ℕ). first ++ l)
    (append-nil (term_bytes (signed_sum (negated (negate_sum_if m ts))) ++ close)
    ∙ ap (λ (us : List Term). term_bytes (signed_sum us) ++ close) (sym (negate_again m ts)))

-- "v −= e is v += −e."
unfoldable pub effect_print : Kind → ℕ → List Term → ℤ → List ℕ
effect_print assign v ts c = mirror_bytes false 0 v ts c
effect_print increase v ts c = mirror_bytes false 1 v ts c
effect_print decrease v ts c = mirror_bytes true 1 v ts (neg_ℤ c)

pub effect_print_lem : (k : Kind) (v : ℕ) (ts : List Term) (c : ℤ) → items_bytes (normal_effect k v ts c) ≡ effect_print k v ts c
unfolding effect_print normal_effect negate_sum_if kind_code
effect_print_lem assign v ts c = mirrored_print false assign v ts c
effect_print_lem increase v ts c = mirrored_print false increase v ts c
effect_print_lem decrease v ts c = mirrored_print true increase v ts (neg_ℤ c)

-- an effect is short, a sum having at most 8 terms
pub effect_long :
    (m : Bool) {part : List ℕ} {from n : ℕ} (s : SumAt part from n) (kd v : ℕ) (c : ℤ)
    → length (effect_bytes m kd v (terms_at part from n) c) ≤ 39
unfolding effect_bytes
effect_long m {part} {from} {n} s kd v c =
    let ts = terms_at part from n in
    omega (arith, length-append (sum_bytes m ts) (code_of close_effect ∷ kd ∷ v ∷ signed_bytes 4 c), sum_short m s, length_signed_bytes 4 c)
