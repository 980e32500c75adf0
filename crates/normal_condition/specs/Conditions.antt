-- The bytes of normal conditions, in the terms of the written sum (document 01, "Normal form").
-- Assumes nothing.
use Rattle.std.specs.Prelude.{ℕ, ◌≤◌, ◌≡◌, refl, Bool, List, [], ◌∷◌, ◌++◌, ℤ, length}
use Rattle.std.proofs.Common.{arith, sym, ap, ◌∙◌, append-nil, append_assoc, length-append}
use Rattle.integer.specs.BigEndian.{signed_bytes}
use Rattle.integer.proofs.BigEndian.{length_signed_bytes}
use Rattle.model.specs.Task.{Term, Block}
use Rattle.model.specs.Command.{code_of, close_condition, comparison_code, item_bytes, items_bytes}
use Rattle.model.specs.NormalForm.{least}
use Rattle.block.specs.Terms.{SumAt, terms_at}
use Rattle.normal_condition.specs.Signs.{negate_sum_if, sum_bytes}
use Rattle.normal_condition.specs.Sums.{sum_short}

-- the items of two blocks, one behind the other
pub items_append : (b d : Block) → items_bytes (b ++ d) ≡ items_bytes b ++ items_bytes d
unfolding items_bytes
items_append [] d = refl
items_append (i ∷ b) d =
    ap (λ (l : List ℕ). item_bytes i ++ l) (items_append b d) ∙ sym (append_assoc (item_bytes i) (items_bytes b) (items_bytes d))

-- the normal condition S ≥ c, or −S ≥ c: its sum, and the command that closes it
pub least_bytes : (m : Bool) (ts : List Term) (c : ℤ) → items_bytes (least (negate_sum_if m ts) c ∷ []) ≡ sum_bytes m ts ++ code_of close_condition ∷ 0 ∷ signed_bytes 4 c
unfolding items_bytes item_bytes least sum_bytes comparison_code
least_bytes m ts c = append-nil (sum_bytes m ts ++ code_of close_condition ∷ 0 ∷ signed_bytes 4 c)

-- it is short, a sum having at most 8 terms
pub condition_long :
    (m : Bool) {part : List ℕ} {from n : ℕ} (s : SumAt part from n) (c : ℤ)
    → length (items_bytes (least (negate_sum_if m (terms_at part from n)) c ∷ [])) ≤ 38
condition_long m {part} {from} {n} s c =
    let ts = terms_at part from n in
    rw (least_bytes m ts c)
    (omega (arith, length-append (sum_bytes m ts) (code_of close_condition ∷ 0 ∷ signed_bytes 4 c), sum_short m s, length_signed_bytes 4 c))
