-- The first 50 or 43 of a block that a layer does not meet: where it stands in the block's part. Assumes nothing.
use Rattle.std.specs.Prelude.{ℕ, ◌+◌, ◌-◌, ◌≤◌, ◌≡◌, Bool, ℤ, length}
use Rattle.std.proofs.Common.{arith, ◌∙◌}
use Rattle.std.proofs.Math.Path.{refl, sym, ap}
use Rattle.std.proofs.Math.Bool.{true, false}
use mathlib.Core.List.{List, [], ◌∷◌, ◌++◌}
use borrow.Author.Tests.{le-leb, lt-leb}
use Rattle.std.proofs.Math.Dec.{leb}
use Rattle.std.proofs.Math.ListN.{length-append}
use Rattle.model.specs.Lists.{all}
use Rattle.model.specs.Task.{Item, Block, terms_of}
use Rattle.model.specs.Command.{term_bytes, items_bytes}
use Rattle.model.specs.Layer.{Layer, holds_in, usable}
use Rattle.model.specs.Theorems.Printing.Items.{closing}
use Rattle.model.specs.Theorems.Blocking.Parts.{unmet_size}
use Rattle.block.specs.Bytes.{at_length}
use Rattle.block.specs.Items.{Ranges, Left, Followed, first_parts, closing_long}
use Rattle.block.specs.Blocks.{Reading, LayerState, IsUsable, all_true, all_false}

-- r is the offset of that command, in every reading: the unmet bytes stand from there to the part's end
pub record IsUnmet (part : List ℕ) (flags : List Bool) (layer : List ℤ) (r : ℕ) : Type 0 where
  pub is : (k : Ranges) (b : Block) (l : Layer) → Left k part 1 b → LayerState k flags layer l → r + unmet_size l b ≡ length part

module _ (l : Layer) where
  -- a part that is met is passed over,
  pub unmet_met : (i : Item) → holds_in l i ≡ true → (b : Block) → unmet_size l (i ∷ b) ≡ unmet_size l b
  unfolding unmet_size
  unmet_met i e b = rw (unmet_size, e) refl

  -- and one that is not ends the search
  unmet_first : (i : Item) → holds_in l i ≡ false → (b : Block) → unmet_size l (i ∷ b) ≡ length (closing i ++ items_bytes b)
  unfolding unmet_size
  unmet_first i e b = rw (unmet_size, e) refl

  module _ {k : Ranges} {part : List ℕ} (b : Block) {at : ℕ} (w : Reading k part (unmet_size l b) (unmet_size l) at) where
    -- its command stands right before the offset behind it
    pub unmet_here :
        {after : ℕ} {i : Item} → Followed k part after w.rest i
        → holds_in l i ≡ false
        → (length (closing i) ≤ after) × (after - length (closing i) + unmet_size l b ≡ length part)
    unmet_here {after} {i} f e =
        let left = closing i ++ items_bytes f.others in
        let size : unmet_size l b ≡ length left = w.same ∙ ap (unmet_size l) f.is ∙ unmet_first i e f.others in
        let whole : length (items_bytes w.rest) ≡ length (term_bytes (terms_of i) ++ left) = ap length (ap items_bytes f.is ∙ first_parts i f.others) in
        let here : after ≡ at + length (term_bytes (terms_of i)) + length (closing i) =
        omega (arith, at_length w.left.bytes, at_length f.left.bytes, length-append (term_bytes (terms_of i)) left, length-append (closing i) (items_bytes f.others)) in
        (omega arith, omega (arith, at_length f.left.bytes, length-append (closing i) (items_bytes f.others)))

    -- at the end nothing is unmet
    pub unmet_end : w.rest ≡ [] → length part + unmet_size l b ≡ length part
    unfolding unmet_size
    unmet_end e = omega (arith, w.same, ap (unmet_size l) e)

  -- the layer meets every condition of the block exactly where the offset is the part's end
  unmet_usable : (b : Block) (r n : ℕ) → r + unmet_size l b ≡ n → leb n r ≡ usable l b
  unfolding unmet_size usable all
  unmet_usable [] r n e = le-leb n r (omega arith)
  unmet_usable (i ∷ b) r n e = go (holds_in l i) refl (λ q. unmet_usable b r n q)
    where
      go : (t : Bool) → holds_in l i ≡ t → (r + unmet_size l b ≡ n → leb n r ≡ usable l b) → leb n r ≡ usable l (i ∷ b)
      go true h rest = rest (ap (λ (m : ℕ). r + m) (sym (unmet_met i h b)) ∙ e) ∙ sym (all_true (holds_in l) h b)
      go false h rest =
          lt-leb n r (omega (arith, e, unmet_first i h b, length-append (closing i) (items_bytes b), closing_long i)) ∙ sym (all_false (holds_in l) h b)

pub usable_met : {part : List ℕ} {flags : List Bool} {layer : List ℤ} {r : ℕ} → IsUnmet part flags layer r → {t : Bool} → t ≡ leb (length part) r → IsUsable part flags layer t
usable_met {part} {r} u e = record { is = λ k b l left state. e ∙ unmet_usable l b r (length part) (u.is k b l left state) }
