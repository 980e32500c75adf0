-- The set of helpful moves does not see moves that do nothing: no such move is in it, and every other move is in it under its new number
-- exactly if it was under its old one; it has no other bit. Assumes nothing.
use Prim.Native.Nat.{ℕ, zero, suc, ◌<◌}
use Rattle.std.specs.Prelude.{◌≡◌, refl, Bool, false, ◌&&◌, T, length}
use Rattle.std.proofs.Math.Path.{sym, ap, ap₂}
use Rattle.std.proofs.Common.{◌∙◌, subst}
use Rattle.std.proofs.Math.Bool.{and-false}
use Rattle.model.specs.Task.{Block, Task, active}
use Rattle.model.specs.Move.{State, move_at}
use Rattle.model.specs.NormalForm.{normal_task}
use Rattle.model.specs.Layer.{Layer, usable, layer_at}
use Rattle.model.specs.Plan.{Wants, wants_at, supports, helpful, bit, helpful_moves}
use Rattle.model.specs.Rewrite.{rewritten, new_number, old_number}
use Rattle.model.proofs.Theorems.Laws.Sets.{bit_zero, set_bit}
use Rattle.model.proofs.Theorems.NormalForm.Active.{normal_active}
use Rattle.model.proofs.Theorems.NormalForm.Moves.{normal_move, normal_moves}
use Rattle.model.proofs.Theorems.Rewriting.Solving.{idle_any, new_number_lem, old_number_lem, normal_rewritten}
use Rattle.model.proofs.Theorems.Rewriting.Normal.{normal_new_number}
use Rattle.model.proofs.Theorems.Rewriting.Layers.{same_layer_at}
use Rattle.model.proofs.Theorems.Rewriting.Numbers.{new_same}
use Rattle.model.proofs.Theorems.Rewriting.Plans.{same_wants}
use Rattle.model.specs.Theorems.Rewriting.Helpful.{SameBit}

-- a move that does nothing is not helpful
idle_unhelpful : (l : Layer) (w : Wants) (b : Block) → active b ≡ false → helpful l w b ≡ false
unfolding helpful supports
idle_unhelpful l w b idle = ap (λ (x : Bool). usable l b && x) (idle_any (supports l w) (λ p. refl) (λ c. refl) b idle) ∙ and-false (usable l b)

module _ (k : Task) (s : State) where
  -- a move that does something is in the set under its new number exactly if it was under its old one
  pub same_helpful : (m b : ℕ) → b < length k.moves → T (active (move_at k b)) → SameBit (rewritten k) k s m (new_number k.moves b) b
  unfolding helpful_moves move_at rewritten
  same_helpful zero b lt does = bit_zero (new_number k.moves b) ∙ sym (bit_zero b)
  same_helpful (suc m) b lt does =
      set_bit (helpful (layer_at (rewritten k) s 0) (wants_at (rewritten k) s (suc m) 1)) (rewritten k).moves (new_number k.moves b) (new_number_lem k.moves b lt does).0
      ∙ ap₂ (λ (l : Layer) (w : Wants). helpful l w (move_at (rewritten k) (new_number k.moves b))) (same_layer_at k s 0) (same_wants k s (suc m) 1)
      ∙ ap (helpful (layer_at k s 0) (wants_at k s (suc m) 1)) (new_same k.moves b does)
      ∙ sym (set_bit (helpful (layer_at k s 0) (wants_at k s (suc m) 1)) k.moves b lt)

  -- and one that does nothing never was
  pub idle_never : (m b : ℕ) → b < length k.moves → active (move_at k b) ≡ false → bit (helpful_moves k s m) b ≡ false
  unfolding helpful_moves move_at
  idle_never zero b lt idle = bit_zero b
  idle_never (suc m) b lt idle =
      set_bit (helpful (layer_at k s 0) (wants_at k s (suc m) 1)) k.moves b lt
      ∙ idle_unhelpful (layer_at k s 0) (wants_at k s (suc m) 1) (move_at k b) idle

  -- every bit of the new set is that of an old move
  pub helpful_back : (m c : ℕ) → c < length (rewritten k).moves → SameBit (rewritten k) k s m c (old_number k.moves c)
  unfolding rewritten move_at
  helpful_back m c lt =
      let o = old_number_lem k.moves c lt in
      ap (λ (i : ℕ). bit (helpful_moves (rewritten k) s m) i) (sym o.again) ∙ same_helpful m (old_number k.moves c) o.within o.does

-- so for a written table
pub same_helpful_written :
    (k : Task) (s : State) (m b : ℕ) → b < length k.moves → T (active (move_at k b))
    → SameBit (normal_task (rewritten k)) (normal_task k) s m (new_number k.moves b) b
unfolding normal_task
same_helpful_written k s m b lt does =
    ap₂ (λ (n : Task) (c : ℕ). bit (helpful_moves n s m) c) (normal_rewritten k) (sym (normal_new_number k.moves b))
    ∙ same_helpful (normal_task k) s m b (rw (normal_moves k) lt) (subst T (sym (ap active (normal_move k b) ∙ normal_active (move_at k b))) does)
