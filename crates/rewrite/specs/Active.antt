-- One move of a stored table: whether it is kept, and what is written of it. Assumes nothing.
use Rattle.std.specs.Prelude.{ℕ, ◌+◌, ◌≡◌, Bool, cond}
use native.Mathlib.Omega.{arith}
use Rattle.std.proofs.Math.Path.{refl, sym, ap}
use Rattle.std.proofs.Common.{◌∙◌}
use Rattle.std.proofs.Math.Bool.{true, false}
use mathlib.Core.List.{List, [], ◌∷◌, ◌++◌, append-nil}
use Rattle.std.proofs.Math.ListN.{length}
use Rattle.model.specs.Task.{Block, active}
use Rattle.model.specs.Command.{open_move, code_of, items_bytes, moves_bytes}
use Rattle.model.specs.Rewrite.{active_moves}
use Rattle.block.specs.Items.{Ranges, Left}
use Rattle.output.specs.Writing.{Written, written_none, written_same}

-- r says whether the block of this part changes something, in every reading
pub record IsActive (part : List ℕ) (r : Bool) : Type 0 where
  pub is : (k : Ranges) (b : Block) → Left k part 1 b → r ≡ active b

-- n is how many moves are kept of this one
pub record KeptCount (part : List ℕ) (n : ℕ) : Type 0 where
  pub is : (k : Ranges) (b : Block) → Left k part 1 b → n ≡ length (active_moves (b ∷ []))

-- the move of this part is written from `at` on, if it is kept
pub record Kept (part old : List ℕ) (at : ℕ) (new : List ℕ) (next : ℕ) : Type 0 where
  pub is : (k : Ranges) (b : Block) → Left k part 1 b → part ≡ code_of open_move ∷ items_bytes b → Written old at (moves_bytes (active_moves (b ∷ []))) new next
  pub same : length new ≡ length old

-- ---- by what the move changes

kept_active : (b : Block) → active b ≡ true → active_moves (b ∷ []) ≡ b ∷ []
unfolding active_moves
kept_active b e = ap (λ (c : Bool). cond c (b ∷ []) []) e

kept_idle : (b : Block) → active b ≡ false → active_moves (b ∷ []) ≡ []
unfolding active_moves
kept_idle b e = ap (λ (c : Bool). cond c (b ∷ []) []) e

module _ {part : List ℕ} {r : Bool} (a : IsActive part r) where
  pub count_one : r ≡ true → KeptCount part 1
  count_one e = record { is = λ k b l. sym (ap length (kept_active b (sym (a.is k b l) ∙ e))) }

  pub count_none : r ≡ false → KeptCount part 0
  count_none e = record { is = λ k b l. sym (ap length (kept_idle b (sym (a.is k b l) ∙ e))) }

  pub kept_not : (old : List ℕ) (at : ℕ) → r ≡ false → Kept part old at old at
  unfolding moves_bytes
  kept_not old at e =
      record {
        is = λ k b l same. written_same (written_none old at) (sym (ap moves_bytes (kept_idle b (sym (a.is k b l) ∙ e))));
        same = refl;
      }

  pub kept_whole : {old : List ℕ} {at : ℕ} {new : List ℕ} {next : ℕ} → r ≡ true → Written old at part new next → Kept part old at new next
  unfolding moves_bytes
  kept_whole e w =
      record {
        is =
            λ k b l same.
            written_same w
            (same
            ∙ ap (λ (bs : List ℕ). code_of open_move ∷ bs) (sym (append-nil (items_bytes b)))
            ∙ sym (ap moves_bytes (kept_active b (sym (a.is k b l) ∙ e))));
        same = w.kept;
      }

-- ---- one move and the others

module _ (b : Block) (ms : List Block) where
  pub kept_first : length (active_moves (b ∷ ms)) ≡ length (active_moves (b ∷ [])) + length (active_moves ms)
  unfolding active_moves
  kept_first = go (active b)
    where
      go : (c : Bool) → length (cond c (b ∷ active_moves ms) (active_moves ms)) ≡ length (cond c (b ∷ []) []) + length (active_moves ms)
      go true = omega arith
      go false = omega arith

  pub bytes_first : moves_bytes (active_moves (b ∷ ms)) ≡ moves_bytes (active_moves (b ∷ [])) ++ moves_bytes (active_moves ms)
  unfolding active_moves moves_bytes
  bytes_first = go (active b)
    where
      go : (c : Bool) → moves_bytes (cond c (b ∷ active_moves ms) (active_moves ms)) ≡ moves_bytes (cond c (b ∷ []) []) ++ moves_bytes (active_moves ms)
      go true =
          ap (λ (l : List ℕ). code_of open_move ∷ (l ++ moves_bytes (active_moves ms))) (sym (append-nil (items_bytes b)))
      go false = refl
