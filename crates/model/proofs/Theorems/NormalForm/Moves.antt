-- A task and its normal form run alike: real moves give the same states, and the same lists solve them.
-- Assumes nothing.
use Rattle.std.specs.Prelude.{ℕ, ◌<◌, ◌≡◌, refl, ◌↔◌, ◌&&◌, ◌||◌, not, List, [], ◌∷◌, T, length}
use Rattle.std.proofs.Common.{sym, ap, ◌∙◌}
use Rattle.std.proofs.Math.Path.{transport}
use Rattle.std.proofs.lemmas.List.{length-map}
use Rattle.std.proofs.Math.ListN.{get_or-map}
use Rattle.model.specs.Task.{Block, Task, is_add, is_delete, adds, deletes}
use Rattle.model.specs.Move.{State, applicable, real, move_at, Solves}
use Rattle.model.specs.NormalForm.{normal_block, normal_task, normal_state}
use Rattle.model.proofs.Theorems.NormalForm.Blocks.{any_plain}
use Rattle.model.proofs.Theorems.NormalForm.Conditions.{normal_applicable}
use Rattle.model.proofs.Theorems.NormalForm.Effects.{normal_change}

-- "All else keeps its order, deletes too."
pub normal_adds : (p : ℕ) (b : Block) → adds p (normal_block b) ≡ adds p b
unfolding adds is_add
normal_adds p b = any_plain (is_add p) (λ c. refl) (λ e. refl) b

pub normal_deletes : (p : ℕ) (b : Block) → deletes p (normal_block b) ≡ deletes p b
unfolding deletes is_delete
normal_deletes p b = any_plain (is_delete p) (λ c. refl) (λ e. refl) b

-- A real move of the normal table gives the normal form of what the written one gives.
pub normal_real : (b : Block) (s : State) → real (normal_block b) (normal_state s) ≡ normal_state (real b s)
unfolding real normal_state
normal_real b s = λ i. record {
  has = λ p. normal_adds p b i || (s.has p && not (normal_deletes p b i));
  val = λ j. normal_change s j b i;
}

pub normal_move : (k : Task) (b : ℕ) → move_at (normal_task k) b ≡ normal_block (move_at k b)
unfolding move_at normal_task normal_block
normal_move k b = get_or-map normal_block k.moves b []

pub normal_moves : (k : Task) → length (normal_task k).moves ≡ length k.moves
unfolding normal_task
normal_moves k = length-map k.moves normal_block

-- the state after a move, and whether the move is applicable before it
after_move :
    (k : Task) (b : ℕ) (s : State)
    → real (move_at (normal_task k) b) (normal_state s) ≡ normal_state (real (move_at k b) s)
after_move k b s = ap (λ (m : Block). real m (normal_state s)) (normal_move k b) ∙ normal_real (move_at k b) s

pub move_applicable :
    (k : Task) (b : ℕ) (s : State)
    → applicable (normal_state s) (move_at (normal_task k) b) ≡ applicable s (move_at k b)
move_applicable k b s = ap (applicable (normal_state s)) (normal_move k b) ∙ normal_applicable s (move_at k b)

-- "each move's conditions hold when it runs and the goal holds at the end", move by move
same_solutions :
    (k : Task) (bs : List ℕ) (s : State)
    → Solves real (normal_task k) (normal_state s) bs ≡ Solves real k s bs
unfolding normal_task
same_solutions k [] s = ap T (normal_applicable s k.goal)
same_solutions k (b ∷ bs) s =
    λ i.
    (b < normal_moves k i)
    × T (move_applicable k b s i)
    × (ap (λ (x : State). Solves real (normal_task k) x bs) (after_move k b s)
    ∙ same_solutions k bs (real (move_at k b) s)) i

-- A list of moves, of any length, solves the table as written exactly when it solves its normal form, run with real moves
-- from the normal form of the same state.
pub written_normal :
    (k : Task) (bs : List ℕ) (s : State)
    → Solves real k s bs ↔ Solves real (normal_task k) (normal_state s) bs
written_normal k bs s = (transport (sym (same_solutions k bs s)), transport (same_solutions k bs s))
