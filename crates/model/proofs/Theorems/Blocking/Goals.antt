-- A task with another goal: it has a circle where the task has one; with one part of its own goal alone it stays within every limit; a list
-- that solves it with some goal reaches each part of that goal alone. Assumes nothing.
use Prim.Native.Nat.{ℕ, zero, suc, ◌<◌}
use Rattle.std.specs.Prelude.{◌≡◌, Bool, List, [], ◌∷◌, T, length}
use Rattle.std.proofs.Math.Path.{refl, ap}
use Rattle.std.proofs.Common.{◌∙◌}
use Rattle.std.proofs.Math.Bool.{true, false}
use Rattle.model.specs.Limits.{Limits}
use Rattle.model.specs.Lists.{In, all, any, any_below}
use Rattle.model.specs.Task.{Form, Item, need, Block, Task}
use Rattle.model.specs.Circle.{edge, walk_to, circular}
use Rattle.model.specs.Move.{State, holds, applicable, move_at, Solves}
use Rattle.model.specs.Blocking.{goal_part}
use Rattle.model.specs.Theorems.Reading.WellFormed.{ItemOk, GoalItem, TaskOk}
use Rattle.model.proofs.Theorems.Laws.Booleans.{and_both}
use Rattle.model.proofs.Theorems.Laws.Searching.{all_all}
use Rattle.model.proofs.Theorems.Laws.Listed.{in_at, All-in}
use Rattle.model.specs.Theorems.Blocking.Goals.{alone, with_goal}

-- ---- its checks
module _ (k : Task) (g : Block) where
  same_walks : (n v : ℕ) → walk_to (with_goal k g) n v ≡ walk_to k n v
  unfolding walk_to edge
  same_walks zero v = refl
  same_walks (suc n) v =
      ap (λ (f : ℕ → Bool). any_below (λ u. elim (edge k u v) [ true ↦ f u | false ↦ false ]) k.vars) (λ i u. same_walks n u i)

  -- a circle is one of the moves
  pub same_circle : circular (with_goal k g) ≡ circular k
  unfolding circular
  same_circle = ap (λ (f : ℕ → Bool). any_below f k.vars) (λ i v. same_walks k.vars v i)

module _ {L : Limits} {f : Form} {k : Task} (ok : TaskOk L f k) where
  -- a task within every limit stays so with one part of its goal alone
  pub part_ok : (i : Item) → In i k.goal → TaskOk L f (alone k i)
  unfolding any
  part_ok i stands =
      record {
        props = ok.props;
        vars = ok.vars;
        moves = ok.moves;
        blocks = ok.blocks;
        goal = record { items = (All-in (ItemOk L f k.props k.vars) k.goal ok.goal.items i stands, tt); once = (tt, tt) };
        goal_items = (All-in GoalItem k.goal ok.goal_items i stands, tt);
        no_circle = same_circle k (i ∷ []) ∙ ok.no_circle;
      }

-- ---- its parts
-- part n of the goal stands in the goal
pub part_in : (k : Task) (n : ℕ) → n < length k.goal → In (goal_part k n) k.goal
unfolding goal_part
part_in k n h = in_at k.goal n (need 0) h

-- a state that meets all conditions of a block meets each
applicable_each : (s : State) (g : Block) (i : Item) → In i g → T (applicable s g) → T (applicable s (i ∷ []))
unfolding applicable all
applicable_each s g i stands t =
    and_both (holds s i) true (All-in (λ j. T (holds s j)) g (all_all (holds s) g t) i stands) tt

-- a list that solves the task with a goal, by whichever kind of move, reaches each part of that goal alone
pub solves_part :
    (run : Block → State → State) (k : Task) (g : Block) (i : Item) → In i g → (s : State) (list : List ℕ)
    → Solves run (with_goal k g) s list
    → Solves run (alone k i) s list
unfolding move_at
solves_part run k g i stands s [] t = applicable_each s g i stands t
solves_part run k g i stands s (b ∷ list) (lt, t, rest) = (lt, t, solves_part run k g i stands (run (move_at k b) s) list rest)
