-- An accepted written table, whose blocks are read from its parts. Assumes nothing.
use Rattle.std.specs.Prelude.{ℕ, ◌≤◌, ◌<◌, ◌≡◌, List, [], length, get_or}
use Rattle.std.proofs.Common.{arith}
use Rattle.std.proofs.Math.Path.{ap}
use Rattle.model.specs.Limits.{paper}
use Rattle.model.specs.Task.{written, Task}
use Rattle.model.specs.Reading.{Verdict, accepted, refused, only, length_limit, reading}
use Rattle.model.proofs.Theorems.Reading.Accepted.{reading_limit}
use Rattle.table.specs.Outlines.{part_at, Outline, HeadRead}
use Rattle.block.specs.Parts.{move_left, goal_left}
use Rattle.block.specs.Remaining.{Remaining}
use Rattle.reader.specs.Parts.{PartIn, outline_part}

-- the task that a written table stands for
unfoldable pub task_in : Verdict → Task
task_in (accepted k) = k.task
task_in (refused r) = record { props = 0; vars = 0; moves = []; goal = [] }

unfoldable pub read_task : List ℕ → Task
read_task t = task_in (reading paper (only written) t)

-- an accepted written table, with the offsets of its blocks
pub record Source (t marks : List ℕ) (moves : ℕ) : Type 0 where
  pub outline : Outline written t marks (read_task t)
  pub count : moves ≡ length (read_task t).moves

-- its head
pub record Heads (t : List ℕ) (props vars : ℕ) : Type 0 where
  pub props_is : props ≡ (read_task t).props
  pub vars_is : vars ≡ (read_task t).vars

module _ {t marks : List ℕ} {moves : ℕ} (s : Source t marks moves) where
  pub few_props : (read_task t).props ≤ 120
  unfolding paper
  few_props = s.outline.ok.props

  pub few_vars : (read_task t).vars ≤ 16
  unfolding paper
  few_vars = s.outline.ok.vars

  pub few_moves : moves ≤ 64
  unfolding paper
  few_moves = omega (arith, s.count, s.outline.ok.moves)

  pub move_remaining : (b : ℕ) → b < moves → {part : List ℕ} → part ≡ part_at t marks b → Remaining part 1 (get_or (read_task t).moves b [])
  move_remaining b h e =
      rw e
      (record {
        props = (read_task t).props;
        vars = (read_task t).vars;
        few_props = few_props;
        few_vars = few_vars;
        left = let i : b < length (read_task t).moves = omega (arith, s.count) in move_left s.outline.ok b i (s.outline.move b i);
      })

  pub goal_remaining : {part : List ℕ} → part ≡ part_at t marks moves → Remaining part 1 (read_task t).goal
  goal_remaining e =
      rw e
      (record {
        props = (read_task t).props;
        vars = (read_task t).vars;
        few_props = few_props;
        few_vars = few_vars;
        left = rw s.count (goal_left s.outline.ok s.outline.goal);
      })

  -- the offsets of a block
  pub block_in : (b : ℕ) → b ≤ moves → PartIn t marks b
  block_in b h = outline_part s.outline b (omega (arith, s.count))

-- what the outline of the table answers
module _ {t marks : List ℕ} {props vars moves : ℕ} (h : HeadRead written t marks props vars moves) where
  pub task_is : read_task t ≡ h.table.task
  unfolding read_task task_in
  task_is = ap task_in h.is

  pub head_source : Source t marks moves
  head_source =
      record {
        outline = rw task_is h.outline;
        count = rw task_is h.count;
      }

  pub head_heads : Heads t props vars
  head_heads = record { props_is = rw task_is h.props_is; vars_is = rw task_is h.vars_is }

  -- "Length: written 32,000 .. bytes at most"
  pub head_short : length t ≤ 32_000
  unfolding length_limit paper
  head_short = reading_limit paper (only written) t h.is
