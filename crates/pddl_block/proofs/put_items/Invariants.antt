-- `put_items` meets its contract. The invariant: in every reading, the items before `at` are written. The measure is what is left
-- of the part. Assumes nothing.
use Rattle.std.proofs.Common.{ℕ, List, ◌-◌, length}
use Rattle.model.specs.Task.{Block}
use Rattle.block.specs.Remaining.{Remaining}
use Rattle.pddl_block.specs.Walking.{Puts, ItemsWriting}
use Rattle.pddl_block.proofs.put_items.Given as goal

abbrev pub invariant-loop-at : goal.invariant-loop-at
invariant-loop-at g l =
    (text : Block → List ℕ)
    → Puts (goal.F-post g l.put) l.part text
    → (b : Block)
    → Remaining l.part 1 b
    → ItemsWriting text l.part b l.at l.initial.out l.start l.out l.to

abbrev pub decreases-loop-at : goal.decreases-loop-at
decreases-loop-at g l = length l.part - l.at
