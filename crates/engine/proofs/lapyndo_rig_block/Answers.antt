-- `lapyndo_rig_block` meets its contract. Assumes nothing.
use mathlib.Core.Path.{◌∙◌}
use Rattle.ceiling.proofs.Theorems.Sizes.{block_refused_under}
use Rattle.codes.specs.Parts.{block_fits, block_answer_lem, block_copied}
use borrow.Author.Rules.{rules}
use Rattle.engine.proofs.lapyndo_rig_block.Goals as goal

pub part_code-requires : goal.part_code-requires
part_code-requires c = block_fits _ (block_refused_under _ _ _) c.block_at-part.ensures.1 c.block_at-part.ensures.2

pub returns : goal.returns
returns c =
    let e = rw c.board.ensures at c.block_at-part.ensures in (
      c.part_code.ensures ∙ block_answer_lem _ (block_refused_under _ _ _) e.1 e.2 _ e.0,
      block_copied _ _ e.0 c.copy.ensures,
    )
