-- `lapyndo_block` meets its contract. Assumes nothing.
use mathlib.Core.Path.{◌∙◌}
use Rattle.model.proofs.Theorems.Sizes.Answers.{block_refused}
use Rattle.codes.specs.Parts.{block_fits, block_answer_lem, block_copied}
use borrow.Author.Rules.{rules}
use Rattle.engine.proofs.lapyndo_block.Goals as goal

pub part_code-requires : goal.part_code-requires
part_code-requires c =
    block_fits _ (block_refused _ _) c.block_at-part.ensures.1
    c.block_at-part.ensures.2

pub returns : goal.returns
returns c = (
  c.part_code.ensures
      ∙ block_answer_lem _ (block_refused _ _) c.block_at-part.ensures.1
      c.block_at-part.ensures.2 _ c.block_at-part.ensures.0,
  block_copied _ _ c.block_at-part.ensures.0 c.copy.ensures,
)
