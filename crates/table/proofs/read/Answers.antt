-- `read` meets its contract: it is what outline answers.
-- Assumes nothing.
use Rattle.model.specs.Calls.{read_answer}
use Rattle.command.specs.Names.{wanted_of}
use Rattle.table.proofs.read.Goals as goal

pub returns : goal.returns
unfolding read_answer wanted_of
returns c = c.outline.ensures.answer
