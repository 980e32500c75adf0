-- "The PDDL text writes it out": tables that differ only in terms of weight 0 have different texts, and these have the same plans.
-- Assumes nothing.
use Rattle.std.specs.Prelude.{◌≡◌, nat_abs}
use Rattle.model.specs.Lists.{In}
use Rattle.model.specs.Task.{Term, Item, Block, terms_of}

-- ---- a task and what is left of it without them
-- a sum of the block has a term of weight 0
pub record ZeroIn (b : Block) : Type 0 where
  pub item : Item
  pub in_block : In item b
  pub term : Term
  pub in_sum : In term (terms_of item)
  pub weightless : nat_abs term.weight ≡ 0
