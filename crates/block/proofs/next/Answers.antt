-- `next` meets its contract: at the part's end nothing is left, and before it the first item is closed behind its terms.
-- Assumes nothing.
use Rattle.block.specs.Items.{left_end}
use Rattle.block.proofs.next.Goals as goal

pub returns-then-at-part : goal.returns-then-at-part
returns-then-at-part c = record { moves = c.if-at-part.true; found = λ k rest l. left_end c.if-at-part.true l }

pub terms_at-requires : goal.terms_at-requires
terms_at-requires c = (c.requires, c.if-at-part.false)

pub item_at-requires : goal.item_at-requires
item_at-requires c =
    let r = c.requires in
    record { ranges = r.ranges; rest = r.rest; closed = c.terms_at.ensures r.ranges r.rest r.left }

pub returns : goal.returns
returns c =
    record {
      moves = c.item_at.ensures.0;
      found = λ k rest l. c.item_at.ensures.1 k rest (c.terms_at.ensures k rest l);
    }
