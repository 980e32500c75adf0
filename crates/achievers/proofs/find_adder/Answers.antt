-- `find_adder` meets its contract. Assumes nothing.
use native.Mathlib.Omega.{arith}
use mathlib.Core.Path.{sym, ◌∙◌}
use Rattle.block.specs.Items.{readable}
use Rattle.model.proofs.Theorems.Laws.Searching.{searched_start, searched_next}
use Rattle.achievers.specs.Search.{fails, passes, part_in, move_left, adder_none, adder_found, adder_passed}
use Rattle.achievers.proofs.find_adder.Goals as goal

pub loop-b-init : goal.loop-b-init
loop-b-init c x = searched_start _ _

pub bounds-used-b : goal.bounds-used-b
bounds-used-b c = omega (arith, c.requires.long)

pub loop-b-preserved-then-not-used-b : goal.loop-b-preserved-then-not-used-b
loop-b-preserved-then-not-used-b c x = searched_next (c.loop-b.invariant x) c.loop-b-test.true (fails x _ c.loop-b-test.true c.if-not-used-b.true)

pub part-requires : goal.part-requires
part-requires c = part_in c.requires c.loop-b-test.true

pub adds-requires : goal.adds-requires
adds-requires c = readable (move_left c.requires c.loop-b-test.true c.part.ensures.0)

pub loop-b-preserved : goal.loop-b-preserved
loop-b-preserved c x =
    let lt = c.loop-b-test.true in
    adder_passed x c.args.p lt c.if-not-used-b.false (sym (c.adds.ensures _ _ (move_left x lt c.part.ensures.0)) ∙ c.if-adds.false) (c.loop-b.invariant x)

pub returns-then-adds : goal.returns-then-adds
returns-then-adds c x =
    let lt = c.loop-b-test.true in
    adder_found x c.args.p (c.loop-b.invariant x) lt
    (passes x _ lt c.if-not-used-b.false ∙ sym (c.adds.ensures _ _ (move_left x lt c.part.ensures.0)) ∙ c.if-adds.true)

pub returns : goal.returns
returns c x = adder_none x c.args.p (c.loop-b.invariant x) c.loop-b-test.false
