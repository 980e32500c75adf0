-- `take_props` meets its contract. Assumes nothing.
use Rattle.achievers.specs.Search.{part_in}
use Rattle.taking.specs.Taking.{move_wantable, move_small, no_adder, adder_taken}
use Rattle.taking.specs.Descending.{props_start, props_end, prop_room, prop_unwanted, prop_had, prop_take, takeable}
use Rattle.taking.proofs.take_props.Goals as goal

pub loop-p-init : goal.loop-p-init
loop-p-init c x = props_start x c.no_counts.ensures

pub bounds-wanted-p : goal.bounds-wanted-p
bounds-wanted-p c = prop_room c.requires c.loop-p-test.true

pub loop-p-preserved-then-not-wanted-p : goal.loop-p-preserved-then-not-wanted-p
loop-p-preserved-then-not-wanted-p c x = prop_unwanted x c.loop-p-test.true (c.loop-p.invariant x) c.if-not-wanted-p.true

pub find_adder-requires : goal.find_adder-requires
find_adder-requires c = c.requires.scene.search

pub recount-requires : goal.recount-requires
recount-requires c =
    let x = c.requires in
    move_small (takeable x.scene (c.loop-p.invariant x).is) (c.in-Some.ensures x.scene.search).lt

pub part-requires : goal.part-requires
part-requires c = let x = c.requires in part_in x.scene.search (c.in-Some.ensures x.scene.search).lt

pub want_block-wants-requires : goal.want_block-wants-requires
want_block-wants-requires c =
    let x = c.requires in
    move_wantable (takeable x.scene (c.loop-p.invariant x).is) (c.in-Some.ensures x.scene.search).lt c.part.ensures.0

pub loop-p-preserved-then-below-p : goal.loop-p-preserved-then-below-p
loop-p-preserved-then-below-p c x = prop_had x c.loop-p-test.true (c.loop-p.invariant x) c.if-not-wanted-p.false c.if-below-p.true

pub loop-p-preserved-in_default : goal.loop-p-preserved-in_default
loop-p-preserved-in_default c x =
    let d = c.loop-p.invariant x in
    prop_take x c.loop-p-test.true d c.if-not-wanted-p.false c.if-below-p.false (no_adder (takeable x.scene d.is) (c.in_default.ensures x.scene.search))

pub loop-p-preserved : goal.loop-p-preserved
loop-p-preserved c x =
    let d = c.loop-p.invariant x in
    let y = takeable x.scene d.is in
    let h = c.in-Some.ensures x.scene.search in
    prop_take x c.loop-p-test.true d c.if-not-wanted-p.false c.if-below-p.false
    (adder_taken y h c.part.ensures.0 (c.want_block-wants.ensures (move_wantable y h.lt c.part.ensures.0)) c.recount.ensures)

pub returns : goal.returns
returns c x = props_end x c.loop-p.auto.p-end c.loop-p-test.false (c.loop-p.invariant x)
