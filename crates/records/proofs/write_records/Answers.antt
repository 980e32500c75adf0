-- `write_records` meets its contract, move by move. Assumes nothing.
use Rattle.std.proofs.Common.{ℕ, List, ◌≡◌, ◌≤◌, ◌<◌, arith, length, get_or, take}
use Rattle.std.proofs.lemmas.List.{length-take, get_or-take}
use Rattle.records.specs.Records.{count_at, writing_start, writing_skip, writing_length, writing_room, writing_take, writing_end}
use Rattle.records.proofs.write_records.Goals as goal
use Rattle.records.proofs.write_records.Goals.{then-n-gt0, else-n-gt0}

-- the count that the loop reads is that of move b
module _ (counts : List ℕ) (moves : ℕ) {b : ℕ} (inside : b < length (take moves counts)) where
  below : b < moves
  below = omega (arith, length-take moves counts)

  count_read : get_or (take moves counts) b 0 ≡ count_at counts b
  unfolding count_at
  count_read = get_or-take moves counts b 0 below

  taken : 0 < get_or (take moves counts) b 0 → count_at counts b ≡ 0 → ⊥
  taken h e = omega (arith, count_read)

  not_taken : get_or (take moves counts) b 0 ≤ 0 → count_at counts b ≡ 0
  not_taken h = omega (arith, count_read)

pub loop-b-init : goal.loop-b-init
loop-b-init c = writing_start _

pub put_record-requires : goal.put_record-requires
put_record-requires c =
    let xs = c.args.counts.now in
    let m = c.args.moves in
    let h = c.loop-b-test.true in
    (writing_room _ c.loop-b.invariant c.requires.2 (below xs m h) (taken xs m h c.if-n-gt0.true), omega (arith, below xs m h, c.requires.1))

pub overflow_add-at : goal.overflow_add-at
overflow_add-at c =
    let xs = c.args.counts.now in
    let m = c.args.moves in
    let h = c.loop-b-test.true in
    let l = c.loop-b in
    omega (arith, writing_room _ l.invariant c.requires.2 (below xs m h) (taken xs m h c.if-n-gt0.true), writing_length _ l.invariant c.requires.2)

pub loop-b-preserved : goal.loop-b-preserved
loop-b-preserved c =
    let xs = c.args.counts.now in
    let m = c.args.moves in
    let h = c.loop-b-test.true in
    let l = c.loop-b in
    elim c.if-n-gt0.branch [
      | then-n-gt0 w ↦ rw (w.at-is, w.out-is) (writing_take _ l.invariant c.requires.2 (below xs m h) (taken xs m h w.if-n-gt0.true) (rw (count_read xs m h) at w.put_record.ensures))
      | else-n-gt0 w ↦ rw (w.at-is, w.out-is) (writing_skip _ l.invariant (below xs m h) (not_taken xs m h w.if-n-gt0.false))
    ]

pub returns : goal.returns
returns c = writing_end _ c.loop-b.invariant (omega (arith, length-take c.args.moves c.args.counts.now, c.requires.0))
