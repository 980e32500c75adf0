-- `put_condition` meets its contract: five stores, one behind the other. Assumes nothing.
use Prim.Native.Nat.{ℕ}
use native.Mathlib.Omega.{arith}
use mathlib.Core.List.{List, ◌++◌}
use lib.IntN.{ℤ, pos}
use Rattle.integer.specs.Linear.{back}
use Rattle.model.specs.Ascii.{ascii}
use Rattle.model.specs.Seen.{comparison_of}
use Rattle.model.specs.Pddl.{number_text, expression_text, comparison_text, sum_of}
use Rattle.block.specs.Terms.{terms_at}
use Rattle.output.specs.Writing.{Room, written_join, room_first, room_next}
use Rattle.pddl_block.specs.Items.{condition_text}
use Rattle.pddl_block.proofs.put_condition.Goals as goal

-- the room for the texts up to the sum, whose text is s, to the space and to the constant
module _ {at : ℕ} (o : ℕ) (s : List ℕ) (z : ℤ) (room : Room at (ascii "(" ++ comparison_text (comparison_of o) ++ s ++ ascii " " ++ number_text z ++ ascii ")")) where
  abbrev summed : List ℕ
  summed = ascii "(" ++ comparison_text (comparison_of o) ++ s

  bounded_room : Room at (summed ++ ascii " " ++ number_text z)
  bounded_room = room_first (summed ++ ascii " " ++ number_text z) (ascii ")") room

  spaced_room : Room at (summed ++ ascii " ")
  spaced_room = room_first (summed ++ ascii " ") (number_text z) bounded_room

  summed_room : Room at summed
  summed_room = room_first summed (ascii " ") spaced_room

pub put_sum-space-requires : goal.put_sum-space-requires
unfolding condition_text
put_sum-space-requires c =
    let t = c.args.terms.now in
    let sum = expression_text (sum_of (terms_at t.part.now t.from t.count) (pos 0)) in
    (c.requires.0.sum, omega arith, room_next sum c.put_comparison-sum.ensures (summed_room c.args.comparison sum c.args.bound c.requires.1))

pub put_byte-number-requires : goal.put_byte-number-requires
unfolding condition_text
put_byte-number-requires c =
    omega (arith, (room_next (ascii " ") (written_join c.put_comparison-sum.ensures c.put_sum-space.ensures) (spaced_room c.args.comparison _ c.args.bound c.requires.1)).short)

pub put_number-close-requires : goal.put_number-close-requires
unfolding ascii condition_text
put_number-close-requires c =
    let spaced = written_join (written_join c.put_comparison-sum.ensures c.put_sum-space.ensures) c.put_byte-number.ensures in
    rw (back c.args.bound c.ranges.bound.sfits)
    (omega (arith, c.requires.0.bound), room_next (number_text c.args.bound) spaced (bounded_room c.args.comparison _ c.args.bound c.requires.1))

pub put_byte-requires : goal.put_byte-requires
unfolding ascii condition_text
put_byte-requires c =
    let spaced = written_join (written_join c.put_comparison-sum.ensures c.put_sum-space.ensures) c.put_byte-number.ensures in
    omega (arith, (room_next (ascii ")") (written_join spaced (rw (back c.args.bound c.ranges.bound.sfits) at c.put_number-close.ensures)) c.requires.1).short)

pub returns : goal.returns
unfolding ascii condition_text
returns c =
    let spaced = written_join (written_join c.put_comparison-sum.ensures c.put_sum-space.ensures) c.put_byte-number.ensures in
    written_join (written_join spaced (rw (back c.args.bound c.ranges.bound.sfits) at c.put_number-close.ensures)) c.put_byte.ensures
