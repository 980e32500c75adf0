-- `put_effect` meets its contract: five stores, one behind the other. Assumes nothing.
use Prim.Native.Nat.{ℕ}
use native.Mathlib.Omega.{arith}
use mathlib.Core.List.{List, ◌++◌}
use Rattle.integer.specs.Linear.{back}
use Rattle.model.specs.Ascii.{ascii}
use Rattle.model.specs.Seen.{kind_of}
use Rattle.model.specs.Pddl.{expression_text, kind_text, sum_of}
use Rattle.block.specs.Terms.{terms_at}
use Rattle.output.specs.Writing.{Room, written_join, room_first, room_next}
use Rattle.pddl_sum.specs.Names.{name_text}
use Rattle.pddl_block.specs.Items.{effect_text}
use Rattle.pddl_block.proofs.put_effect.Goals as goal

-- the room for the texts up to the name, to the space and to the sum, whose text is s
module _ {at : ℕ} (kind v : ℕ) (s : List ℕ) (room : Room at (ascii "(" ++ kind_text (kind_of kind) ++ name_text (ascii "(v") v ++ ascii " " ++ s ++ ascii ")")) where
  abbrev named : List ℕ
  named = ascii "(" ++ kind_text (kind_of kind) ++ name_text (ascii "(v") v

  summed_room : Room at (named ++ ascii " " ++ s)
  summed_room = room_first (named ++ ascii " " ++ s) (ascii ")") room

  spaced_room : Room at (named ++ ascii " ")
  spaced_room = room_first (named ++ ascii " ") s summed_room

  named_room : Room at named
  named_room = room_first named (ascii " ") spaced_room

pub put_name-space-requires : goal.put_name-space-requires
unfolding ascii effect_text
put_name-space-requires c = room_next (name_text (ascii "(v") c.args.var) c.put_kind-head.ensures (named_room c.args.kind c.args.var _ c.requires.1)

pub put_byte-sum-requires : goal.put_byte-sum-requires
unfolding ascii effect_text
put_byte-sum-requires c =
    omega (arith, (room_next (ascii " ") (written_join c.put_kind-head.ensures c.put_name-space.ensures) (spaced_room c.args.kind c.args.var _ c.requires.1)).short)

pub put_sum-close-requires : goal.put_sum-close-requires
unfolding ascii effect_text
put_sum-close-requires c =
    let t = c.args.terms.now in
    let sum = expression_text (sum_of (terms_at t.part.now t.from t.count) c.args.base) in
    let spaced = written_join (written_join c.put_kind-head.ensures c.put_name-space.ensures) c.put_byte-sum.ensures in
    rw (back c.args.base c.ranges.base.sfits)
    (c.requires.0.sum, omega (arith, c.requires.0.base), room_next sum spaced (summed_room c.args.kind c.args.var sum c.requires.1))

pub put_byte-requires : goal.put_byte-requires
unfolding ascii effect_text
put_byte-requires c =
    let spaced = written_join (written_join c.put_kind-head.ensures c.put_name-space.ensures) c.put_byte-sum.ensures in
    omega (arith, (room_next (ascii ")") (written_join spaced (rw (back c.args.base c.ranges.base.sfits) at c.put_sum-close.ensures)) c.requires.1).short)

pub returns : goal.returns
unfolding ascii effect_text
returns c =
    let spaced = written_join (written_join c.put_kind-head.ensures c.put_name-space.ensures) c.put_byte-sum.ensures in
    written_join (written_join spaced (rw (back c.args.base c.ranges.base.sfits) at c.put_sum-close.ensures)) c.put_byte.ensures
