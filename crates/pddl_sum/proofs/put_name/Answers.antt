-- `put_name` meets its contract: three stores, one behind the other. Assumes nothing.
use Prim.Native.Nat.{ℕ}
use native.Mathlib.Omega.{arith}
use mathlib.Core.List.{List, ◌++◌}
use Rattle.model.specs.Ascii.{ascii}
use Rattle.model.specs.Listing.{decimal}
use Rattle.output.specs.Writing.{Room, written_join, room_first, room_next}
use Rattle.pddl_sum.specs.Names.{name_text}
use Rattle.pddl_sum.proofs.put_name.Goals as goal

numbered_room : {at : ℕ} (word : List ℕ) (n : ℕ) → Room at (name_text word n) → Room at (word ++ decimal n)
unfolding name_text
numbered_room word n room = room_first (word ++ decimal n) (ascii ")") room

pub put_bytes-number-requires : goal.put_bytes-number-requires
put_bytes-number-requires c =
    let a = c.args in
    omega (arith, (room_first a.word.now (decimal a.n) (numbered_room a.word.now a.n c.requires)).short)

pub put_decimal-close-requires : goal.put_decimal-close-requires
put_decimal-close-requires c =
    let a = c.args in
    omega (arith, (room_next (decimal a.n) c.put_bytes-number.ensures (numbered_room a.word.now a.n c.requires)).short)

pub put_byte-requires : goal.put_byte-requires
unfolding name_text
put_byte-requires c = omega (arith, (room_next (ascii ")") (written_join c.put_bytes-number.ensures c.put_decimal-close.ensures) c.requires).short)

pub returns : goal.returns
unfolding name_text ascii
returns c = written_join (written_join c.put_bytes-number.ensures c.put_decimal-close.ensures) c.put_byte.ensures
