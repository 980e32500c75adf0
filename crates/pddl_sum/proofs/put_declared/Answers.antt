-- `put_declared` meets its contract: nothing, or three stores, one behind the other. Assumes nothing.
use Prim.Native.Nat.{ℕ}
use native.Mathlib.Omega.{arith}
use mathlib.Core.Path.{◌≡◌, sym}
use mathlib.Core.List.{List, ◌++◌}
use Rattle.model.specs.Ascii.{ascii}
use Rattle.output.specs.Writing.{Room, written_join, written_same, written_none, room_same, room_first, room_next}
use Rattle.pddl_sum.specs.Names.{name_text, each, declared, declared_none, declared_some}
use Rattle.pddl_sum.proofs.put_declared.Goals as goal

-- the room for the three pieces of a list that is not empty, and for the first two
module _ {at n : ℕ} (list word : List ℕ) (some : n ≡ 0 → ⊥) (room : Room at (declared list word n)) where
  whole_room : Room at (list ++ each (name_text word) 0 n ++ ascii ")")
  whole_room = room_same room (declared_some list word n some)

  names_room : Room at (list ++ each (name_text word) 0 n)
  names_room = room_first (list ++ each (name_text word) 0 n) (ascii ")") whole_room

pub returns-then-n-eq0 : goal.returns-then-n-eq0
returns-then-n-eq0 c =
    let a = c.args in
    written_same (written_none a.out.now a.at) (sym (declared_none a.list.now a.word.now c.if-n-eq0.true))

pub put_bytes-names-requires : goal.put_bytes-names-requires
put_bytes-names-requires c =
    let a = c.args in
    omega (arith, (room_first a.list.now (each (name_text a.word.now) 0 a.n) (names_room a.list.now a.word.now c.if-n-eq0.false c.requires)).short)

pub put_names-close-requires : goal.put_names-close-requires
put_names-close-requires c =
    let a = c.args in
    room_next (each (name_text a.word.now) 0 a.n) c.put_bytes-names.ensures (names_room a.list.now a.word.now c.if-n-eq0.false c.requires)

pub put_byte-requires : goal.put_byte-requires
put_byte-requires c =
    let a = c.args in
    let names = written_join c.put_bytes-names.ensures c.put_names-close.ensures in
    omega (arith, (room_next (ascii ")") names (whole_room a.list.now a.word.now c.if-n-eq0.false c.requires)).short)

pub returns : goal.returns
unfolding ascii
returns c =
    let a = c.args in
    written_same (written_join (written_join c.put_bytes-names.ensures c.put_names-close.ensures) c.put_byte.ensures)
    (sym (declared_some a.list.now a.word.now a.n c.if-n-eq0.false))
