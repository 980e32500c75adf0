-- `put_value` meets its contract: four stores, one behind the other. Assumes nothing.
use Prim.Native.Nat.{ℕ}
use native.Mathlib.Omega.{arith}
use mathlib.Core.Path.{◌≡◌, ◌∙◌}
use mathlib.Core.List.{List, ◌++◌}
use lib.IntN.{ℤ}
use mir.Syntax.{w64}
use mir.Val.{to_z, of_z}
use Rattle.integer.specs.Linear.{back}
use Rattle.model.specs.Ascii.{ascii}
use Rattle.model.specs.StateTable.{value_offset, state_value, state_of}
use Rattle.model.specs.Pddl.{number_text}
use Rattle.output.specs.Writing.{Room, written_join, room_first, room_next}
use Rattle.pddl_sum.specs.Names.{name_text}
use Rattle.pddl_text.specs.Documents.{value_text, value_row}
use Rattle.pddl_text.proofs.put_value.Goals as goal

-- the texts up to the name, to the space and to the number
abbrev named : ℕ → List ℕ
named v = name_text (ascii "\n    (= (v") v

abbrev spaced : ℕ → List ℕ
spaced v = named v ++ ascii " "

abbrev numbered : ℕ → ℤ → List ℕ
numbered v z = spaced v ++ number_text z

module _ {at : ℕ} (v : ℕ) (z : ℤ) (room : Room at (numbered v z ++ ascii ")")) where
  numbered_room : Room at (numbered v z)
  numbered_room = room_first (numbered v z) (ascii ")") room

  spaced_room : Room at (spaced v)
  spaced_room = room_first (spaced v) (number_text z) numbered_room

  named_room : Room at (named v)
  named_room = room_first (named v) (ascii " ") spaced_room

pub overflow_mul-v : goal.overflow_mul-v
overflow_mul-v c = omega (arith, c.requires.1)

pub overflow_add-props : goal.overflow_add-props
overflow_add-props c = omega (arith, c.requires.0)

pub i32_at-z-requires : goal.i32_at-z-requires
i32_at-z-requires c = omega (arith, c.requires.0)

pub put_name-space-requires : goal.put_name-space-requires
unfolding ascii value_row value_text state_of
put_name-space-requires c = named_room _ (state_value c.args.props c.args.state.now c.args.v) c.requires.2

pub put_byte-number-requires : goal.put_byte-number-requires
unfolding ascii value_row value_text state_of
put_byte-number-requires c = omega (arith, (room_next (ascii " ") c.put_name-space.ensures (spaced_room _ (state_value c.args.props c.args.state.now c.args.v) c.requires.2)).short)

pub put_number-close-requires : goal.put_number-close-requires
unfolding ascii state_value value_offset value_row value_text state_of
put_number-close-requires c =
    let a = c.args in (
      rw (back c.i32_at-z.result c.i32_at-z.type_inv) (omega (arith, c.i32_at-z.ensures.1)),
      rw (back c.i32_at-z.result c.i32_at-z.type_inv ∙ c.i32_at-z.ensures.0)
          (room_next (number_text (state_value a.props a.state.now a.v)) (written_join c.put_name-space.ensures c.put_byte-number.ensures) (numbered_room _ (state_value c.args.props c.args.state.now c.args.v) c.requires.2)),
    )

pub put_byte-requires : goal.put_byte-requires
unfolding ascii state_value value_offset value_row value_text state_of
put_byte-requires c =
    let reads : to_z w64 (of_z w64 c.i32_at-z.result) ≡ state_value c.args.props c.args.state.now c.args.v = back c.i32_at-z.result c.i32_at-z.type_inv ∙ c.i32_at-z.ensures.0 in
    let w = written_join c.put_name-space.ensures c.put_byte-number.ensures in
    omega (arith, (room_next (ascii ")") (written_join w (rw reads at c.put_number-close.ensures)) c.requires.2).short)

pub returns : goal.returns
unfolding ascii value_row value_text state_of state_value value_offset
returns c =
    let reads : to_z w64 (of_z w64 c.i32_at-z.result) ≡ state_value c.args.props c.args.state.now c.args.v = back c.i32_at-z.result c.i32_at-z.type_inv ∙ c.i32_at-z.ensures.0 in
    let w = written_join c.put_name-space.ensures c.put_byte-number.ensures in
    written_join (written_join w (rw reads at c.put_number-close.ensures)) c.put_byte.ensures
