-- `put_action` meets its contract: seven stores, one behind the other. Assumes nothing.
use Prim.Native.Nat.{ℕ}
use native.Mathlib.Omega.{arith}
use mathlib.Core.List.{List, ◌++◌}
use Rattle.model.specs.Ascii.{ascii}
use Rattle.model.specs.Listing.{decimal}
use Rattle.output.specs.Writing.{Room, written_join, room_first, room_next}
use Rattle.pddl_block.specs.Rows.{condition_rows, effect_rows}
use Rattle.pddl_text.specs.Documents.{action_row}
use Rattle.pddl_text.proofs.put_action.Goals as goal

-- the texts up to the number, to where the conditions begin, to the conditions, to where the effects begin and to the effects
module _ (b : ℕ) (conditions effects : List ℕ) where
  abbrev numbered : List ℕ
  numbered = ascii "\n  (:action a" ++ decimal b

  abbrev opened : List ℕ
  opened = numbered ++ ascii "\n    :parameters ()\n    :precondition (and"

  abbrev conditioned : List ℕ
  conditioned = opened ++ conditions

  abbrev between : List ℕ
  between = conditioned ++ ascii ")\n    :effect (and"

  abbrev affected : List ℕ
  affected = between ++ effects

  -- and the room for each
  module _ {at : ℕ} (room : Room at (affected ++ ascii "))")) where
    affected_room : Room at affected
    affected_room = room_first affected (ascii "))") room

    between_room : Room at between
    between_room = room_first between effects affected_room

    conditioned_room : Room at conditioned
    conditioned_room = room_first conditioned (ascii ")\n    :effect (and") between_room

    opened_room : Room at opened
    opened_room = room_first opened conditions conditioned_room

    numbered_room : Room at numbered
    numbered_room = room_first numbered (ascii "\n    :parameters ()\n    :precondition (and") opened_room

pub put_bytes-number-requires : goal.put_bytes-number-requires
unfolding ascii action_row
put_bytes-number-requires c =
    omega (arith, (room_first (ascii "\n  (:action a") (decimal c.args.b) (numbered_room c.args.b _ _ c.requires.room)).short)

pub put_decimal-parameters-requires : goal.put_decimal-parameters-requires
unfolding ascii action_row
put_decimal-parameters-requires c =
    omega (arith, (room_next (decimal c.args.b) c.put_bytes-number.ensures (numbered_room c.args.b _ _ c.requires.room)).short)

pub put_bytes-conditions-requires : goal.put_bytes-conditions-requires
unfolding ascii action_row
put_bytes-conditions-requires c =
    let w = written_join c.put_bytes-number.ensures c.put_decimal-parameters.ensures in
    omega (arith, (room_next (ascii "\n    :parameters ()\n    :precondition (and") w (opened_room c.args.b _ _ c.requires.room)).short)

pub put_conditions-effect-requires : goal.put_conditions-effect-requires
unfolding ascii action_row
put_conditions-effect-requires c =
    let w = written_join (written_join c.put_bytes-number.ensures c.put_decimal-parameters.ensures) c.put_bytes-conditions.ensures in
    record {
      block = c.requires.block;
      remaining = c.requires.remaining;
      room = room_next (condition_rows (ascii "\n      ") c.requires.block) w (conditioned_room c.args.b _ _ c.requires.room);
    }

pub put_bytes-effects-requires : goal.put_bytes-effects-requires
unfolding ascii action_row
put_bytes-effects-requires c =
    let w = written_join (written_join c.put_bytes-number.ensures c.put_decimal-parameters.ensures) c.put_bytes-conditions.ensures in
    let v = written_join w (c.put_conditions-effect.ensures c.requires.block c.requires.remaining) in
    omega (arith, (room_next (ascii ")\n    :effect (and") v (between_room c.args.b _ _ c.requires.room)).short)

pub put_effects-close-requires : goal.put_effects-close-requires
unfolding ascii action_row
put_effects-close-requires c =
    let w = written_join (written_join c.put_bytes-number.ensures c.put_decimal-parameters.ensures) c.put_bytes-conditions.ensures in
    let v = written_join w (c.put_conditions-effect.ensures c.requires.block c.requires.remaining) in
    record {
      block = c.requires.block;
      remaining = c.requires.remaining;
      room = room_next (effect_rows (ascii "\n      ") c.requires.block) (written_join v c.put_bytes-effects.ensures) (affected_room c.args.b _ _ c.requires.room);
    }

pub put_bytes-requires : goal.put_bytes-requires
unfolding ascii action_row
put_bytes-requires c =
    let w = written_join (written_join c.put_bytes-number.ensures c.put_decimal-parameters.ensures) c.put_bytes-conditions.ensures in
    let v = written_join w (c.put_conditions-effect.ensures c.requires.block c.requires.remaining) in
    let u = written_join (written_join v c.put_bytes-effects.ensures) (c.put_effects-close.ensures c.requires.block c.requires.remaining) in
    omega (arith, (room_next (ascii "))") u c.requires.room).short)

pub returns : goal.returns
unfolding ascii action_row
returns c m r =
    let w = written_join (written_join c.put_bytes-number.ensures c.put_decimal-parameters.ensures) c.put_bytes-conditions.ensures in
    let v = written_join w (c.put_conditions-effect.ensures m r) in
    written_join (written_join (written_join v c.put_bytes-effects.ensures) (c.put_effects-close.ensures m r)) c.put_bytes.ensures
