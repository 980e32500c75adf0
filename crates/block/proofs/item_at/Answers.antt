-- `item_at` meets its contract: each arm is the law of its command, and the part's own reading gives the room for its operands.
-- Assumes nothing.
use Prim.Native.Nat.{◌+◌, ◌*◌, ◌≤◌, ◌<◌}
use native.Mathlib.Omega.{arith}
use mathlib.Core.Path.{refl, ◌∙◌}
use lib.ListN.{length}
use Rattle.integer.specs.Linear.{back}
use Rattle.block.specs.Closing.{found_need, found_add, found_delete, found_condition, found_effect, closed_room}
use Rattle.block.proofs.item_at.Goals as goal
use Rattle.block.proofs.item_at.Goals.{In-80, In-43, In-45, In-67, In_default}

pub bounds-part-at : goal.bounds-part-at
bounds-part-at c =
    let room : c.args.from + 4 * c.args.terms < length c.args.part.now = closed_room c.requires.closed in
    omega (arith, room)

room_need : (c : In-80) → c.args.from + 4 * c.args.terms + 2 ≤ length c.args.part.now
room_need c = (found_need c.requires.closed _ c.in-80.is refl).left.bytes.within

pub bounds-part-at-in-80 : goal.bounds-part-at-in-80
bounds-part-at-in-80 c = omega (arith, room_need (goal.at.bounds-part-at-in-80 c).In-80)

room_add : (c : In-43) → c.args.from + 4 * c.args.terms + 2 ≤ length c.args.part.now
room_add c = (found_add c.requires.closed _ c.in-43.is refl).left.bytes.within

pub bounds-part-at-in-43 : goal.bounds-part-at-in-43
bounds-part-at-in-43 c = omega (arith, room_add (goal.at.bounds-part-at-in-43 c).In-43)

room_delete : (c : In-45) → c.args.from + 4 * c.args.terms + 2 ≤ length c.args.part.now
room_delete c = (found_delete c.requires.closed _ c.in-45.is refl).left.bytes.within

pub bounds-part-at-in-45 : goal.bounds-part-at-in-45
bounds-part-at-in-45 c = omega (arith, room_delete (goal.at.bounds-part-at-in-45 c).In-45)

room_condition : (c : In-67) → c.args.from + 4 * c.args.terms + 6 ≤ length c.args.part.now
room_condition c = (found_condition c.requires.closed _ _ c.in-67.is refl refl).followed.left.bytes.within

pub bounds-part-at-in-67 : goal.bounds-part-at-in-67
bounds-part-at-in-67 c = omega (arith, room_condition (goal.at.bounds-part-at-in-67 c).In-67)

pub i32_at-requires : goal.i32_at-requires
i32_at-requires c = omega (arith, room_condition (goal.at.i32_at-requires c).In-67)

room_effect : (c : In_default) → c.args.from + 4 * c.args.terms + 7 ≤ length c.args.part.now
room_effect c = let r = c.in_default.in_default-own.rest in (found_effect c.requires.closed _ _ _ r.0.0.0.1 r.0.0.1 r.0.1 r.1 refl refl refl).followed.left.bytes.within

pub bounds-part-at-in_default : goal.bounds-part-at-in_default
bounds-part-at-in_default c = omega (arith, room_effect (goal.at.bounds-part-at-in_default c).In_default)

pub bounds-part-at-in_default-2 : goal.bounds-part-at-in_default-2
bounds-part-at-in_default-2 c = omega (arith, room_effect (goal.at.bounds-part-at-in_default-2 c).In_default)

pub i32_at-requires-in_default : goal.i32_at-requires-in_default
i32_at-requires-in_default c = omega (arith, room_effect (goal.at.i32_at-requires-in_default c).In_default)

pub returns-in-80 : goal.returns-in-80
returns-in-80 c =
    ((omega arith, room_need (goal.at.returns-in-80 c).In-80), λ k rest d. found_need d _ c.in-80.is refl)

pub returns-in-43 : goal.returns-in-43
returns-in-43 c =
    ((omega arith, room_add (goal.at.returns-in-43 c).In-43), λ k rest d. found_add d _ c.in-43.is refl)

pub returns-in-45 : goal.returns-in-45
returns-in-45 c =
    ((omega arith, room_delete (goal.at.returns-in-45 c).In-45), λ k rest d. found_delete d _ c.in-45.is refl)

pub returns-in-67 : goal.returns-in-67
returns-in-67 c = (
  (omega arith, room_condition (goal.at.returns-in-67 c).In-67),
  λ k rest d. found_condition d _ _ c.in-67.is refl (back c.i32_at.result c.i32_at.type_inv ∙ c.i32_at.ensures.0),
)

pub returns-in_default : goal.returns-in_default
returns-in_default c =
    let r = c.in_default.in_default-own.rest in (
      (omega arith, room_effect (goal.at.returns-in_default c).In_default),
      λ k rest d.
          found_effect d _ _ _ r.0.0.0.1 r.0.0.1 r.0.1 r.1 refl refl (back c.i32_at-in_default.result c.i32_at-in_default.type_inv ∙ c.i32_at-in_default.ensures.0),
    )
