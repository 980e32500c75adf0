-- `put_domain` meets its contract: five stores, one behind the other. Assumes nothing.
use Prim.Native.Nat.{ℕ}
use native.Mathlib.Omega.{arith}
use mathlib.Core.List.{List, ◌++◌}
use Rattle.model.specs.Ascii.{ascii}
use Rattle.model.specs.Task.{Task}
use Rattle.reader.specs.Written.{read_task}
use Rattle.output.specs.Writing.{Room, written_join, room_first, room_next}
use Rattle.pddl_sum.specs.Names.{each, declared}
use Rattle.pddl_text.specs.Documents.{action_at, domain_pieces}
use Rattle.pddl_text.proofs.put_domain.Goals as goal

-- the texts up to the predicates, to the functions and to the actions
abbrev predicated : ℕ → List ℕ
predicated props = ascii "(define (domain campaign)\n  (:requirements :strips :fluents)" ++ declared (ascii "\n  (:predicates") (ascii "\n    (p") props

abbrev declared_both : ℕ → ℕ → List ℕ
declared_both props vars = predicated props ++ declared (ascii "\n  (:functions") (ascii "\n    (v") vars

-- and the room for each
module _ {at : ℕ} (k : Task) (props vars moves : ℕ) (room : Room at (domain_pieces k props vars moves)) where
  actions_room : Room at (declared_both props vars ++ each (action_at k) 0 moves)
  unfolding domain_pieces
  actions_room = room_first (declared_both props vars ++ each (action_at k) 0 moves) (ascii ")\n") room

  functions_room : Room at (declared_both props vars)
  functions_room = room_first (declared_both props vars) (each (action_at k) 0 moves) actions_room

  predicates_room : Room at (predicated props)
  predicates_room = room_first (predicated props) (declared (ascii "\n  (:functions") (ascii "\n    (v") vars) functions_room

pub put_bytes-predicates-requires : goal.put_bytes-predicates-requires
unfolding ascii
put_bytes-predicates-requires c =
    omega (arith, (room_first (ascii "(define (domain campaign)\n  (:requirements :strips :fluents)") _ (predicates_room _ _ _ _ c.requires.1)).short)

pub put_declared-functions-requires : goal.put_declared-functions-requires
unfolding ascii
put_declared-functions-requires c =
    room_next (declared (ascii "\n  (:predicates") (ascii "\n    (p") c.args.blocks.now.props) c.put_bytes-predicates.ensures (predicates_room _ _ _ _ c.requires.1)

pub put_declared-actions-requires : goal.put_declared-actions-requires
unfolding ascii
put_declared-actions-requires c =
    let w = written_join c.put_bytes-predicates.ensures c.put_declared-functions.ensures in
    room_next (declared (ascii "\n  (:functions") (ascii "\n    (v") c.args.blocks.now.vars) w (functions_room _ _ _ _ c.requires.1)

pub put_actions-close-requires : goal.put_actions-close-requires
unfolding ascii
put_actions-close-requires c =
    let k = c.args.blocks.now in
    let w = written_join (written_join c.put_bytes-predicates.ensures c.put_declared-functions.ensures) c.put_declared-actions.ensures in
    (c.requires.0, room_next (each (action_at (read_task k.table.now)) 0 k.moves) w (actions_room _ _ _ _ c.requires.1))

pub put_bytes-requires : goal.put_bytes-requires
unfolding ascii domain_pieces
put_bytes-requires c =
    let w = written_join (written_join c.put_bytes-predicates.ensures c.put_declared-functions.ensures) c.put_declared-actions.ensures in
    omega (arith, (room_next (ascii ")\n") (written_join w c.put_actions-close.ensures) c.requires.1).short)

pub returns : goal.returns
unfolding ascii domain_pieces
returns c =
    let w = written_join (written_join c.put_bytes-predicates.ensures c.put_declared-functions.ensures) c.put_declared-actions.ensures in
    written_join (written_join w c.put_actions-close.ensures) c.put_bytes.ensures
