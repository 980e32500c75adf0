-- `put_text` meets its contract: the domain, then the problem. Assumes nothing.
use Rattle.std.proofs.Common.{ℕ, List, ◌++◌, sym}
use Rattle.model.specs.StateTable.{state_of}
use Rattle.reader.specs.Written.{read_task}
use Rattle.output.specs.Writing.{Room, written_join, written_same, room_same, room_first, room_next}
use Rattle.pddl_text.specs.Documents.{domain_pieces, problem_pieces}
use Rattle.pddl_text.specs.Printable.{Printable, source, text_pieces, text_room}
use Rattle.pddl_text.proofs.put_text.Goals as goal

pieces_room :
    {t marks bs : List ℕ} {props vars moves : ℕ}
    → Printable t marks props vars moves bs
    → Room 0 (domain_pieces (read_task t) props vars moves ++ problem_pieces (state_of props bs) props vars (read_task t).goal)
pieces_room p = room_same (text_room p) (sym (text_pieces p))

pub put_domain-problem-requires : goal.put_domain-problem-requires
put_domain-problem-requires c = (source c.requires, room_first _ _ (pieces_room c.requires))

pub put_problem-requires : goal.put_problem-requires
put_problem-requires c = (c.requires, room_next _ c.put_domain-problem.ensures (pieces_room c.requires))

pub returns : goal.returns
returns c = written_same (written_join c.put_domain-problem.ensures c.put_problem.ensures) (text_pieces c.requires)
