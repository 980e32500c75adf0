-- `note_moves` meets its contract. Assumes nothing.
use Rattle.layer_memory.specs.Storing.{notes_moves}
use Rattle.layer_memory.proofs.note_moves.Goals as goal

pub returns : goal.returns
returns c =
    let a = c.args in
    notes_moves a.props a.moves a.t a.used.now a.layers.now c.note.new.entries c.requires.0 c.note.ensures
