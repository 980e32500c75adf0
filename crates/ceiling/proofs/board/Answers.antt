-- `board` meets its contract. Assumes nothing.
use mathlib.Core.Path.{refl}
use Rattle.ceiling.specs.Ceiling.{rig}
use Rattle.ceiling.specs.Heads.{ceiling_of}
use Rattle.ceiling.proofs.board.Goals as goal

pub returns : goal.returns
unfolding ceiling_of rig
returns c = refl
