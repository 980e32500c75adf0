-- `length_limit` meets its contract, by the heads wanted.
-- Assumes nothing.
use mathlib.Core.Logic.{inl, inr}
use mathlib.Core.Path.{refl}
use Rattle.model.specs.Limits.{paper}
use Rattle.model.specs.Reading.{length_limit}
use Rattle.command.specs.Names.{wanted_of}
use Rattle.table.proofs.length_limit.Goals as goal

pub returns-in-Written : goal.returns-in-Written
unfolding wanted_of length_limit paper
returns-in-Written c = rw c.in-Written.is refl

pub returns-in-Normal : goal.returns-in-Normal
unfolding wanted_of length_limit paper
returns-in-Normal c = rw c.in-Normal.is refl

pub returns-in-Both : goal.returns-in-Both
unfolding wanted_of length_limit
returns-in-Both c = elim c.in-Both.is [ inl e ↦ rw e c.read_limit.ensures | inr e ↦ rw e c.read_limit.ensures ]
