-- `signed_at` meets its contract: two's complement of the unsigned number in the same bytes.
-- Assumes nothing.
use mathlib.Core.Path.{◌∙◌, ap₂}
use native.Mathlib.Omega.{arith}
use Rattle.integer.specs.BigEndian.{twos}
use Rattle.integer.proofs.BigEndian.{half_twice, signed_part}
use Rattle.integer.specs.Linear.{back}
use Rattle.integer.proofs.signed_at.Goals as goal

pub unsigned_at-requires : goal.unsigned_at-requires
unsigned_at-requires c = (c.requires.0, c.requires.2)

pub from_residue-requires : goal.from_residue-requires
from_residue-requires c = (omega (arith, half_twice c.args.width c.requires.1), c.requires.4)

pub returns : goal.returns
returns c =
    rw (back c.from_residue.result c.from_residue.type_inv) (
      c.from_residue.ensures.0
          ∙ ap₂ twos c.requires.3 c.unsigned_at.ensures.0
          ∙ signed_part c.args.s.now c.args.at c.args.width c.requires.0,
      c.from_residue.ensures.1,
    )
