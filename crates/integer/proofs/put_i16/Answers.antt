-- `put_i16` meets its contract: `put_signed` at two bytes.
-- Assumes nothing.
use mathlib.Core.Path.{◌≡◌, refl}
use native.Mathlib.Omega.{arith}
use mir.Syntax.{w64}
use mir.Val.{to_z, of_z}
use Rattle.integer.specs.Linear.{back}
use Rattle.integer.proofs.put_i16.Goals as goal

pub put_signed-requires : goal.put_signed-requires
put_signed-requires c =
    let value : to_z w64 (of_z w64 c.args.v) ≡ c.args.v = back c.args.v c.ranges.v.sfits in
    (c.requires.0, rw (value) (omega arith), refl, omega arith)

pub returns : goal.returns
returns c =
    let value : to_z w64 (of_z w64 c.args.v) ≡ c.args.v = back c.args.v c.ranges.v.sfits in
    rw (value) at c.put_signed.ensures
