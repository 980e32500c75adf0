-- `block_at` meets its contract. Assumes nothing.
use native.Mathlib.Omega.{arith}
use mathlib.Core.Path.{refl}
use Rattle.model.specs.Limits.{paper}
use Rattle.ceiling.proofs.Theorems.Calls.{same_reading, turned_reading}
use Rattle.table.specs.Names.{wanted_of}
use Rattle.ceiling.specs.Heads.{ceiling_of}
use Rattle.rig.specs.Admission.{admitted, turned}
use Rattle.rig.specs.Blocks.{same_block, no_block}
use Rattle.rig.proofs.block_at.Goals as goal

pub returns-in-Ok : goal.returns-in-Ok
unfolding wanted_of
returns-in-Ok c = same_block _ _ _ _ _ _ (same_reading (ceiling_of c.args.c) paper _ (admitted _ _ _ c.admit.ensures c.in-Ok.is)) c.block_at.ensures

pub returns-in-Err : goal.returns-in-Err
unfolding wanted_of
returns-in-Err c = no_block _ _ _ _ _ _ _ (turned_reading (ceiling_of c.args.c) paper _ _ (turned _ _ _ c.admit.ensures c.in-Err.is)) refl refl refl (record { memory = refl; offset = omega arith })
