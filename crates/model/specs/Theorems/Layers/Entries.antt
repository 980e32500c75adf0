-- Entries of layer memory: how one more layer changes an entry, and what an entry says of a layer.
-- Assumes nothing.
use Rattle.std.specs.Prelude.{ℕ, Bool, cond, ◌&&◌, ℤ}
use Rattle.std.proofs.Math.IntN.{pos}
use Rattle.std.specs.Int.Signed.{lt_z}

-- an entry after one more layer, t: filled if it was empty and the layer has it
unfoldable pub noted : ℤ → Bool → ℕ → ℤ
noted e b t = cond (lt_z e (pos 0) && b) (pos t) e
