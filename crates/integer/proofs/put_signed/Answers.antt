-- `put_signed` meets its contract: the bytes of the residue.
-- Assumes nothing.
use Prim.Native.Nat.{ℕ, ◌^◌}
use mathlib.Core.Path.{◌≡◌, ◌∙◌, ap}
use Rattle.integer.specs.BigEndian.{bytes, residue, signed_bytes}
use Rattle.integer.specs.Store.{put}
use Rattle.integer.specs.Linear.{back}
use Rattle.integer.proofs.put_signed.Goals as goal

pub to_residue-requires : goal.to_residue-requires
to_residue-requires c = (rw (back c.args.v c.ranges.v.sfits) c.requires.1, c.requires.3)

pub put_unsigned-requires : goal.put_unsigned-requires
put_unsigned-requires c = c.requires.0

pub returns : goal.returns
unfolding signed_bytes
returns c =
    let told : c.to_residue.result ≡ residue (256 ^ c.args.width) c.args.v = (rw (back c.args.v c.ranges.v.sfits) at c.to_residue.ensures) ∙ ap (λ (m : ℕ). residue m c.args.v) c.requires.2 in
    c.put_unsigned.ensures
    ∙ ap (λ (n : ℕ). put c.args.out.now c.args.at (bytes c.args.width n)) (told)
