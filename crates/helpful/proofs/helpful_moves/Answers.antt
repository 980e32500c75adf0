-- `helpful_moves` meets its contract. Assumes nothing.
use Prim.Native.Nat.{◌+◌, ◌-◌}
use native.Mathlib.Omega.{arith}
use mathlib.Core.Path.{◌≡◌}
use lib.ListN.{length, drop, take, length-drop}
use lib.Seq.{take_all}
use Rattle.helpful.specs.Sets.{layer_gatherable}
use Rattle.helpful.proofs.helpful_moves.Goals as goal

pub gather-requires : goal.gather-requires
gather-requires c =
    let row_is : take (length c.args.layers.now - (c.args.blocks.now.props + c.args.blocks.now.moves)) (drop (c.args.blocks.now.props + c.args.blocks.now.moves) c.args.layers.now) ≡ drop (c.args.blocks.now.props + c.args.blocks.now.moves) c.args.layers.now = let a = c.args in
    take_all (length a.layers.now - (a.blocks.now.props + a.blocks.now.moves)) (drop (a.blocks.now.props + a.blocks.now.moves) a.layers.now) (omega (arith, length-drop (a.blocks.now.props + a.blocks.now.moves) a.layers.now)) in
    layer_gatherable c.requires (row_is)

pub returns : goal.returns
returns c x =
    let row_is : take (length c.args.layers.now - (c.args.blocks.now.props + c.args.blocks.now.moves)) (drop (c.args.blocks.now.props + c.args.blocks.now.moves) c.args.layers.now) ≡ drop (c.args.blocks.now.props + c.args.blocks.now.moves) c.args.layers.now = let a = c.args in
    take_all (length a.layers.now - (a.blocks.now.props + a.blocks.now.moves)) (drop (a.blocks.now.props + a.blocks.now.moves) a.layers.now) (omega (arith, length-drop (a.blocks.now.props + a.blocks.now.moves) a.layers.now)) in
    record { is = c.gather.ensures (layer_gatherable x (row_is)) }
