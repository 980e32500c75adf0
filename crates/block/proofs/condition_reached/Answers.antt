-- `condition_reached` meets its contract. Assumes nothing.
use mathlib.Core.Path.{◌∙◌}
use Rattle.integer.specs.Linear.{back}
use Rattle.model.specs.Layer.{layer_sum}
use Rattle.block.proofs.condition_reached.Goals as goal

pub sum_layer-requires : goal.sum_layer-requires
sum_layer-requires c = c.requires

pub returns : goal.returns
returns c =
    record {
      is =
          λ k ts f h r.
          rw (back c.args.bound c.ranges.bound.sfits) at
          (c.reaches.ensures (layer_sum f ts)
          (back c.sum_layer.result c.sum_layer.type_inv ∙ (c.sum_layer.ensures.is k ts f h r).is));
    }
