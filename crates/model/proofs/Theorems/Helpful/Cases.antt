-- The set of helpful moves from bytes, computed: a case for each part of the sentence (document 02, request 6). Assumes nothing.
use Rattle.std.specs.Prelude.{refl}
use Rattle.model.specs.Theorems.Campaigns.Computing.{computing}
use Rattle.model.specs.Theorems.Helpful.Cases.{Cases}

pub cases : Cases
unfolding computing
cases =
    record {
      not_taken = refl;
      not_usable = refl;
      above_zero = refl;
      in_layer_0 = refl;
      carried_prop = refl;
      carried_target = refl;
      wants_of_layer_1 = refl;
      layer_0 = refl;
      no_plan = refl;
    }
