-- Small cases for errors that documents 01 and 02 exclude and that no trial campaign shows, from bytes, computed.
-- Assumes nothing.
use Rattle.std.specs.Prelude.{refl}
use Rattle.model.specs.Theorems.Campaigns.Tables.{doubling}
use Rattle.model.specs.Theorems.Campaigns.Computing.{computing}
use Rattle.model.specs.Theorems.Campaigns.Cases.{Cases, blanks, exchange, grid, grid_normal, relay, swap}

pub cases : Cases
unfolding computing relay swap exchange doubling grid grid_normal blanks
cases =
    record {
      increase_in_layer = refl;
      effects_read_before = refl;
      deletes_do_not_count = refl;
      equal_layer_needs_none = refl;
      weight_0_no_edge = refl;
      weight_0_dropped = refl;
      weight_0_passed_over = refl;
      weight_0_alone = refl;
      weight_0_rises = refl;
      rises_above_weight_0 = refl;
      weight_0_counts = refl;
      eight_of_weight_0 = refl;
      weight_0_not_normal = refl;
    }
