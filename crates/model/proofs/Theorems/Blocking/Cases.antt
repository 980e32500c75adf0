-- Small cases of the goal part that blocks, for errors that document 02 excludes, from bytes, computed. Assumes nothing.
use Rattle.std.specs.Prelude.{refl}
use Rattle.model.specs.Theorems.Campaigns.Tables.{m1_normal}
use Rattle.model.specs.Theorems.Campaigns.Computing.{computing}
use Rattle.model.specs.Theorems.Blocking.Cases.{Cases, end, five_by, least5, least6, least_million, missed, needs0, term_in_move, two_props}

pub cases : Cases
unfolding computing two_props five_by least5 least6 least_million needs0 end term_in_move missed m1_normal
cases =
    record {
      second_proposition = refl;
      memory_as_decide = refl;
      offset_of_the_43 = refl;
      first_in_order = refl;
      unbounded_is_met = refl;
      no_terms = refl;
      term_in_a_move = refl;
      equal_is_two = refl;
      planned_blocks_nothing = refl;
      short_memory = refl;
      written_table = refl;
    }
