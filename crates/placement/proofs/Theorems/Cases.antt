-- Cases of a closure day, computed. Assumes nothing.
use Rattle.std.specs.Prelude.{refl}
use Rattle.integer.specs.BigEndian.{unsigned, bytes}
use Rattle.model.specs.Lists.{first_from, tabulate}
use Rattle.model.specs.Memory.{overwrite}
use Rattle.model.specs.Calls.{fitted, output_after}
use Rattle.placement.specs.Day.{paper_day, minute_at, window_at, duration_at, pieces, overlaps, wrong_window, wrong_duration, first_window, first_duration, windows_of, durations_of}
use Rattle.placement.specs.Placing.{start_in, earliest, behind_entry, place_next, place_from, start_bytes, starts_of, end_minute, checked, day_placed, placing, answered, place_answer, place_out}
use Rattle.placement.specs.Theorems.Cases.{DayCases, minutes, room}

pub day_cases : DayCases
unfolding paper_day unsigned bytes first_from tabulate overwrite fitted output_after minute_at window_at duration_at pieces overlaps wrong_window wrong_duration first_window first_duration windows_of durations_of start_in earliest behind_entry place_next place_from start_bytes starts_of end_minute checked day_placed placing answered place_answer place_out room minutes
day_cases =
    record {
      shutting = refl;
      starts = refl;
      across = refl;
      no_way_back = refl;
      second = refl;
      empty = refl;
      checked_first = refl;
      no_windows = refl;
      windows_first = refl;
      before_19 = refl;
      before_13 = refl;
      last = refl;
      cut_window = refl;
      cut_duration = refl;
      longest = refl;
      too_long = refl;
      too_late = refl;
      windows64 = refl;
      windows65 = refl;
    }
