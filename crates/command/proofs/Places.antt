-- The places in the order of reading, and the comparisons that the code derives of them. Assumes nothing.
use Rattle.std.specs.Prelude.{◌≡◌, refl, leb}
use Rattle.std.specs.Ordering.{partial_le}
use Rattle.model.specs.Command.{order}
use Rattle.command.specs.declared.Place.{Place}
use Rattle.command.specs.declared.Place.TheVariants.{Start, Preamble, InMove, InGoal, Finished}
use Rattle.command.specs.contracts.PlacePartialOrd.TheImpl as derived
use Rattle.command.specs.Names.{place_of}

pub each_place : (P : Place → Type 0) → P Start → P Preamble → P InMove → P InGoal → P Finished → (p : Place) → P p
each_place P a b c d e Start = a
each_place P a b c d e Preamble = b
each_place P a b c d e InMove = c
each_place P a b c d e InGoal = d
each_place P a b c d e Finished = e

pub le_order : (a b : Place) → partial_le derived.partial_cmp-value.it a b ≡ leb (order (place_of a)) (order (place_of b))
unfolding place_of order
le_order Start = each_place _ refl refl refl refl refl
le_order Preamble = each_place _ refl refl refl refl refl
le_order InMove = each_place _ refl refl refl refl refl
le_order InGoal = each_place _ refl refl refl refl refl
le_order Finished = each_place _ refl refl refl refl refl
