-- `lapyndo_place` meets its contract. Assumes nothing.
use mathlib.Core.Path.{ap, ◌∙◌}
use borrow.Author.Rules.{rules}
use Rattle.std.specs.Prelude.{Result}
use Rattle.placement.specs.declared.Placed.{Placed}
use Rattle.placement.specs.Exports.{place_code, place_length, place_place}
use Rattle.placement.proofs.Theorems.Codes.{place_small}
use Rattle.engine.proofs.lapyndo_place.Goals as goal
use Rattle.model.specs.declared.Refusal.{Refusal}

pub place_code-requires : goal.place_code-requires
place_code-requires c = rw c.place.ensures.0 (place_small _ _ _)

pub returns : goal.returns
returns c =
    let a = c.args in (
      c.place_code.ensures.0 ∙ ap place_code c.place.ensures.0,
      c.place.ensures.1,
      c.place_code.ensures.1 ∙ ap (λ (r : Result Placed Refusal). place_length r a.length.now) c.place.ensures.0,
      c.place_code.ensures.2 ∙ ap (λ (r : Result Placed Refusal). place_place r a.place.now) c.place.ensures.0,
    )
