-- How building layers in a memory ends: with room and no value past the limit it answers the outcome of the search, and whatever
-- it answers is that outcome; and building unrolled, layer by layer, in document 01's order. Assumes nothing.
use Rattle.std.specs.Prelude.{ℕ, suc, ◌≡◌, true, false}
use Rattle.model.specs.Limits.{Limits}
use Rattle.model.specs.Task.{Task}
use Rattle.model.specs.Move.{State}
use Rattle.model.specs.Layer.{meets_goal, EqualNext, reached, exhausted}
use Rattle.model.specs.Memory.{wrong15, wrong14, Built, answered, stopped}

-- ---- building unrolled
-- layer t is refused by neither 15 nor 14: it is stored
pub record Stored (L : Limits) (k : Task) (s : State) (size t : ℕ) : Type 0 where
  pub small : wrong15 L k s t ≡ false
  pub fits : wrong14 k size t ≡ false

-- Layer t is made, and from there building ends so.
pub data BuildsFrom (L : Limits) (k : Task) (s : State) (size : ℕ) : ℕ → Built → Type 0 where
  -- "each new layer | 15", then 14
  too_large : {t : ℕ} → wrong15 L k s t ≡ true → BuildsFrom L k s size t (stopped 15 t)
  too_short : {t : ℕ} → wrong15 L k s t ≡ false → wrong14 k size t ≡ true → BuildsFrom L k s size t (stopped 14 t)
  -- "If layer t meets the goal, building stops with answer layer t."
  answer : {t : ℕ} → Stored L k s size t → meets_goal k s t ≡ true → BuildsFrom L k s size t (answered (reached t))
  -- "A next layer equal to layer t is not stored and needs no memory; the answer is "no plan"."
  no_plan : {t : ℕ} → Stored L k s size t → meets_goal k s t ≡ false → EqualNext k s t → BuildsFrom L k s size t (answered (exhausted t))
  -- any other is a new layer
  goes_on_lem :
      {t : ℕ} {b : Built} → Stored L k s size t → meets_goal k s t ≡ false → (EqualNext k s t → ⊥)
      → BuildsFrom L k s size (suc t) b
      → BuildsFrom L k s size t b
