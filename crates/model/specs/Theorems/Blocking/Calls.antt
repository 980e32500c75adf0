-- The goal part that blocks, from the bytes of a normal table and a state to the answer: what an offset means, and that the answers are
-- those of decide case by case: a part where decide answers "no plan", nothing where it answers a layer, the same refusals, the same
-- layer memory. For all inputs. Assumes nothing.
use Rattle.std.specs.Prelude.{ℕ, ◌/◌, ◌≡◌, List, Result, Ok}
use Rattle.std.proofs.Math.Option.{none}
use Rattle.model.specs.declared.Refusal.{Refusal}
use Rattle.model.specs.declared.DecideAnswer.{DecideAnswer}
use Rattle.model.specs.declared.DecideAnswer.TheVariants as decide
use Rattle.model.specs.Limits.{paper}
use Rattle.model.specs.Task.{normal}
use Rattle.model.specs.Layer.{layer_at, Exhausted}
use Rattle.model.specs.Reading.{Table, accepted, only, reading}
use Rattle.model.specs.StateTable.{state_refusal}
use Rattle.model.specs.Blocking.{part_offset}
use Rattle.model.specs.Theorems.Campaigns.Demand3.{layer_zero}
use Rattle.model.specs.Theorems.Blocking.Parts.{FirstUnmet}

-- What it means that offset o blocks, where decide answers d.
pub record Blocks (t bs : List ℕ) (d : Result DecideAnswer Refusal) (o : ℕ) : Type 0 where
  -- the normal table and the state are accepted,
  pub table : Table
  pub read : reading paper (only normal) t ≡ accepted table
  pub state : state_refusal paper table.task.props (table.task.vars / 2) bs ≡ none
  -- "When a campaign comes back as "no plan"": the last layer, "the first t whose next layer equals layer t"
  pub layers : ℕ
  pub decides : d ≡ Ok (decide.NoPlan layers)
  pub exhausted : Exhausted table.task (layer_zero table bs) layers
  -- "the first 50 or 43 command of the goal, in table order, that the last layer does not meet"
  pub part : ℕ
  pub first : FirstUnmet table.task (layer_at table.task (layer_zero table bs) layers) part
  -- "the offset, in the normal table"
  pub offset : o ≡ part_offset table.task part
