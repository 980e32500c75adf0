-- Every number of an answer is small enough for the numbers that hosts in C are given: places, lengths, offsets and reported layers
-- are far below 2^31, whatever the lengths of table, state and memories.
-- Assumes nothing.
use Rattle.std.specs.Prelude.{ℕ, ◌^◌, ◌≤◌, ◌<◌, ◌≡◌, length, Option, Some, None, Result, Ok, Err}
use Rattle.model.specs.declared.Refusal.{Refusal}
use Rattle.model.specs.declared.Head.{Head}
use Rattle.model.specs.declared.DecideAnswer.{DecideAnswer}
use Rattle.model.specs.declared.DecideAnswer.TheVariants as decide
use Rattle.model.specs.declared.PlanAnswer.{PlanAnswer}
use Rattle.model.specs.declared.PlanAnswer.TheVariants as plan
use Rattle.model.specs.Calls.{Output, writes, turns}
use Rattle.model.specs.Theorems.Reading.Places.{Small}

-- A place stands at most three bytes behind the end of a table, which has at most 64,000 bytes; places of states (at most 184)
-- and layers (at most 3,201) are below that.
abbrev pub place_limit : ℕ
place_limit = 64_003

-- Bits 0 to 31 of a code hold a result.
abbrev pub result_limit : ℕ
result_limit = 4_294_967_295

-- ---- read
abbrev pub ReadSmall : Result Head Refusal → Type 0
ReadSmall (Ok h) = (h.kind < 256) × (h.props < 256) × (h.vars < 256) × (h.moves < 256)
ReadSmall (Err r) = Small place_limit r

-- ---- calls that write
-- at most `size` bytes are written
abbrev pub WriteSmall : ℕ → Result ℕ Refusal → Type 0
WriteSmall size (Ok k) = k ≤ size
WriteSmall size (Err r) = Small place_limit r

abbrev pub OutputSmall : ℕ → Output → Type 0
OutputSmall size (writes bs) = length bs ≤ size
OutputSmall size (turns r) = Small place_limit r

-- an answer's layer is the last one that it reports
abbrev pub DecideSmall : Result DecideAnswer Refusal → Type 0
DecideSmall (Ok (decide.Plan layer layers)) = (layer ≡ layers) × (layers ≤ 3201)
DecideSmall (Ok (decide.NoPlan layers)) = layers ≤ 3201
DecideSmall (Err r) = Small place_limit r

abbrev pub PlanSmall : Result PlanAnswer Refusal → Type 0
PlanSmall (Ok (plan.Plan layer layers records moves)) = (layer ≡ layers) × (layers ≤ 3201) × (records ≤ 204_864) × (moves < 2 ^ 64)
PlanSmall (Ok (plan.NoPlan layers records moves)) = (layers ≤ 3201) × (records ≤ 204_864) × (moves < 2 ^ 64)
PlanSmall (Err r) = Small place_limit r

-- an offset is behind the head and the 47, and within the table: so none is 0, the code of "nothing blocks"
abbrev pub BlockingSmall : Result (Option ℕ) Refusal → Type 0
BlockingSmall (Ok (Some offset)) = (5 ≤ offset) × (offset < 64_000)
BlockingSmall (Ok None) = Unit {0}
BlockingSmall (Err r) = Small place_limit r
