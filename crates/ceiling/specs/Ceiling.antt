-- A ceiling on tables and on layer memory (document 02, request 7), and the calls under it: those of `Calls`, with refusal 17 between the
-- table's checks and all others, and with layer memory used only up to the ceiling's numbers. The rig's ceiling and the full one, which
-- is none, are two values of one record. Assumes nothing.
use Rattle.std.specs.Prelude.{ℕ, ◌*◌, Bool, true, false, ◌||◌, List, [], ◌++◌, ltb, ℤ, length, take, drop, Result, Err}
use Rattle.std.proofs.Math.Option.{Option, none, some}
use Rattle.model.specs.declared.Refusal.{Refusal}
use Rattle.model.specs.declared.Head.{Head as ReadHead}
use Rattle.model.specs.declared.DecideAnswer.{DecideAnswer}
use Rattle.model.specs.declared.PlanAnswer.{PlanAnswer}
use Rattle.model.specs.Limits.{Limits, paper}
use Rattle.model.specs.Task.{Form, written, normal}
use Rattle.model.specs.Seen.{Head}
use Rattle.model.specs.Reading.{Verdict, accepted, refused, Wanted, only, both, reading}
use Rattle.model.specs.Calls.{read_of, part_of, start_of, no_block, Output, fitted, write_answer, output_after, on_output, normal_of, step_of, Ready, ready_of, decide_of, memory_of, plan_of, plan_out_of}

-- "The proof serves both limits as parameters.": the moves and the written variables that a table may have, and the numbers of layer memory
-- that are used, all if there is no limit
pub record Ceiling : Type 0 where
  pub moves : ℕ
  pub vars : ℕ
  pub numbers : Option ℕ

-- "The rig's board takes at most 16 moves, 8 written variables and 2,048 numbers of layer memory."
unfoldable pub rig : Ceiling
rig = record { moves = 16; vars = 8; numbers = some 2048 }

-- the limits of document 01, which has none on layer memory
unfoldable pub full : Ceiling
full = record { moves = paper.moves; vars = paper.vars; numbers = none }

-- "Signed variable 2i is v_i and 2i+1 is −v_i": a normal table has two variables for each written one
unfoldable pub most_vars : Ceiling → Form → ℕ
most_vars C written = C.vars
most_vars C normal = 2 * C.vars

-- "a head beyond the rig's limits"
unfoldable pub beyond : Ceiling → Head → Bool
beyond C h = ltb C.moves h.moves || ltb (most_vars C h.form) h.vars

-- "17, a head beyond the rig's limits, place 0"
abbrev pub seventeen : Refusal
seventeen = record { number = 17; place = 0 }

-- ", checked just after the table is accepted"
unfoldable pub under : Ceiling → Verdict → Verdict
under C (refused r) = refused r
under C (accepted k) = elim (beyond C k.header) [ true ↦ refused seventeen | false ↦ accepted k ]

-- the verdict on a table, with 17 behind its other checks
unfoldable pub reading_under : Ceiling → Limits → Wanted → List ℕ → Verdict
reading_under C L w t = under C (reading L w t)

-- "longer layer memory is used only up to 2,048": the numbers that are used, and those behind them
unfoldable pub first_of : Option ℕ → List ℤ → List ℤ
first_of none mem = mem
first_of (some n) mem = take n mem

unfoldable pub behind_of : Option ℕ → List ℤ → List ℤ
behind_of none mem = []
behind_of (some n) mem = drop n mem

-- ---- the calls of `Calls` under a ceiling: "Give it entry calls with these limits beside the five of 01."

-- read
unfoldable pub read_answer_under : Ceiling → Limits → List ℕ → Result ReadHead Refusal
read_answer_under C L t = read_of (reading_under C L both t)

-- the block reader
unfoldable pub block_part_under : Ceiling → Limits → List ℕ → ℕ → List ℕ
block_part_under C L t b = part_of t b (reading_under C L both t)

unfoldable pub block_start_under : Ceiling → Limits → List ℕ → ℕ → ℕ
block_start_under C L t b = start_of b (reading_under C L both t)

unfoldable pub block_refusal_under : Ceiling → Limits → List ℕ → ℕ → Option Refusal
block_refusal_under C L t b = no_block b (reading_under C L both t)

-- normalise
unfoldable pub normalised_under : Ceiling → Limits → List ℕ → ℕ → Output
normalised_under C L t size = fitted size (normal_of (reading_under C L (only written) t))

unfoldable pub normalise_answer_under : Ceiling → Limits → List ℕ → List ℕ → Result ℕ Refusal
normalise_answer_under C L t out = write_answer (normalised_under C L t (length out))

unfoldable pub normalise_out_under : Ceiling → Limits → List ℕ → List ℕ → List ℕ
normalise_out_under C L t out = output_after (normalised_under C L t (length out)) out

-- step
unfoldable pub stepped_under : Ceiling → Limits → List ℕ → List ℕ → ℕ → ℕ → Output
stepped_under C L t bs b size = fitted size (step_of L (reading_under C L (only written) t) bs b)

unfoldable pub step_answer_under : Ceiling → Limits → List ℕ → List ℕ → ℕ → List ℕ → Result ℕ Refusal
step_answer_under C L t bs b out = write_answer (stepped_under C L t bs b (length out))

unfoldable pub step_out_under : Ceiling → Limits → List ℕ → List ℕ → ℕ → List ℕ → List ℕ
step_out_under C L t bs b out = output_after (stepped_under C L t bs b (length out)) out

-- decide
unfoldable pub prepared_under : Ceiling → Limits → List ℕ → List ℕ → Ready
prepared_under C L t bs = ready_of L (reading_under C L (only normal) t) bs

unfoldable pub decide_answer_under : Ceiling → Limits → List ℕ → List ℕ → List ℤ → Result DecideAnswer Refusal
decide_answer_under C L t bs mem = decide_of L (length (first_of C.numbers mem)) (prepared_under C L t bs)

unfoldable pub decide_memory_under : Ceiling → Limits → List ℕ → List ℕ → List ℤ → List ℤ
decide_memory_under C L t bs mem =
    memory_of L (prepared_under C L t bs) (first_of C.numbers mem) ++ behind_of C.numbers mem

-- plan
unfoldable pub plan_answer_under : Ceiling → Limits → List ℕ → List ℕ → List ℤ → List ℕ → Result PlanAnswer Refusal
plan_answer_under C L t bs mem out = plan_of L (length (first_of C.numbers mem)) (length out) (prepared_under C L t bs)

unfoldable pub plan_memory_under : Ceiling → Limits → List ℕ → List ℕ → List ℤ → List ℤ
plan_memory_under C L t bs mem = decide_memory_under C L t bs mem

unfoldable pub plan_out_under : Ceiling → Limits → List ℕ → List ℕ → List ℤ → List ℕ → List ℕ
plan_out_under C L t bs mem out = plan_out_of L (length (first_of C.numbers mem)) (prepared_under C L t bs) out

-- campaign: decide and plan on exactly the bytes that normalise writes
unfoldable pub campaign_decision_under : Ceiling → Limits → List ℕ → List ℕ → List ℕ → List ℤ → Result DecideAnswer Refusal
campaign_decision_under C L t bs normalOut mem =
    on_output (normalised_under C L t (length normalOut)) (λ nb. decide_answer_under C L nb bs mem) (λ r. Err r)

unfoldable pub campaign_plan_under : Ceiling → Limits → List ℕ → List ℕ → List ℕ → List ℤ → List ℕ → Result PlanAnswer Refusal
campaign_plan_under C L t bs normalOut mem out =
    on_output (normalised_under C L t (length normalOut)) (λ nb. plan_answer_under C L nb bs mem out) (λ r. Err r)

unfoldable pub campaign_memory_under : Ceiling → Limits → List ℕ → List ℕ → List ℕ → List ℤ → List ℤ
campaign_memory_under C L t bs normalOut mem =
    on_output (normalised_under C L t (length normalOut)) (λ nb. plan_memory_under C L nb bs mem) (λ r. mem)

unfoldable pub campaign_out_under : Ceiling → Limits → List ℕ → List ℕ → List ℕ → List ℤ → List ℕ → List ℕ
campaign_out_under C L t bs normalOut mem out =
    on_output (normalised_under C L t (length normalOut)) (λ nb. plan_out_under C L nb bs mem out) (λ r. out)
