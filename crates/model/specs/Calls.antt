-- The answers of the calls, with what each lent memory holds afterwards, as functions of what it held before. For any bytes
-- there is exactly one answer. Assumes nothing.
use Rattle.std.specs.Prelude.{ℕ, zero, suc, ◌/◌, true, false, ◌&&◌, List, [], ◌∷◌, ◌++◌, eqb, ltb, leb, ℤ, length, get_or, take, drop, Result, Ok, Err}
use Rattle.std.proofs.Math.Option.{Option, none, some, map}
use Rattle.std.proofs.Math.Seq.{slice}
use Rattle.integer.specs.BigEndian.{bytes, unsigned}
use Rattle.model.specs.declared.Refusal.{Refusal}
use Rattle.model.specs.declared.Head.{Head as ReadHead}
use Rattle.model.specs.declared.DecideAnswer.{DecideAnswer}
use Rattle.model.specs.declared.DecideAnswer.TheVariants as decide
use Rattle.model.specs.declared.PlanAnswer.{PlanAnswer}
use Rattle.model.specs.declared.PlanAnswer.TheVariants as plan
use Rattle.model.specs.Limits.{Limits}
use Rattle.model.specs.Lists.{all_below}
use Rattle.model.specs.Task.{written, normal, Task}
use Rattle.model.specs.Command.{head, code_of, task_bytes}
use Rattle.model.specs.Reading.{Verdict, accepted, refused, only, both, reading}
use Rattle.model.specs.Move.{State, applicable, real, move_at}
use Rattle.model.specs.NormalForm.{normal_task, normal_state}
use Rattle.model.specs.StateTable.{state_of, state_refusal, state_bytes, value_in_range}
use Rattle.model.specs.Layer.{reached, exhausted}
use Rattle.model.specs.Memory.{overwrite, Built, answered, stopped, build, built_memory}
use Rattle.model.specs.Plan.{Record, records, helpful_moves}

-- ---- read

unfoldable pub read_of : Verdict → Result ReadHead Refusal
read_of (accepted k) =
    Ok (record { kind = code_of (head k.header.form); props = k.header.props; vars = k.header.vars; moves = k.header.moves })
read_of (refused r) = Err r

unfoldable pub read_answer : Limits → List ℕ → Result ReadHead Refusal
read_answer L t = read_of (reading L both t)

-- ---- the block reader

-- "Block b is move b, and block A is the goal; its bytes run from its 41 or 47 up to the next 41, 47 or 45 command, that one
-- left out."; "a refusal hands back an empty part"
unfoldable pub part_of : List ℕ → ℕ → Verdict → List ℕ
part_of t b (accepted k) =
    elim (leb b k.header.moves) [ true ↦ slice (get_or k.marks b 0) (get_or k.marks (suc b) 0) t | false ↦ [] ]
part_of t b (refused r) = []

-- "as a part of the caller's table": the offset at which the part starts; that of a refusal starts at 0
unfoldable pub start_of : ℕ → Verdict → ℕ
start_of b (accepted k) = elim (leb b k.header.moves) [ true ↦ get_or k.marks b 0 | false ↦ 0 ]
start_of b (refused r) = 0

-- "step, reader | 10 | no such move or block | 0"
unfoldable pub no_block : ℕ → Verdict → Option Refusal
no_block b (accepted k) = elim (leb b k.header.moves) [ true ↦ none | false ↦ some (record { number = 10; place = 0 }) ]
no_block b (refused r) = some r

unfoldable pub block_part : Limits → List ℕ → ℕ → List ℕ
block_part L t b = part_of t b (reading L both t)

unfoldable pub block_start : Limits → List ℕ → ℕ → ℕ
block_start L t b = start_of b (reading L both t)

unfoldable pub block_refusal : Limits → List ℕ → ℕ → Option Refusal
block_refusal L t b = no_block b (reading L both t)

-- the number and the place that are handed back beside the part: 0 and 0 where nothing is refused
unfoldable pub refusal_number : Option Refusal → ℕ
refusal_number none = 0
refusal_number (some r) = r.number

unfoldable pub refusal_place : Option Refusal → ℕ
refusal_place none = 0
refusal_place (some r) = r.place

-- ---- a call that writes bytes: what it writes, or why it turns back

pub data Output : Type 0 where
  writes : List ℕ → Output
  turns : Refusal → Output

-- what comes of it in either case
unfoldable pub on_output : {A : Type 0} → Output → (List ℕ → A) → (Refusal → A) → A
on_output (writes bs) run back = run bs
on_output (turns r) run back = back r

-- "last, normalise, step, plan | 13 | output shorter than the result | 0"
unfoldable pub fitted : ℕ → Output → Output
fitted size (turns r) = turns r
fitted size (writes bs) =
    elim (ltb size (length bs)) [ true ↦ turns (record { number = 13; place = 0 }) | false ↦ writes bs ]

unfoldable pub write_answer : Output → Result ℕ Refusal
write_answer (writes bs) = Ok (length bs)
write_answer (turns r) = Err r

-- "Outputs keep their bytes"; "In an accepted call the bytes of an output behind the result are kept."
unfoldable pub output_after : Output → List ℕ → List ℕ
output_after (writes bs) out = overwrite bs out
output_after (turns r) out = out

-- ---- normalise

unfoldable pub normal_bytes : Task → List ℕ
normal_bytes k = task_bytes normal (normal_task k)

unfoldable pub normal_of : Verdict → Output
normal_of (accepted k) = writes (normal_bytes k.task)
normal_of (refused r) = turns r

unfoldable pub normalised : Limits → List ℕ → ℕ → Output
normalised L t size = fitted size (normal_of (reading L (only written) t))

unfoldable pub normalise_answer : Limits → List ℕ → List ℕ → Result ℕ Refusal
normalise_answer L t out = write_answer (normalised L t (length out))

unfoldable pub normalise_out : Limits → List ℕ → List ℕ → List ℕ
normalise_out L t out = output_after (normalised L t (length out)) out

-- ---- step

-- "12 | a result beyond ±1,000,000 | 0"
unfoldable pub result_of : Limits → ℕ → ℕ → State → Output
result_of L props vars s =
    elim (all_below (λ v. value_in_range L (s.val v)) vars) [
      | true ↦ writes (state_bytes props vars s)
      | false ↦ turns (record { number = 12; place = 0 })
    ]

-- "11 | conditions fail | 0"
unfoldable pub moved : Limits → Task → State → ℕ → Output
moved L k s b =
    elim (applicable s (move_at k b)) [
      | true ↦ result_of L k.props k.vars (real (move_at k b) s)
      | false ↦ turns (record { number = 11; place = 0 })
    ]

unfoldable pub step_with_state : Limits → Task → List ℕ → ℕ → Option Refusal → Output
step_with_state L k bs b (some r) = turns r
step_with_state L k bs b none =
    elim (ltb b (length k.moves)) [
      | true ↦ moved L k (state_of k.props bs) b
      | false ↦ turns (record { number = 10; place = 0 })
    ]

unfoldable pub step_of : Limits → Verdict → List ℕ → ℕ → Output
step_of L (refused r) bs b = turns r
step_of L (accepted k) bs b = step_with_state L k.task bs b (state_refusal L k.task.props k.task.vars bs)

unfoldable pub stepped : Limits → List ℕ → List ℕ → ℕ → ℕ → Output
stepped L t bs b size = fitted size (step_of L (reading L (only written) t) bs b)

unfoldable pub step_answer : Limits → List ℕ → List ℕ → ℕ → List ℕ → Result ℕ Refusal
step_answer L t bs b out = write_answer (stepped L t bs b (length out))

unfoldable pub step_out : Limits → List ℕ → List ℕ → ℕ → List ℕ → List ℕ
step_out L t bs b out = output_after (stepped L t bs b (length out)) out

-- ---- decide

-- a normal task and its layer 0, or why the call turns back before any layer
pub data Ready : Type 0 where
  ready : Task → State → Ready
  unready : Refusal → Ready

unfoldable pub ready_with : Task → List ℕ → Option Refusal → Ready
ready_with k bs (some r) = unready r
ready_with k bs none = ready k (normal_state (state_of k.props bs))

-- the state of a normal table has "one 4-byte value a written variable (V, or N/2)"
unfoldable pub ready_of : Limits → Verdict → List ℕ → Ready
ready_of L (refused r) bs = unready r
ready_of L (accepted k) bs = ready_with k.task bs (state_refusal L k.task.props (k.task.vars / 2) bs)

unfoldable pub prepared : Limits → List ℕ → List ℕ → Ready
prepared L t bs = ready_of L (reading L (only normal) t) bs

unfoldable pub decided : Built → Result DecideAnswer Refusal
decided (answered (reached m)) = Ok (decide.Plan m m)
decided (answered (exhausted m)) = Ok (decide.NoPlan m)
decided (stopped n m) = Err (record { number = n; place = m })

unfoldable pub decide_of : Limits → ℕ → Ready → Result DecideAnswer Refusal
decide_of L size (ready k s) = decided (build L k s size)
decide_of L size (unready r) = Err r

unfoldable pub decide_answer : Limits → List ℕ → List ℕ → List ℤ → Result DecideAnswer Refusal
decide_answer L t bs mem = decide_of L (length mem) (prepared L t bs)

unfoldable pub memory_of : Limits → Ready → List ℤ → List ℤ
memory_of L (ready k s) mem = overwrite (built_memory k s (build L k s (length mem))) mem
memory_of L (unready r) mem = mem

unfoldable pub decide_memory : Limits → List ℕ → List ℕ → List ℤ → List ℤ
decide_memory L t bs mem = memory_of L (prepared L t bs) mem

-- ---- plan

-- "Record: 52, move (1 byte), count (8 bytes)"
unfoldable pub record_bytes : List Record → List ℕ
record_bytes [] = []
record_bytes (r ∷ rs) = 0x52 ∷ r.move ∷ bytes 8 r.count ++ record_bytes rs

-- "Record: 52, move (1 byte), count (8 bytes)", read back: the moves and counts of the first n records in the bytes; none where
-- the bytes end before them, or where another byte stands for 52
unfoldable pub records_read : ℕ → List ℕ → Option (List (ℕ × ℕ))
records_read zero bs = some []
records_read (suc n) bs =
    elim (leb 10 (length bs) && eqb (get_or bs 0 0) 0x52) [
      | true ↦ map (λ rs. (get_or bs 1 0, unsigned (take 8 (drop 2 bs))) ∷ rs) (records_read n (drop 10 bs))
      | false ↦ none
    ]

-- the records of an answered call: "No plan" has none
unfoldable pub plan_records : Task → State → Built → List Record
plan_records k s (answered (reached m)) = records k s m
plan_records k s (answered (exhausted m)) = []
plan_records k s (stopped n m) = []

-- "plan adds the number of records and the first moves", which are the helpful moves (document 02, request 6); with "no plan" both are 0
unfoldable pub planned : Task → State → Built → Result PlanAnswer Refusal
planned k s (answered (reached m)) = Ok (plan.Plan m m (length (records k s m)) (helpful_moves k s m))
planned k s (answered (exhausted m)) = Ok (plan.NoPlan m 0 0)
planned k s (stopped n m) = Err (record { number = n; place = m })

unfoldable pub plan_fitted : ℕ → Task → State → Built → Result PlanAnswer Refusal
plan_fitted size k s b = on_output (fitted size (writes (record_bytes (plan_records k s b)))) (λ bs. planned k s b) (λ r. Err r)

unfoldable pub plan_of : Limits → ℕ → ℕ → Ready → Result PlanAnswer Refusal
plan_of L size room (ready k s) = plan_fitted room k s (build L k s size)
plan_of L size room (unready r) = Err r

unfoldable pub plan_answer : Limits → List ℕ → List ℕ → List ℤ → List ℕ → Result PlanAnswer Refusal
plan_answer L t bs mem out = plan_of L (length mem) (length out) (prepared L t bs)

-- "After plan's 13 it holds what decide leaves there."
unfoldable pub plan_memory : Limits → List ℕ → List ℕ → List ℤ → List ℤ
plan_memory L t bs mem = decide_memory L t bs mem

unfoldable pub plan_out_of : Limits → ℕ → Ready → List ℕ → List ℕ
plan_out_of L size (ready k s) out =
    output_after (fitted (length out) (writes (record_bytes (plan_records k s (build L k s size))))) out
plan_out_of L size (unready r) out = out

unfoldable pub plan_out : Limits → List ℕ → List ℕ → List ℤ → List ℕ → List ℕ
plan_out L t bs mem out = plan_out_of L (length mem) (prepared L t bs) out

-- ---- campaign: normalise, decide and plan in one call

-- Demand 3 is "one claim, from the written table and the state to both answers and the plan's list": decide and plan run on
-- exactly the bytes that normalise writes, and turn back where it does.
unfoldable pub campaign_decision : Limits → List ℕ → List ℕ → List ℕ → List ℤ → Result DecideAnswer Refusal
campaign_decision L t bs normalOut mem = on_output (normalised L t (length normalOut)) (λ nb. decide_answer L nb bs mem) (λ r. Err r)

unfoldable pub campaign_plan : Limits → List ℕ → List ℕ → List ℕ → List ℤ → List ℕ → Result PlanAnswer Refusal
campaign_plan L t bs normalOut mem out = on_output (normalised L t (length normalOut)) (λ nb. plan_answer L nb bs mem out) (λ r. Err r)

unfoldable pub campaign_memory : Limits → List ℕ → List ℕ → List ℕ → List ℤ → List ℤ
campaign_memory L t bs normalOut mem = on_output (normalised L t (length normalOut)) (λ nb. plan_memory L nb bs mem) (λ r. mem)

unfoldable pub campaign_out : Limits → List ℕ → List ℕ → List ℕ → List ℤ → List ℕ → List ℕ
campaign_out L t bs normalOut mem out = on_output (normalised L t (length normalOut)) (λ nb. plan_out L nb bs mem out) (λ r. out)
