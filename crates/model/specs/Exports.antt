-- The answers as one 64-bit number, for hosts in C: bits 32 to 63 the refusal's number, 0 if accepted; bits 0 to 31 the
-- place, or the result. (That of closure days, whose places may be larger, is in the crate `placement`.) Assumes nothing.
use Rattle.std.specs.Prelude.{ℕ, ◌+◌, ◌-◌, ◌*◌, ◌^◌, ◌/◌, ◌%◌, true, false, List, eqb, leb, length, take, Option as Maybe, Some, None, Result, Ok, Err}
use Rattle.std.proofs.Math.Option.{Option, none, some}
use Rattle.model.specs.declared.Refusal.{Refusal}
use Rattle.model.specs.declared.Head.{Head}
use Rattle.model.specs.declared.DecideAnswer.{DecideAnswer}
use Rattle.model.specs.declared.DecideAnswer.TheVariants as decide
use Rattle.model.specs.declared.PlanAnswer.{PlanAnswer}
use Rattle.model.specs.declared.PlanAnswer.TheVariants as plan
use Rattle.model.specs.Memory.{overwrite}

unfoldable pub refusal_code : Refusal → ℕ
refusal_code r = r.number * 2 ^ 32 + r.place

-- the kind, P, V or N, and A, a byte each
unfoldable pub read_code : Result Head Refusal → ℕ
read_code (Ok h) = h.kind * 2 ^ 24 + h.props * 2 ^ 16 + h.vars * 2 ^ 8 + h.moves
read_code (Err r) = refusal_code r

-- the length
unfoldable pub write_code : Result ℕ Refusal → ℕ
write_code (Ok n) = n
write_code (Err r) = refusal_code r

-- the reported layers; bit 31 is set for "no plan"
unfoldable pub decide_code : Result DecideAnswer Refusal → ℕ
decide_code (Ok (decide.Plan layer layers)) = layers
decide_code (Ok (decide.NoPlan layers)) = 2 ^ 31 + layers
decide_code (Err r) = refusal_code r

unfoldable pub plan_code : Result PlanAnswer Refusal → ℕ
plan_code (Ok (plan.Plan layer layers records moves)) = layers
plan_code (Ok (plan.NoPlan layers records moves)) = 2 ^ 31 + layers
plan_code (Err r) = refusal_code r

-- plan's two further numbers, which a refusal leaves as they were
unfoldable pub plan_record_count : Result PlanAnswer Refusal → ℕ → ℕ
plan_record_count (Ok (plan.Plan layer layers records moves)) old = records
plan_record_count (Ok (plan.NoPlan layers records moves)) old = records
plan_record_count (Err r) old = old

unfoldable pub plan_first_moves : Result PlanAnswer Refusal → ℕ → ℕ
plan_first_moves (Ok (plan.Plan layer layers records moves)) old = moves
plan_first_moves (Ok (plan.NoPlan layers records moves)) old = moves
plan_first_moves (Err r) old = old

-- the offset; 0: nothing blocks
unfoldable pub blocking_code : Result (Maybe ℕ) Refusal → ℕ
blocking_code (Ok (Some offset)) = offset
blocking_code (Ok None) = 0
blocking_code (Err r) = refusal_code r

-- the block reader's part: its length, and as much of it as fits copied to an output
unfoldable pub block_answer : List ℕ → Option Refusal → Result ℕ Refusal
block_answer part none = Ok (length part)
block_answer part (some r) = Err r

unfoldable pub block_copy : List ℕ → List ℕ → List ℕ
block_copy part out = overwrite (take (length out) part) out

-- ---- a code taken apart

-- bits 32 to 63, and bits 0 to 31
unfoldable pub code_number : ℕ → ℕ
code_number c = c / 2 ^ 32

unfoldable pub code_place : ℕ → ℕ
code_place c = c % 2 ^ 32

-- a refusal has a number above 0
unfoldable pub apart : {A : Type 0} → (ℕ → A) → (Refusal → A) → ℕ → A
apart result back c =
    elim (eqb (code_number c) 0) [
      | true ↦ result (code_place c)
      | false ↦ back (record { number = code_number c; place = code_place c })
    ]

unfoldable pub read_apart : ℕ → Result Head Refusal
read_apart c =
    apart (λ n. Ok (record { kind = n / 2 ^ 24; props = n / 2 ^ 16 % 2 ^ 8; vars = n / 2 ^ 8 % 2 ^ 8; moves = n % 2 ^ 8 })) (λ r. Err r) c

unfoldable pub write_apart : ℕ → Result ℕ Refusal
write_apart c = apart (λ n. Ok n) (λ r. Err r) c

-- bit 31 tells "no plan" from an answer layer
unfoldable pub decide_apart : ℕ → Result DecideAnswer Refusal
decide_apart c =
    apart (λ n. elim (leb (2 ^ 31) n) [ true ↦ Ok (decide.NoPlan (n - 2 ^ 31)) | false ↦ Ok (decide.Plan n n) ]) (λ r. Err r) c

-- with plan's two further numbers
unfoldable pub plan_apart : ℕ → ℕ → ℕ → Result PlanAnswer Refusal
plan_apart c records moves =
    apart
    (λ n. elim (leb (2 ^ 31) n) [ true ↦ Ok (plan.NoPlan (n - 2 ^ 31) records moves) | false ↦ Ok (plan.Plan n n records moves) ])
    (λ r. Err r) c

-- no part of a goal stands at offset 0
unfoldable pub blocking_apart : ℕ → Result (Maybe ℕ) Refusal
blocking_apart c =
    apart (λ n. elim (eqb n 0) [ true ↦ Ok None | false ↦ Ok (Some n) ]) (λ r. Err r) c
