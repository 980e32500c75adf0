-- Every number of an answer is small enough for the numbers that hosts in C are given: places, lengths, offsets and reported layers
-- are far below 2^31, whatever the lengths of table, state and memories.
-- Assumes nothing.
use Rattle.std.specs.Prelude.{ℕ, suc, ◌+◌, ◌*◌, ◌/◌, ◌≤◌, ◌<◌, ◌≡◌, refl, Bool, true, false, cond, List, [], eqb, leb, ltb, ℤ, length, get_or, Result, Ok, Err}
use Rattle.std.proofs.Common.{sym, subst, arith, lit≤, length-drop, length-take}
use Rattle.std.proofs.Math.Option.{Option, none, some}
use Rattle.std.proofs.Math.Seq.{slice}
use Rattle.model.specs.declared.Refusal.{Refusal}
use Rattle.model.specs.Limits.{paper, last_number}
use Rattle.model.specs.Lists.{all_below}
use Rattle.model.specs.Task.{Form, written, normal, Task}
use Rattle.model.specs.Command.{head, code_of}
use Rattle.model.specs.Move.{State, applicable, real, move_at}
use Rattle.model.specs.Layer.{Outcome, reached, exhausted, reported, outcome}
use Rattle.model.specs.Memory.{wrong15, refuses, Built, answered, stopped, stop_number, stop_at, build}
use Rattle.model.specs.Reading.{Table, Verdict, accepted, refused, Wanted, only, both, reading, length_limit, stored}
use Rattle.model.specs.StateTable.{state_of, state_refusal, state_bytes, value_in_range}
use Rattle.model.specs.Calls.{read_of, read_answer, part_of, no_block, block_part, block_refusal, Output, writes, turns, fitted, write_answer, normal_bytes, normal_of, normalised, normalise_answer, result_of, moved, step_with_state, step_of, stepped, step_answer, Ready, ready, unready, ready_with, ready_of, prepared, decided, decide_of, decide_answer, planned, plan_of, plan_answer, on_output, campaign_decision, campaign_plan}
use Rattle.model.specs.Blocking.{blocking_answer}
use Rattle.model.specs.Exports.{block_answer}
use Rattle.model.specs.Theorems.Reading.WellFormed.{TaskOk, VarsOk}
use Rattle.model.proofs.Theorems.Laws.Searching.{first_from_cases}
use Rattle.model.proofs.Theorems.Reading.States.{length_state_bytes}
use Rattle.model.proofs.Theorems.Reading.Accepted.{reading_ok, reading_head, reading_limit, reading_task}
use Rattle.model.proofs.Theorems.Printing.Outputs.{fitted_cases, plan_cases}
use Rattle.model.specs.Theorems.Reading.Places.{Full, Small, IfSome, IfRefused}
use Rattle.model.proofs.Theorems.Reading.Places.{small_wider, refused_wider, reading_refused, state_refused}
use Rattle.model.proofs.Theorems.NormalForm.Print.{written_short, normal_fits}
use Rattle.model.proofs.Theorems.Blocking.Calls.{blocks_inside, answers_cases}
use Rattle.model.proofs.Theorems.Sizes.Plans.{reported_most, records_most, helpful_moves_small}
use Rattle.model.specs.Theorems.Sizes.Answers.{BlockingSmall, DecideSmall, OutputSmall, PlanSmall, ReadSmall, WriteSmall, place_limit}

either_most : (b : Bool) → cond b 32_000 64_000 ≤ 64_000
either_most true = lit≤ tt
either_most false = lit≤ tt

pub limit_most : (w : Wanted) (t : List ℕ) → length_limit paper w t ≤ 64_000
unfolding paper length_limit
limit_most (only written) t = lit≤ tt
limit_most (only normal) t = lit≤ tt
limit_most both t = either_most (eqb (get_or t 0 0) (code_of (head written)))
limit_most stored t = either_most (eqb (get_or t 0 0) (code_of (head written)))

pub table_refused : (w : Wanted) (t : List ℕ) → IfRefused (Small place_limit) (reading paper w t)
table_refused w t = refused_wider (reading paper w t) (omega arith) (omega (arith, limit_most w t)) (reading_refused paper w t)

head_small : (f : Form) → code_of (head f) < 256
unfolding code_of
head_small written = lit≤ tt
head_small normal = lit≤ tt

vars_small : (f : Form) (n : ℕ) → VarsOk paper f n → n ≤ 32
unfolding paper
vars_small written n h = omega arith
vars_small normal n h = omega arith

table_small :
    (w : Wanted) (t : List ℕ) (k : Table) → reading paper w t ≡ accepted k
    → (k.header.props ≤ 120) × (k.header.vars ≤ 32) × (k.header.moves ≤ 64)
unfolding paper
table_small w t k e =
    let ok : TaskOk paper k.header.form k.task = reading_ok paper w t e in
    let counts = reading_head paper w t e in (
      omega (arith, ok.props, counts.0),
      omega (arith, vars_small k.header.form k.task.vars ok.vars, counts.1),
      omega (arith, ok.moves, counts.2),
    )

pub read_small : (t : List ℕ) → ReadSmall (read_answer paper t)
unfolding read_answer read_of
read_small t = go (reading paper both t) refl (table_refused both t)
  where
    go : (v : Verdict) → reading paper both t ≡ v → IfRefused (Small place_limit) v → ReadSmall (read_of v)
    go (accepted k) e h =
        let small = table_small both t k e in
        (head_small k.header.form, omega (arith, small.0), omega (arith, small.1), omega (arith, small.2))
    go (refused r) e h = h

pub write_wider : {m n : ℕ} (a : Result ℕ Refusal) → m ≤ n → WriteSmall m a → WriteSmall n a
write_wider (Ok k) h s = omega arith
write_wider (Err r) h s = s

pub answer_small : (size : ℕ) (o : Output) → OutputSmall size o → WriteSmall size (write_answer o)
unfolding write_answer
answer_small size (writes bs) h = h
answer_small size (turns r) h = h

pub fitted_small : (size room : ℕ) (o : Output) → OutputSmall size o → OutputSmall size (fitted room o)
unfolding fitted
fitted_small size room (turns r) h = h
fitted_small size room (writes bs) h =
    fitted_cases room bs (OutputSmall size) (λ whole. h) (λ short. record { positive = lit≤ tt; number = lit≤ tt; place = lit≤ tt })

-- the normal form of an accepted written table
normal_short : (t : List ℕ) (k : Table) → reading paper (only written) t ≡ accepted k → length (normal_bytes k.task) ≤ 64_000
normal_short t k e = normal_fits k.task (written_short t e)

normalised_small : (t : List ℕ) (room : ℕ) → OutputSmall 64_000 (normalised paper t room)
unfolding normalised normal_of
normalised_small t room = fitted_small 64_000 room (normal_of (reading paper (only written) t)) (go (reading paper (only written) t) refl (table_refused (only written) t))
  where
    go : (v : Verdict) → reading paper (only written) t ≡ v → IfRefused (Small place_limit) v → OutputSmall 64_000 (normal_of v)
    go (accepted k) e h = normal_short t k e
    go (refused r) e h = h

pub normalise_small : (t out : List ℕ) → WriteSmall 64_000 (normalise_answer paper t out)
unfolding normalise_answer
normalise_small t out = answer_small 64_000 (normalised paper t (length out)) (normalised_small t (length out))

moved_small : (k : Task) (s : State) (b : ℕ) → TaskOk paper written k → OutputSmall 184 (moved paper k s b)
unfolding moved result_of paper
moved_small k s b ok = go (applicable s (move_at k b)) (all_below (λ v. value_in_range paper ((real (move_at k b) s).val v)) k.vars)
  where
    go :
        (a c : Bool)
        → OutputSmall 184
        (elim a [
          | true ↦ elim c [ true ↦ writes (state_bytes k.props k.vars (real (move_at k b) s)) | false ↦ turns (record { number = 12; place = 0 }) ]
          | false ↦ turns (record { number = 11; place = 0 })
        ])
    go true true = omega (arith, length_state_bytes k.props k.vars (real (move_at k b) s), ok.props, ok.vars)
    go true false = record { positive = lit≤ tt; number = lit≤ tt; place = lit≤ tt }
    go false c = record { positive = lit≤ tt; number = lit≤ tt; place = lit≤ tt }

pub step_small : (t bs : List ℕ) (b : ℕ) (out : List ℕ) → WriteSmall 184 (step_answer paper t bs b out)
unfolding step_answer stepped step_of step_with_state paper
step_small t bs b out =
    answer_small 184 (stepped paper t bs b (length out))
    (fitted_small 184 (length out) (step_of paper (reading paper (only written) t) bs b) (go (reading paper (only written) t) refl (table_refused (only written) t)))
  where
    chosen : (k : Task) → TaskOk paper written k → (c : Bool) → OutputSmall 184 (elim c [ true ↦ moved paper k (state_of k.props bs) b | false ↦ turns (record { number = 10; place = 0 }) ])
    chosen k ok true = moved_small k (state_of k.props bs) b ok
    chosen k ok false = record { positive = lit≤ tt; number = lit≤ tt; place = lit≤ tt }

    by_state :
        (k : Task) → TaskOk paper written k → (r : Option Refusal) → IfSome (Full (k.props + 4 * k.vars)) r
        → OutputSmall 184 (step_with_state paper k bs b r)
    by_state k ok none h = chosen k ok (ltb b (length k.moves))
    by_state k ok (some r) h = small_wider (omega arith) (omega (arith, ok.props, ok.vars)) h

    go : (v : Verdict) → reading paper (only written) t ≡ v → IfRefused (Small place_limit) v → OutputSmall 184 (step_of paper v bs b)
    go (accepted k) e h =
        by_state k.task (reading_task paper written t e) (state_refusal paper k.task.props k.task.vars bs) (state_refused paper k.task.props k.task.vars bs)
    go (refused r) e h = h

-- ---- decide, plan and blocking
-- decide and plan run on a well-formed normal task, or turn back with a small refusal
abbrev ReadySmall : Ready → Type 0
ReadySmall (ready k s) = TaskOk paper normal k
ReadySmall (unready r) = Small place_limit r

prepared_small : (t bs : List ℕ) → ReadySmall (prepared paper t bs)
unfolding prepared ready_of ready_with paper
prepared_small t bs = go (reading paper (only normal) t) refl (table_refused (only normal) t)
  where
    by_state : (k : Task) → TaskOk paper normal k → (r : Option Refusal) → IfSome (Full (k.props + 4 * (k.vars / 2))) r → ReadySmall (ready_with k bs r)
    by_state k ok none h = ok
    by_state k ok (some r) h = small_wider (omega arith) (omega (arith, ok.props, ok.vars.0)) h

    go : (v : Verdict) → reading paper (only normal) t ≡ v → IfRefused (Small place_limit) v → ReadySmall (ready_of paper v bs)
    go (accepted k) e h =
        by_state k.task (reading_task paper normal t e) (state_refusal paper k.task.props (k.task.vars / 2) bs) (state_refused paper k.task.props (k.task.vars / 2) bs)
    go (refused r) e h = h

stop_small : (b : Bool) → (1 ≤ stop_number b) × (stop_number b ≤ last_number)
unfolding stop_number
stop_small true = (lit≤ tt, lit≤ tt)
stop_small false = (lit≤ tt, lit≤ tt)

abbrev BuiltSmall : Task → State → Built → Type 0
BuiltSmall k s (answered o) = o ≡ outcome k s
BuiltSmall k s (stopped n m) = (1 ≤ n) × (n ≤ last_number) × (m ≤ reported (outcome k s))

build_small : (k : Task) (s : State) (size : ℕ) → BuiltSmall k s (build paper k s size)
unfolding build stop_at
build_small k s size =
    first_from_cases (refuses paper k s size) (λ (o : Option ℕ). BuiltSmall k s (stop_at paper k s o (outcome k s))) 0 (suc (reported (outcome k s)))
    (λ t low high bad before. ((stop_small (wrong15 paper k s t)).0, (stop_small (wrong15 paper k s t)).1, omega arith))
    (λ never. refl)

pub decide_small : (t bs : List ℕ) (layers : List ℤ) → DecideSmall (decide_answer paper t bs layers)
unfolding decide_answer decide_of decided reported
decide_small t bs layers = go (prepared paper t bs) (prepared_small t bs)
  where
    by_built : (k : Task) (s : State) → TaskOk paper normal k → (b : Built) → BuiltSmall k s b → DecideSmall (decided b)
    by_built k s ok (answered (reached m)) h = (refl, subst (λ (o : Outcome). reported o ≤ 3201) (sym h) (reported_most ok s))
    by_built k s ok (answered (exhausted m)) h = subst (λ (o : Outcome). reported o ≤ 3201) (sym h) (reported_most ok s)
    by_built k s ok (stopped n m) h = record { positive = h.0; number = h.1; place = omega (arith, h.2, reported_most ok s) }

    go : (r : Ready) → ReadySmall r → DecideSmall (decide_of paper (length layers) r)
    go (ready k s) ok = by_built k s ok (build paper k s (length layers)) (build_small k s (length layers))
    go (unready r) small = small

pub plan_small : (t bs : List ℕ) (layers : List ℤ) (out : List ℕ) → PlanSmall (plan_answer paper t bs layers out)
unfolding plan_answer plan_of planned reported
plan_small t bs layers out = go (prepared paper t bs) (prepared_small t bs)
  where
    by_built : (k : Task) (s : State) → TaskOk paper normal k → (b : Built) → BuiltSmall k s b → PlanSmall (planned k s b)
    by_built k s ok (answered (reached m)) h =
        let most : m ≤ 3201 = subst (λ (o : Outcome). reported o ≤ 3201) (sym h) (reported_most ok s) in
        (refl, most, records_most ok s m most, helpful_moves_small ok s m)
    by_built k s ok (answered (exhausted m)) h =
        (subst (λ (o : Outcome). reported o ≤ 3201) (sym h) (reported_most ok s), lit≤ tt, lit≤ tt)
    by_built k s ok (stopped n m) h = record { positive = h.0; number = h.1; place = omega (arith, h.2, reported_most ok s) }

    go : (r : Ready) → ReadySmall r → PlanSmall (plan_of paper (length layers) (length out) r)
    go (ready k s) ok =
        let b = build paper k s (length layers) in
        plan_cases (length out) k s b PlanSmall (λ whole. by_built k s ok b (build_small k s (length layers)))
        (record { positive = lit≤ tt; number = lit≤ tt; place = lit≤ tt })
    go (unready r) small = small

-- refusals are those of decide
pub blocking_small : (t bs : List ℕ) (layers : List ℤ) → BlockingSmall (blocking_answer paper t bs layers)
blocking_small t bs layers =
    answers_cases t bs layers (λ d b. DecideSmall d → BlockingSmall b) (λ m small. tt)
    (λ d o a small.
    let inside = blocks_inside a in
    (inside.0, omega (arith, inside.1, reading_limit paper (only normal) t a.read, limit_most (only normal) t)))
    (λ r small. small) (decide_small t bs layers)

-- ---- campaign
-- what holds of a call's answer on any bytes, and of a small refusal, holds of its answer after normalise
pub on_normal :
    {A : Type 0} (P : A → Type 0) (run : List ℕ → A) (back : Refusal → A) (t : List ℕ) (room : ℕ)
    → ((nb : List ℕ) → P (run nb))
    → ((r : Refusal) → Small place_limit r → P (back r))
    → P (on_output (normalised paper t room) run back)
unfolding on_output
on_normal P run back t room f g = go (normalised paper t room) (normalised_small t room)
  where
    go : (o : Output) → OutputSmall 64_000 o → P (on_output o run back)
    go (writes nb) h = f nb
    go (turns r) h = g r h

module _ (t bs normalOut : List ℕ) (layers : List ℤ) where
  pub campaign_decision_small : DecideSmall (campaign_decision paper t bs normalOut layers)
  unfolding campaign_decision
  campaign_decision_small = on_normal DecideSmall _ _ t (length normalOut) (λ nb. decide_small _ _ _) (λ r s. s)

  pub campaign_plan_small : (out : List ℕ) → PlanSmall (campaign_plan paper t bs normalOut layers out)
  unfolding campaign_plan
  campaign_plan_small out = on_normal PlanSmall _ _ t (length normalOut) (λ nb. plan_small _ _ _ _) (λ r s. s)

-- ---- the block reader
-- a refusal of the block reader is small, and has a number
pub block_refused : (t : List ℕ) (b : ℕ) → IfSome (Small place_limit) (block_refusal paper t b)
unfolding block_refusal no_block
block_refused t b = go (reading paper both t) (table_refused both t)
  where
    chosen : (c : Bool) → IfSome (Small place_limit) (elim c [ true ↦ none | false ↦ some (record { number = 10; place = 0 }) ])
    chosen true = tt
    chosen false = record { positive = lit≤ tt; number = lit≤ tt; place = lit≤ tt }

    go : (v : Verdict) → IfRefused (Small place_limit) v → IfSome (Small place_limit) (no_block b v)
    go (accepted k) h = chosen (leb b k.header.moves)
    go (refused r) h = h

-- a part is not longer than its table
part_short : (t : List ℕ) (b : ℕ) → length (block_part paper t b) ≤ 64_000
unfolding block_part part_of
part_short t b = go (reading paper both t) refl
  where
    chosen : (k : Table) → length t ≤ 64_000 → (c : Bool) → length {A = ℕ} (elim c [ true ↦ slice (get_or k.marks b 0) (get_or k.marks (suc b) 0) t | false ↦ [] ]) ≤ 64_000
    chosen k h true = simp (length-drop, length-take) (omega arith)
    chosen k h false = omega arith

    go : (v : Verdict) → reading paper both t ≡ v → length (part_of t b v) ≤ 64_000
    go (accepted k) e = chosen k (omega (arith, reading_limit paper both t e, limit_most both t)) (leb b k.header.moves)
    go (refused r) e = omega arith

pub block_small : (t : List ℕ) (b : ℕ) → WriteSmall 64_000 (block_answer (block_part paper t b) (block_refusal paper t b))
unfolding block_answer
block_small t b = go (block_refusal paper t b) (block_refused t b)
  where
    go : (r : Option Refusal) → IfSome (Small place_limit) r → WriteSmall 64_000 (block_answer (block_part paper t b) r)
    go none h = part_short t b
    go (some r) h = h
