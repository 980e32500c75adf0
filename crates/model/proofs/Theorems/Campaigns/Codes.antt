-- The code of every answer can be taken apart: its halves are the refusal's number (0 where accepted) and the place or the
-- result, and two answers with the same code are the same answer. Assumes nothing.
use Rattle.std.specs.Prelude.{ℕ, ◌+◌, ◌-◌, ◌*◌, ◌^◌, ◌/◌, ◌%◌, ◌≤◌, ◌<◌, ◌≡◌, List, ℤ, Option, Some, None, Result, Ok, Err}
use Rattle.std.proofs.Math.Path.{refl}
use Rattle.std.proofs.Common.{sym, ap, ◌∙◌, arith}
use borrow.Author.Tests.{ne_eqb, le-leb, lt-leb}
use Rattle.model.specs.declared.Refusal.{Refusal}
use Rattle.model.specs.declared.Head.{Head}
use Rattle.model.specs.declared.DecideAnswer.{DecideAnswer}
use Rattle.model.specs.declared.DecideAnswer.TheVariants as decide
use Rattle.model.specs.declared.PlanAnswer.{PlanAnswer}
use Rattle.model.specs.declared.PlanAnswer.TheVariants as plan
use Rattle.model.specs.Limits.{paper}
use Rattle.model.specs.Pddl.{pddl_answer}
use Rattle.model.specs.Calls.{read_answer, block_part, block_refusal, normalise_answer, step_answer, decide_answer, plan_answer, campaign_decision, campaign_plan}
use Rattle.model.specs.Blocking.{blocking_answer}
use Rattle.model.specs.Rewrite.{rewrite_answer}
use Rattle.model.specs.Exports.{refusal_code, read_code, write_code, decide_code, plan_code, plan_record_count, plan_first_moves, blocking_code, block_answer, code_number, code_place, apart, read_apart, write_apart, decide_apart, plan_apart, blocking_apart}
use Rattle.model.specs.Theorems.Reading.Places.{Small}
use Rattle.model.proofs.Theorems.Pddl.Sizes.{pddl_small}
use Rattle.model.proofs.Theorems.Rewriting.Sizes.{rewrite_small}
use Rattle.model.specs.Theorems.Sizes.Answers.{place_limit, result_limit, ReadSmall, WriteSmall, DecideSmall, PlanSmall, BlockingSmall}
use Rattle.model.proofs.Theorems.Sizes.Answers.{read_small, write_wider, normalise_small, step_small, block_small, decide_small, plan_small, blocking_small, campaign_decision_small, campaign_plan_small}
use Rattle.model.specs.Theorems.Campaigns.Codes.{SameNumbers}

-- ---- the halves

pub result_halves : (n : ℕ) → n < 2 ^ 32 → (code_number n ≡ 0) × (code_place n ≡ n)
unfolding code_number code_place
result_halves n h = (omega arith, omega arith)

pub refusal_halves : (r : Refusal) → Small place_limit r → (code_number (refusal_code r) ≡ r.number) × (code_place (refusal_code r) ≡ r.place)
unfolding code_number code_place refusal_code
refusal_halves r s = (omega (arith, s.place), omega (arith, s.place))

module _ {A : Type 0} (result : ℕ → A) (back : Refusal → A) where
  pub result_apart : (n : ℕ) → n < 2 ^ 32 → apart result back n ≡ result n
  unfolding apart
  result_apart n h = rw ((result_halves n h).0, apart, (result_halves n h).1) refl

  pub refusal_apart : (r : Refusal) → Small place_limit r → apart result back (refusal_code r) ≡ back r
  unfolding apart
  refusal_apart r s =
      let number : code_number (refusal_code r) ≡ r.number = (refusal_halves r s).0 in
      let place : code_place (refusal_code r) ≡ r.place = (refusal_halves r s).1 in
      rw (number, apart, ne_eqb r.number 0 (λ z. omega (arith, s.positive)), number, place) refl

-- ---- each kind of answer
pub read_back : (a : Result Head Refusal) → ReadSmall a → read_apart (read_code a) ≡ a
unfolding read_apart read_code
read_back (Err r) s = refusal_apart _ _ r s
read_back (Ok h) s =
    let n = h.kind * 2 ^ 24 + h.props * 2 ^ 16 + h.vars * 2 ^ 8 + h.moves in
    let k : n / 2 ^ 24 ≡ h.kind = omega arith in
    let p : n / 2 ^ 16 % 2 ^ 8 ≡ h.props = omega arith in
    let v : n / 2 ^ 8 % 2 ^ 8 ≡ h.vars = omega arith in
    let m : n % 2 ^ 8 ≡ h.moves = omega arith in
    result_apart _ _ n (omega arith) ∙ rw (k, p, v, m) refl

pub write_back : (a : Result ℕ Refusal) → WriteSmall result_limit a → write_apart (write_code a) ≡ a
unfolding write_apart write_code
write_back (Err r) s = refusal_apart _ _ r s
write_back (Ok n) s = result_apart _ _ n (omega arith)

pub decide_back : (a : Result DecideAnswer Refusal) → DecideSmall a → decide_apart (decide_code a) ≡ a
unfolding decide_apart decide_code
decide_back (Err r) s = refusal_apart _ _ r s
decide_back (Ok (decide.Plan layer layers)) s =
    result_apart _ _ layers (omega arith)
    ∙ rw (lt-leb (2 ^ 31) layers (omega arith)) (ap (λ (n : ℕ). Ok (decide.Plan n layers)) (sym s.0))
decide_back (Ok (decide.NoPlan layers)) s =
    let code = decide_code (Ok (decide.NoPlan layers)) in
    let bit : 2 ^ 31 ≤ code = omega arith in
    let below : code - 2 ^ 31 ≡ layers = omega arith in
    result_apart _ _ code (omega arith) ∙ rw (le-leb (2 ^ 31) code bit, below) refl

pub plan_back : (a : Result PlanAnswer Refusal) → PlanSmall a → (x y : ℕ) → plan_apart (plan_code a) (plan_record_count a x) (plan_first_moves a y) ≡ a
unfolding plan_apart plan_code plan_record_count plan_first_moves
plan_back (Err r) s x y = refusal_apart _ _ r s
plan_back (Ok (plan.Plan layer layers records moves)) s x y =
    result_apart _ _ layers (omega arith)
    ∙ rw (lt-leb (2 ^ 31) layers (omega arith)) (ap (λ (n : ℕ). Ok (plan.Plan n layers records moves)) (sym s.0))
plan_back (Ok (plan.NoPlan layers records moves)) s x y =
    let code = plan_code (Ok (plan.NoPlan layers records moves)) in
    let bit : 2 ^ 31 ≤ code = omega arith in
    let below : code - 2 ^ 31 ≡ layers = omega arith in
    result_apart _ _ code (omega arith) ∙ rw (le-leb (2 ^ 31) code bit, below) refl

-- no offset is 0
blocking_back : (a : Result (Option ℕ) Refusal) → BlockingSmall a → blocking_apart (blocking_code a) ≡ a
unfolding blocking_apart blocking_code
blocking_back (Err r) s = refusal_apart _ _ r s
blocking_back (Ok (Some offset)) s = result_apart _ _ offset (omega arith) ∙ rw (ne_eqb offset 0 (λ z. omega arith)) refl
blocking_back (Ok None) s = result_apart _ _ 0 (omega arith)

-- ---- the exported calls: each code taken apart is the answer, and the same code is the same answer
module _ {A : Type 0} (back : ℕ → A) where
  pub one_answer : {a b : A} {c d : ℕ} → back c ≡ a → back d ≡ b → c ≡ d → a ≡ b
  one_answer p q e = sym p ∙ ap back e ∙ q

pub read_apart_lem : (t : List ℕ) → read_apart (read_code (read_answer paper t)) ≡ read_answer paper t
read_apart_lem t = read_back (read_answer paper t) (read_small t)

pub read_one : (t u : List ℕ) → read_code (read_answer paper t) ≡ read_code (read_answer paper u) → read_answer paper t ≡ read_answer paper u
read_one t u = one_answer read_apart (read_apart_lem t) (read_apart_lem u)

-- the block reader: the refusal, or the part's length
abbrev part_answer : List ℕ → ℕ → Result ℕ Refusal
part_answer t b = block_answer (block_part paper t b) (block_refusal paper t b)

pub block_apart : (t : List ℕ) (b : ℕ) → write_apart (write_code (part_answer t b)) ≡ part_answer t b
block_apart t b = write_back (part_answer t b) (write_wider (part_answer t b) (omega arith) (block_small t b))

pub block_one :
    (t : List ℕ) (b : ℕ) (u : List ℕ) (c : ℕ) → write_code (part_answer t b) ≡ write_code (part_answer u c) → part_answer t b ≡ part_answer u c
block_one t b u c = one_answer write_apart (block_apart t b) (block_apart u c)

pub normalise_apart : (t out : List ℕ) → write_apart (write_code (normalise_answer paper t out)) ≡ normalise_answer paper t out
normalise_apart t out =
    write_back (normalise_answer paper t out) (write_wider (normalise_answer paper t out) (omega arith) (normalise_small t out))

pub normalise_one :
    (t out u room : List ℕ) → write_code (normalise_answer paper t out) ≡ write_code (normalise_answer paper u room)
    → normalise_answer paper t out ≡ normalise_answer paper u room
normalise_one t out u room = one_answer write_apart (normalise_apart t out) (normalise_apart u room)

pub rewrite_apart : (t out : List ℕ) → write_apart (write_code (rewrite_answer paper t out)) ≡ rewrite_answer paper t out
rewrite_apart t out =
    write_back (rewrite_answer paper t out) (write_wider (rewrite_answer paper t out) (omega arith) (rewrite_small t out))

pub rewrite_one :
    (t out u room : List ℕ) → write_code (rewrite_answer paper t out) ≡ write_code (rewrite_answer paper u room)
    → rewrite_answer paper t out ≡ rewrite_answer paper u room
rewrite_one t out u room = one_answer write_apart (rewrite_apart t out) (rewrite_apart u room)

pub step_apart :
    (t bs : List ℕ) (b : ℕ) (out : List ℕ) → write_apart (write_code (step_answer paper t bs b out)) ≡ step_answer paper t bs b out
step_apart t bs b out =
    write_back (step_answer paper t bs b out) (write_wider (step_answer paper t bs b out) (omega arith) (step_small t bs b out))

pub step_one :
    (t bs : List ℕ) (b : ℕ) (out u cs : List ℕ) (c : ℕ) (room : List ℕ)
    → write_code (step_answer paper t bs b out) ≡ write_code (step_answer paper u cs c room)
    → step_answer paper t bs b out ≡ step_answer paper u cs c room
step_one t bs b out u cs c room = one_answer write_apart (step_apart t bs b out) (step_apart u cs c room)

pub pddl_apart : (t bs out : List ℕ) → write_apart (write_code (pddl_answer paper t bs out)) ≡ pddl_answer paper t bs out
pddl_apart t bs out =
    write_back (pddl_answer paper t bs out) (write_wider (pddl_answer paper t bs out) (omega arith) (pddl_small t bs out))

pub pddl_one :
    (t bs out u cs room : List ℕ)
    → write_code (pddl_answer paper t bs out) ≡ write_code (pddl_answer paper u cs room)
    → pddl_answer paper t bs out ≡ pddl_answer paper u cs room
pddl_one t bs out u cs room = one_answer write_apart (pddl_apart t bs out) (pddl_apart u cs room)

pub decide_apart_lem : (t bs : List ℕ) (mem : List ℤ) → decide_apart (decide_code (decide_answer paper t bs mem)) ≡ decide_answer paper t bs mem
decide_apart_lem t bs mem = decide_back (decide_answer paper t bs mem) (decide_small t bs mem)

pub decide_one :
    (t bs : List ℕ) (mem : List ℤ) (u cs : List ℕ) (other : List ℤ)
    → decide_code (decide_answer paper t bs mem) ≡ decide_code (decide_answer paper u cs other)
    → decide_answer paper t bs mem ≡ decide_answer paper u cs other
decide_one t bs mem u cs other = one_answer decide_apart (decide_apart_lem t bs mem) (decide_apart_lem u cs other)

one_plan : (a b : Result PlanAnswer Refusal) → PlanSmall a → PlanSmall b → (x y v w : ℕ) → SameNumbers a x y b v w → a ≡ b
one_plan a b f g x y v w e =
    one_answer (λ (n : ℕ). plan_apart (plan_code b) (plan_record_count b v) n)
    (rw (← e.0, ← e.1) (plan_back a f x y)) (plan_back b g v w) e.2

pub plan_apart_lem :
    (t bs : List ℕ) (mem : List ℤ) (out : List ℕ) (x y : ℕ) → let a = plan_answer paper t bs mem out in
    plan_apart (plan_code a) (plan_record_count a x) (plan_first_moves a y) ≡ a
plan_apart_lem t bs mem out = plan_back (plan_answer paper t bs mem out) (plan_small t bs mem out)

pub plan_one :
    (t bs : List ℕ) (mem : List ℤ) (out u cs : List ℕ) (other : List ℤ) (room : List ℕ) (x y v w : ℕ)
    → SameNumbers (plan_answer paper t bs mem out) x y (plan_answer paper u cs other room) v w
    → plan_answer paper t bs mem out ≡ plan_answer paper u cs other room
plan_one t bs mem out u cs other room =
    one_plan (plan_answer paper t bs mem out) (plan_answer paper u cs other room) (plan_small t bs mem out) (plan_small u cs other room)

pub blocking_apart_lem : (t bs : List ℕ) (mem : List ℤ) → blocking_apart (blocking_code (blocking_answer paper t bs mem)) ≡ blocking_answer paper t bs mem
blocking_apart_lem t bs mem = blocking_back (blocking_answer paper t bs mem) (blocking_small t bs mem)

pub blocking_one :
    (t bs : List ℕ) (mem : List ℤ) (u cs : List ℕ) (other : List ℤ)
    → blocking_code (blocking_answer paper t bs mem) ≡ blocking_code (blocking_answer paper u cs other)
    → blocking_answer paper t bs mem ≡ blocking_answer paper u cs other
blocking_one t bs mem u cs other = one_answer blocking_apart (blocking_apart_lem t bs mem) (blocking_apart_lem u cs other)

-- normalise, decide and plan in one call: decide's code, and plan's with its numbers
pub campaign_decision_apart :
    (t bs normalOut : List ℕ) (mem : List ℤ)
    → decide_apart (decide_code (campaign_decision paper t bs normalOut mem)) ≡ campaign_decision paper t bs normalOut mem
campaign_decision_apart t bs normalOut mem = decide_back (campaign_decision paper t bs normalOut mem) (campaign_decision_small t bs normalOut mem)

pub campaign_decision_one :
    (t bs normalOut : List ℕ) (mem : List ℤ) (u cs space : List ℕ) (other : List ℤ)
    → decide_code (campaign_decision paper t bs normalOut mem) ≡ decide_code (campaign_decision paper u cs space other)
    → campaign_decision paper t bs normalOut mem ≡ campaign_decision paper u cs space other
campaign_decision_one t bs normalOut mem u cs space other =
    one_answer decide_apart (campaign_decision_apart t bs normalOut mem) (campaign_decision_apart u cs space other)

pub campaign_plan_apart :
    (t bs normalOut : List ℕ) (mem : List ℤ) (out : List ℕ) (x y : ℕ) → let a = campaign_plan paper t bs normalOut mem out in
    plan_apart (plan_code a) (plan_record_count a x) (plan_first_moves a y) ≡ a
campaign_plan_apart t bs normalOut mem out = plan_back (campaign_plan paper t bs normalOut mem out) (campaign_plan_small t bs normalOut mem out)

pub campaign_plan_one :
    (t bs normalOut : List ℕ) (mem : List ℤ) (out u cs space : List ℕ) (other : List ℤ) (room : List ℕ) (x y v w : ℕ)
    → SameNumbers (campaign_plan paper t bs normalOut mem out) x y (campaign_plan paper u cs space other room) v w
    → campaign_plan paper t bs normalOut mem out ≡ campaign_plan paper u cs space other room
campaign_plan_one t bs normalOut mem out u cs space other room =
    one_plan (campaign_plan paper t bs normalOut mem out) (campaign_plan paper u cs space other room)
    (campaign_plan_small t bs normalOut mem out) (campaign_plan_small u cs space other room)
