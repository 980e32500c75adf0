-- The calls under a ceiling, for every ceiling: within it they answer and write what the full calls do on the numbers that the ceiling
-- allows, and keep the rest; where the table is turned away they keep everything; 17 exactly for a table that is accepted and beyond the
-- ceiling. Assumes nothing.
use Rattle.std.specs.Prelude.{ℕ, ◌+◌, ◌≡◌, ◌↔◌, Bool, List, [], ◌++◌, ℤ, Err}
use native.Mathlib.Omega.{arith}
use Rattle.std.proofs.Math.Path.{refl, ap}
use Rattle.std.proofs.Common.{ap₂, subst, ◌∙◌, append-nil}
use Rattle.std.proofs.Math.Bool.{true, false}
use Rattle.std.proofs.Math.Option.{some}
use Rattle.std.proofs.Math.ListN.{length, length-append}
use Rattle.model.specs.declared.Refusal.{Refusal}
use Rattle.model.specs.Limits.{Limits}
use Rattle.model.specs.Task.{written, normal}
use Rattle.model.specs.Reading.{Table, Verdict, accepted, refused, Wanted, only, both, length_limit, reading}
use Rattle.model.specs.Calls.{read_of, read_answer, part_of, start_of, no_block, block_part, block_start, block_refusal, fitted, write_answer, output_after, normal_of, normalised, normalise_answer, normalise_out, step_of, stepped, step_answer, step_out, ready_of, prepared, decide_of, decide_answer, memory_of, decide_memory, plan_of, plan_answer, plan_memory, plan_out_of, plan_out}
use Rattle.ceiling.specs.Ceiling.{Ceiling, beyond, seventeen, under, reading_under, first_of, behind_of, read_answer_under, block_part_under, block_start_under, block_refusal_under, normalised_under, normalise_answer_under, normalise_out_under, stepped_under, step_answer_under, step_out_under, prepared_under, decide_answer_under, decide_memory_under, plan_answer_under, plan_memory_under, plan_out_under}
use Rattle.model.proofs.Theorems.Laws.Booleans.{clash}
use Rattle.model.specs.Theorems.Reading.Places.{Full, IfRefused}
use Rattle.model.proofs.Theorems.Reading.Places.{reading_refused}
use Rattle.model.proofs.Theorems.Layers.Rebuilding.{memory_length}
use Rattle.ceiling.specs.Theorems.Calls.{Beneath}
use Rattle.ceiling.specs.Theorems.Used.{AtMost}
use Rattle.ceiling.proofs.Theorems.Used.{first_behind, first_whole, behind_none, replaced}

module _ (C : Ceiling) where
  pub under_beneath : (v : Verdict) → Beneath C v → under C v ≡ v
  unfolding under
  under_beneath (accepted w) h = rw (under, h) refl
  under_beneath (refused r) h = refl

  pub under_beyond : {v : Verdict} {w : Table} → v ≡ accepted w → beyond C w.header ≡ true → under C v ≡ refused seventeen
  unfolding under
  under_beyond e h = rw (e, under, h) refl

  -- a verdict under a ceiling is the full one or 17, so what holds of both holds of it
  pub under_cases : (P : Verdict → Type 0) (v : Verdict) → P v → P (refused seventeen) → P (under C v)
  unfolding under
  under_cases P (accepted w) full beyond-it = by_test (beyond C w.header)
    where
      by_test : (b : Bool) → P (elim b [ true ↦ refused seventeen | false ↦ accepted w ])
      by_test true = beyond-it
      by_test false = full
  under_cases P (refused r) full beyond-it = full

  module _ (L : Limits) (t : List ℕ) where
    -- ---- within a ceiling: "Within them the rig's answers and memory equal the full calls'."

    -- read and the block reader
    pub record SameReading : Type 0 where
      pub answer : read_answer_under C L t ≡ read_answer L t
      pub part : (b : ℕ) → block_part_under C L t b ≡ block_part L t b
      pub start : (b : ℕ) → block_start_under C L t b ≡ block_start L t b
      pub refusal : (b : ℕ) → block_refusal_under C L t b ≡ block_refusal L t b

    pub same_reading : Beneath C (reading L both t) → SameReading
    unfolding read_answer_under read_answer block_part_under block_part block_start_under block_start block_refusal_under block_refusal reading_under
    same_reading h =
        let e = under_beneath (reading L both t) h in
        record { answer = ap read_of e; part = λ b. ap (part_of t b) e; start = λ b. ap (start_of b) e; refusal = λ b. ap (no_block b) e }

    -- normalise and step
    pub record SameWriting : Type 0 where
      pub normalises : (size : ℕ) → normalised_under C L t size ≡ normalised L t size
      pub normalise : (out : List ℕ) → normalise_answer_under C L t out ≡ normalise_answer L t out
      pub normal_form : (out : List ℕ) → normalise_out_under C L t out ≡ normalise_out L t out
      pub step : (bs : List ℕ) (b : ℕ) (out : List ℕ) → step_answer_under C L t bs b out ≡ step_answer L t bs b out
      pub state : (bs : List ℕ) (b : ℕ) (out : List ℕ) → step_out_under C L t bs b out ≡ step_out L t bs b out

    pub same_writing : Beneath C (reading L (only written) t) → SameWriting
    unfolding normalise_answer_under normalise_out_under normalised_under normalise_answer normalise_out normalised step_answer_under step_out_under stepped_under step_answer step_out stepped reading_under
    same_writing h =
        let e = under_beneath (reading L (only written) t) h in
        record {
          normalises = λ size. ap (λ (v : Verdict). fitted size (normal_of v)) e;
          normalise = λ out. ap (λ (v : Verdict). write_answer (fitted (length out) (normal_of v))) e;
          normal_form = λ out. ap (λ (v : Verdict). output_after (fitted (length out) (normal_of v)) out) e;
          step = λ bs b out. ap (λ (v : Verdict). write_answer (fitted (length out) (step_of L v bs b))) e;
          state = λ bs b out. ap (λ (v : Verdict). output_after (fitted (length out) (step_of L v bs b)) out) e;
        }

    -- decide and plan: the full calls on the first numbers, "longer layer memory is used only up to 2,048", and the rest kept
    pub record SamePlanning (bs : List ℕ) (mem : List ℤ) : Type 0 where
      pub decides : decide_answer_under C L t bs mem ≡ decide_answer L t bs (first_of C.numbers mem)
      pub leaves : decide_memory_under C L t bs mem ≡ decide_memory L t bs (first_of C.numbers mem) ++ behind_of C.numbers mem
      pub plans : (out : List ℕ) → plan_answer_under C L t bs mem out ≡ plan_answer L t bs (first_of C.numbers mem) out
      pub plan_leaves : plan_memory_under C L t bs mem ≡ plan_memory L t bs (first_of C.numbers mem) ++ behind_of C.numbers mem
      pub writes : (out : List ℕ) → plan_out_under C L t bs mem out ≡ plan_out L t bs (first_of C.numbers mem) out

    pub same_planning : Beneath C (reading L (only normal) t) → (bs : List ℕ) (mem : List ℤ) → SamePlanning bs mem
    unfolding decide_answer_under decide_memory_under plan_answer_under plan_memory_under plan_out_under prepared_under reading_under decide_answer decide_memory plan_answer plan_memory plan_out prepared
    same_planning h bs mem =
        let e = under_beneath (reading L (only normal) t) h in
        let first = first_of C.numbers mem in
        let leaves = ap (λ (v : Verdict). memory_of L (ready_of L v bs) first ++ behind_of C.numbers mem) e in
        record {
          decides = ap (λ (v : Verdict). decide_of L (length first) (ready_of L v bs)) e;
          leaves = leaves;
          plans = λ out. ap (λ (v : Verdict). plan_of L (length first) (length out) (ready_of L v bs)) e;
          plan_leaves = leaves;
          writes = λ out. ap (λ (v : Verdict). plan_out_of L (length first) (ready_of L v bs) out) e;
        }

    -- with a memory of no more numbers than the ceiling has, that is the full calls on this memory
    pub record WholePlanning (bs : List ℕ) (mem : List ℤ) : Type 0 where
      pub decides : decide_answer_under C L t bs mem ≡ decide_answer L t bs mem
      pub leaves : decide_memory_under C L t bs mem ≡ decide_memory L t bs mem
      pub plans : (out : List ℕ) → plan_answer_under C L t bs mem out ≡ plan_answer L t bs mem out
      pub plan_leaves : plan_memory_under C L t bs mem ≡ plan_memory L t bs mem
      pub writes : (out : List ℕ) → plan_out_under C L t bs mem out ≡ plan_out L t bs mem out

    pub whole_planning :
        Beneath C (reading L (only normal) t) → (bs : List ℕ) (mem : List ℤ) → AtMost C.numbers (length mem) → WholePlanning bs mem
    whole_planning h bs mem few =
        let same = same_planning h bs mem in
        let all = first_whole C.numbers mem few in
        record {
          decides = same.decides ∙ ap (decide_answer L t bs) all;
          leaves = same.leaves ∙ whole_memory (decide_memory L t bs) all;
          plans = λ out. same.plans out ∙ ap (λ (m : List ℤ). plan_answer L t bs m out) all;
          plan_leaves = same.plan_leaves ∙ whole_memory (plan_memory L t bs) all;
          writes = λ out. same.writes out ∙ ap (λ (m : List ℤ). plan_out L t bs m out) all;
        }
      where
        whole_memory :
            (f : List ℤ → List ℤ) → first_of C.numbers mem ≡ mem → f (first_of C.numbers mem) ++ behind_of C.numbers mem ≡ f mem
        whole_memory f all = ap₂ ◌++◌ (ap f all) (behind_none C.numbers mem few) ∙ append-nil (f mem)

    -- For every table, refused or not: a memory keeps its length, its first numbers are written as a memory of their own, and those
    -- behind them are kept.
    pub record Kept (bs : List ℕ) (mem : List ℤ) : Type 0 where
      pub same_length : length (decide_memory_under C L t bs mem) ≡ length mem
      pub first : first_of C.numbers (decide_memory_under C L t bs mem) ≡ memory_of L (prepared_under C L t bs) (first_of C.numbers mem)
      pub behind : behind_of C.numbers (decide_memory_under C L t bs mem) ≡ behind_of C.numbers mem
      pub planned : plan_memory_under C L t bs mem ≡ decide_memory_under C L t bs mem

    pub memory_kept : (bs : List ℕ) (mem : List ℤ) → Kept bs mem
    unfolding decide_memory_under plan_memory_under
    memory_kept bs mem =
        let n = C.numbers in
        let new = memory_of L (prepared_under C L t bs) (first_of n mem) in
        let as_long : length new ≡ length (first_of n mem) = memory_length L (prepared_under C L t bs) (first_of n mem) in
        let parts = replaced n new mem as_long in
        record {
          same_length =
              omega (
                arith,
                length-append new (behind_of n mem),
                length-append (first_of n mem) (behind_of n mem),
                ap length (first_behind n mem),
              );
          first = parts.0;
          behind = parts.1;
          planned = refl;
        }

    -- ---- turned away: with the refusal r, 17 or an earlier one; every lent memory is kept

    module _ (r : Refusal) where
      pub record TurnedReading : Type 0 where
        pub answer : read_answer_under C L t ≡ Err r
        pub part : (b : ℕ) → block_part_under C L t b ≡ []
        pub start : (b : ℕ) → block_start_under C L t b ≡ 0
        pub refusal : (b : ℕ) → block_refusal_under C L t b ≡ some r

      pub turned_reading : reading_under C L both t ≡ refused r → TurnedReading
      unfolding read_answer_under block_part_under block_start_under block_refusal_under read_of part_of start_of no_block
      turned_reading u =
          record { answer = ap read_of u; part = λ b. ap (part_of t b) u; start = λ b. ap (start_of b) u; refusal = λ b. ap (no_block b) u }

      pub record TurnedWriting : Type 0 where
        pub normalise : (out : List ℕ) → normalise_answer_under C L t out ≡ Err r
        pub normal_form : (out : List ℕ) → normalise_out_under C L t out ≡ out
        pub step : (bs : List ℕ) (b : ℕ) (out : List ℕ) → step_answer_under C L t bs b out ≡ Err r
        pub state : (bs : List ℕ) (b : ℕ) (out : List ℕ) → step_out_under C L t bs b out ≡ out

      pub turned_writing : reading_under C L (only written) t ≡ refused r → TurnedWriting
      unfolding normalise_answer_under normalise_out_under normalised_under step_answer_under step_out_under stepped_under normal_of step_of fitted write_answer output_after
      turned_writing u =
          record {
            normalise = λ out. ap (λ (v : Verdict). write_answer (fitted (length out) (normal_of v))) u;
            normal_form = λ out. ap (λ (v : Verdict). output_after (fitted (length out) (normal_of v)) out) u;
            step = λ bs b out. ap (λ (v : Verdict). write_answer (fitted (length out) (step_of L v bs b))) u;
            state = λ bs b out. ap (λ (v : Verdict). output_after (fitted (length out) (step_of L v bs b)) out) u;
          }

      pub record TurnedPlanning (bs : List ℕ) (mem : List ℤ) : Type 0 where
        pub decides : decide_answer_under C L t bs mem ≡ Err r
        pub leaves : decide_memory_under C L t bs mem ≡ mem
        pub plans : (out : List ℕ) → plan_answer_under C L t bs mem out ≡ Err r
        pub plan_leaves : plan_memory_under C L t bs mem ≡ mem
        pub writes : (out : List ℕ) → plan_out_under C L t bs mem out ≡ out

      pub turned_planning : reading_under C L (only normal) t ≡ refused r → (bs : List ℕ) (mem : List ℤ) → TurnedPlanning bs mem
      unfolding decide_answer_under decide_memory_under plan_answer_under plan_memory_under plan_out_under prepared_under ready_of decide_of memory_of plan_of plan_out_of
      turned_planning u bs mem =
          let n = C.numbers in
          let first = first_of n mem in
          let leaves = ap (λ (v : Verdict). memory_of L (ready_of L v bs) first ++ behind_of n mem) u ∙ first_behind n mem in
          record {
            decides = ap (λ (v : Verdict). decide_of L (length first) (ready_of L v bs)) u;
            leaves = leaves;
            plans = λ out. ap (λ (v : Verdict). plan_of L (length first) (length out) (ready_of L v bs)) u;
            plan_leaves = leaves;
            writes = λ out. ap (λ (v : Verdict). plan_out_of L (length first) (ready_of L v bs) out) u;
          }

  -- "Turned away: 17": exactly of an accepted table with a head beyond the ceiling, for whatever heads the call wants
  pub record Beyond (L : Limits) (w : Wanted) (t : List ℕ) : Type 0 where
    pub table : Table
    pub read : reading L w t ≡ accepted table
    pub head : beyond C table.header ≡ true

  pub seventeen_exactly : (L : Limits) (w : Wanted) (t : List ℕ) → (reading_under C L w t ≡ refused seventeen) ↔ Beyond L w t
  unfolding reading_under under
  seventeen_exactly L w t = (λ e. by_verdict (reading L w t) refl e, λ b. under_beyond b.read b.head)
    where
      by_test :
          (k : Table) → reading L w t ≡ accepted k → (b : Bool) → beyond C k.header ≡ b
          → elim b [ true ↦ refused seventeen | false ↦ accepted k ] ≡ refused seventeen
          → Beyond L w t
      by_test k read_is true h e = record { table = k; read = read_is; head = h }
      by_test k read_is false h e = clash cc

      -- no check of a table has this number
      by_verdict : (v : Verdict) → reading L w t ≡ v → under C v ≡ refused seventeen → Beyond L w t
      by_verdict (accepted k) read_is e = by_test k read_is (beyond C k.header) refl e
      by_verdict (refused r) read_is e =
          let same : r ≡ seventeen = cc in
          let small = subst (IfRefused (Full (length_limit L w t + 3))) (read_is ∙ ap refused same) (reading_refused L w t) in
          absurd (omega (arith, small.number))
