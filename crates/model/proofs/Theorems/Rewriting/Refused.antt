-- Moves that do nothing: "It was accepted and is now refused in both kinds of table." A table that passes all checks but 16 is refused where
-- its first such move closes, by every call that makes this check, and accepted as before if it has none. Assumes nothing.
use Rattle.std.specs.Prelude.{ℕ, suc, ◌≤◌, ◌≡◌, List, [], T, ℤ, length, get_or, Err}
use Rattle.std.proofs.Common.{sym, ◌∙◌, inl, inr}
use Rattle.std.proofs.Math.Path.{ap, subst}
use Rattle.std.proofs.Math.Option.{some}
use Rattle.integer.specs.BigEndian.{AllBytes}
use Rattle.model.specs.declared.Refusal.{Refusal}
use Rattle.model.specs.Limits.{Limits}
use Rattle.model.specs.Task.{Form, written, normal, active}
use Rattle.model.specs.Command.{head, task_bytes}
use Rattle.model.specs.Reading.{Table, Verdict, accepted, refused, Wanted, only, both, stored, head_wanted, checks16, length_limit, reading}
use Rattle.model.specs.Calls.{read_of, read_answer, no_block, block_refusal, fitted, write_answer, normal_of, normalised, normalise_answer, step_of, stepped, step_answer, ready_of, prepared, decide_of, decide_answer, plan_of, plan_answer}
use Rattle.model.specs.Blocking.{blocking_of, blocking_answer}
use Rattle.model.specs.Pddl.{text_of, pddl_text, pddl_answer}
use Rattle.model.proofs.Theorems.Laws.Booleans.{false_not}
use Rattle.model.proofs.Theorems.Laws.Searching.{All-at}
use Rattle.model.specs.Theorems.Reading.Active.{AllActive}
use Rattle.model.proofs.Theorems.Reading.Active.{only_checks, both_checks}
use Rattle.model.proofs.Theorems.Reading.Accepted.{reading_limit, reading_canonical}
use Rattle.model.proofs.Theorems.Rewriting.Accepted.{stored_limit}
use Rattle.model.proofs.Theorems.Rewriting.Following.{FirstIdle, first_one, Outcome, outcome}

-- A table that passes every check but 16, before a call that checks 16, takes its head and allows its length.
module _ (L : Limits) (w : Wanted) (t : List ℕ) {k : Table} (e : reading L stored t ≡ accepted k)
    (checks : T (checks16 w)) (wanted : T (head_wanted w (head k.header.form))) (short : length t ≤ length_limit L w t)
  where
    -- "Turned away: 16, such a move, place the command that closes its block": the first such move, b
    pub first_refused : (b : ℕ) → FirstIdle k.task.moves b → reading L w t ≡ refused (record { number = 16; place = get_or k.marks (suc b) 0 })
    first_refused b x = go (outcome L w t checks short e wanted)
      where
        go : Outcome L w t checks short k → reading L w t ≡ refused (record { number = 16; place = get_or k.marks (suc b) 0 })
        go (inl r) = absurd (false_not x.idle (All-at (λ m. T (active m)) k.task.moves b [] r.0 x.within))
        go (inr r) = r.2 ∙ ap (λ (n : ℕ). refused (record { number = 16; place = get_or k.marks (suc n) 0 })) (first_one r.1 x)

    -- there is a first such move where not every move does something
    pub some_refused : (AllActive k.task.moves → ⊥) → (b : ℕ) × FirstIdle k.task.moves b × (reading L w t ≡ refused (record { number = 16; place = get_or k.marks (suc b) 0 }))
    some_refused not-all = go (outcome L w t checks short e wanted)
      where
        go : Outcome L w t checks short k → (b : ℕ) × FirstIdle k.task.moves b × (reading L w t ≡ refused (record { number = 16; place = get_or k.marks (suc b) 0 }))
        go (inl r) = absurd (not-all r.0)
        go (inr r) = r

    -- where every move does something the table is accepted, as before
    pub still_accepted : AllActive k.task.moves → reading L w t ≡ accepted k
    still_accepted does = go (outcome L w t checks short e wanted)
      where
        go : Outcome L w t checks short k → reading L w t ≡ accepted k
        go (inl r) = r.1
        go (inr r) = absurd (false_not r.1.idle (All-at (λ m. T (active m)) k.task.moves r.0 [] does r.1.within))

-- "It was accepted and is now refused in both kinds of table."
module _ (L : Limits) (t : List ℕ) {k : Table} (e : reading L stored t ≡ accepted k) (b : ℕ) (first : FirstIdle k.task.moves b) where
  abbrev closing : Refusal
  closing = record { number = 16; place = get_or k.marks (suc b) 0 }

  -- by read and the reader, which take both heads
  pub both_refused : reading L both t ≡ refused closing
  unfolding head_wanted length_limit
  both_refused = first_refused L both t e both_checks tt (reading_limit L stored t e) b first

  -- so read answers, and the reader of any block
  pub read_refused : read_answer L t ≡ Err closing
  unfolding read_answer read_of
  read_refused = ap read_of both_refused

  pub reader_refused : (n : ℕ) → block_refusal L t n ≡ some closing
  unfolding block_refusal no_block
  reader_refused n = ap (no_block n) both_refused

  -- by every call that wants this head
  pub only_refused : AllBytes t → reading L (only k.header.form) t ≡ refused closing
  unfolding head_wanted
  only_refused bytes = first_refused L (only form) t e (only_checks form) (takes form) within b first
    where
      form : Form
      form = k.header.form

      takes : (f : Form) → T (head_wanted (only f) (head f))
      takes written = tt
      takes normal = tt

      prints : t ≡ task_bytes form k.task
      prints = reading_canonical L stored t e bytes

      within : length t ≤ length_limit L (only form) t
      within =
          subst (λ (n : ℕ). length t ≤ n)
          (ap (length_limit L stored) prints ∙ stored_limit L form k.task k.task ∙ ap (length_limit L (only form)) (sym prints))
          (reading_limit L stored t e)

  -- with a written table normalise, step and the PDDL writer answer so
  pub written_refused :
      AllBytes t → k.header.form ≡ written
      → (bs : List ℕ) (n : ℕ) (out : List ℕ)
      → (normalise_answer L t out ≡ Err closing) × (step_answer L t bs n out ≡ Err closing) × (pddl_answer L t bs out ≡ Err closing)
  unfolding normalise_answer normalised normal_of step_answer stepped step_of pddl_answer pddl_text text_of fitted write_answer
  written_refused bytes is bs n out = (
    ap (λ (v : Verdict). write_answer (fitted (length out) (normal_of v))) refuses,
    ap (λ (v : Verdict). write_answer (fitted (length out) (step_of L v bs n))) refuses,
    ap (λ (v : Verdict). write_answer (fitted (length out) (text_of L v bs))) refuses,
  )
    where
      refuses : reading L (only written) t ≡ refused closing
      refuses = subst (λ (f : Form). reading L (only f) t ≡ refused closing) is (only_refused bytes)

  -- with a normal table decide, plan and the tool for the part that blocks
  pub normal_refused :
      AllBytes t → k.header.form ≡ normal
      → (bs : List ℕ) (mem : List ℤ) (out : List ℕ)
      → (decide_answer L t bs mem ≡ Err closing) × (plan_answer L t bs mem out ≡ Err closing) × (blocking_answer L t bs mem ≡ Err closing)
  unfolding decide_answer decide_of plan_answer plan_of blocking_answer blocking_of prepared ready_of
  normal_refused bytes is bs mem out = (
    ap (λ (v : Verdict). decide_of L (length mem) (ready_of L v bs)) refuses,
    ap (λ (v : Verdict). plan_of L (length mem) (length out) (ready_of L v bs)) refuses,
    ap (λ (v : Verdict). blocking_of L (length mem) (ready_of L v bs)) refuses,
  )
    where
      refuses : reading L (only normal) t ≡ refused closing
      refuses = subst (λ (f : Form). reading L (only f) t ≡ refused closing) is (only_refused bytes)
