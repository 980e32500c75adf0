-- How long PDDL text is: at most ten bytes for each byte of the table and 10,000 more, so at most 330,000. Assumes nothing.
use Prim.Native.Nat.{ℕ, zero, suc, ◌+◌, ◌*◌, ◌≤◌, ◌<◌}
use Prim.Native.String.{String}
use native.Mathlib.Omega.{arith}
use Rattle.std.specs.Prelude.{◌≡◌, refl, List, [], ◌∷◌, ◌++◌, nat_abs}
use Rattle.std.proofs.Common.{ap, ◌∙◌}
use Rattle.std.proofs.Math.Option.{Option, none, some}
use Rattle.std.proofs.Math.ListN.{length, length-append}
use Rattle.model.specs.declared.Refusal.{Refusal}
use Rattle.model.specs.Limits.{paper}
use Rattle.model.specs.Lists.{tabulate}
use Rattle.model.specs.Task.{Form, written, Task}
use Rattle.model.specs.Move.{State}
use Rattle.model.specs.Command.{items_bytes, moves_bytes, task_bytes}
use Rattle.model.specs.Reading.{Table, Verdict, accepted, refused, only, length_limit, reading}
use Rattle.model.specs.StateTable.{state_of, state_refusal}
use Rattle.model.specs.Ascii.{ascii}
use Rattle.model.specs.Pddl.{given, equals, atom_text, head_text, lines, declarations, domain_text, fact_text, problem_text, domain_of, truths, values, problem_of, task_text, text_with_state, text_of, pddl_text, pddl_answer}
use Rattle.model.specs.Theorems.Reading.WellFormed.{TaskOk}
use Rattle.model.proofs.Theorems.Reading.Accepted.{reading_form, reading_length, reading_limit, reading_task}
use Rattle.model.specs.Theorems.Reading.Places.{Full, Small, IfSome, IfRefused}
use Rattle.model.proofs.Theorems.Reading.Places.{small_wider, state_refused}
use Rattle.model.specs.Theorems.Sizes.Answers.{place_limit, WriteSmall, OutputSmall}
use Rattle.model.proofs.Theorems.Sizes.Answers.{answer_small, fitted_small, table_refused}
use Rattle.model.specs.Theorems.Sizes.States.{SmallState}
use Rattle.model.proofs.Theorems.Sizes.States.{accepted_small}
use Rattle.model.proofs.Theorems.Pddl.Facts.{truths_first}
use Rattle.model.proofs.Theorems.Pddl.ItemSizes.{number_size, atom_size, head_size, lines_none, lines_more, block_size, actions_size}

-- ---- declarations

module _ (print : ℕ → List ℕ) (short : (n : ℕ) → n < 1000 → length (print n) ≤ 6) where
  names_size : (i n : ℕ) → i + n ≤ 1000 → length (lines "    " print (tabulate (λ j. j) i n)) ≤ 11 * n + 1
  unfolding tabulate ascii
  names_size i zero few = omega (arith, lines_none "    " print)
  names_size i (suc n) few =
      omega (
        arith,
        lines_more "    " print i (tabulate (λ j. j) (suc i) n),
        short i (omega arith),
        names_size (suc i) n (omega arith),
      )

  declarations_size :
      (word : String) (n : ℕ)
      → n ≤ 1000
      → length (declarations word print (tabulate (λ j. j) 0 n)) ≤ length (ascii word) + 11 * n + 1
  unfolding declarations tabulate
  declarations_size word zero few = omega arith
  declarations_size word (suc n) few =
      let names = lines "    " print (tabulate (λ j. j) 0 (suc n)) in
      omega (arith, length-append (ascii word) names, names_size 0 (suc n) (omega arith))

-- ---- facts
lines_append :
    {A : Type 0} (indent : String) (print : A → List ℕ) (xs ys : List A)
    → length (lines indent print (xs ++ ys)) + 1 ≡ length (lines indent print xs) + length (lines indent print ys)
lines_append indent print [] ys = omega (arith, lines_none indent print)
lines_append indent print (x ∷ xs) ys =
    omega (arith, lines_more indent print x (xs ++ ys), lines_more indent print x xs, lines_append indent print xs ys)

module _ (s : State) where
  truths_size : (p n : ℕ) → p + n ≤ 1000 → length (lines "    " fact_text (truths s p n)) ≤ 11 * n + 1
  unfolding fact_text ascii
  truths_size p zero few = unfold truths in omega (arith, lines_none "    " fact_text)
  truths_size p (suc n) few =
      let rest = truths s (suc p) n in
      let small : length (lines "    " fact_text rest) ≤ 11 * n + 1 = truths_size (suc p) n (omega arith) in
      truths_first s (λ l. length (lines "    " fact_text l) ≤ 11 * suc n + 1) p n
      (λ yes-p. omega (arith, small, lines_more "    " fact_text (given p) rest, atom_size p (omega arith)))
      (λ no-p. omega (arith, small))

  fact_size : (v : ℕ) → v < 1000 → nat_abs (s.val v) ≤ 1_000_000 → length (fact_text (equals v (s.val v))) ≤ 19
  unfolding fact_text ascii
  fact_size v few small = simp length-append (omega (arith, head_size v few, number_size 6 (s.val v) (omega arith)))

  values_size :
      (i n : ℕ)
      → i + n ≤ 1000
      → ((v : ℕ) → v < i + n → nat_abs (s.val v) ≤ 1_000_000)
      → length (lines "    " fact_text (tabulate (λ v. equals v (s.val v)) i n)) ≤ 24 * n + 1
  unfolding tabulate ascii
  values_size i zero few small = omega (arith, lines_none "    " fact_text)
  values_size i (suc n) few small =
      omega (
        arith,
        lines_more "    " fact_text (equals i (s.val i)) (tabulate (λ v. equals v (s.val v)) (suc i) n),
        fact_size i (omega arith) (small i (omega arith)),
        values_size (suc i) n (omega arith) (λ v h. small v (omega arith)),
      )

-- ---- the text
module _ (k : Task) (s : State) (ok : TaskOk paper written k) (small : SmallState k.vars s) where
  few_props : k.props ≤ 120
  unfolding paper
  few_props = ok.props

  few_vars : k.vars ≤ 16
  unfolding paper
  few_vars = ok.vars

  few_moves : length k.moves ≤ 64
  unfolding paper
  few_moves = ok.moves

  domain_size : length (domain_text (domain_of k)) ≤ 10 * length (moves_bytes k.moves) + 7_000
  unfolding domain_text domain_of ascii
  domain_size =
      simp length-append
      (omega (
        arith,
        few_props,
        few_vars,
        few_moves,
        declarations_size atom_text atom_size "\n  (:predicates" k.props (omega (arith, few_props)),
        declarations_size head_text head_size "\n  (:functions" k.vars (omega (arith, few_vars)),
        actions_size k.props k.vars few_props few_vars 0 k.moves (omega (arith, few_moves)) ok.blocks,
      ))

  problem_size : length (problem_text (problem_of k s)) ≤ 10 * length (items_bytes k.goal) + 3_000
  unfolding problem_text problem_of values ascii
  problem_size =
      simp length-append
      (omega (
        arith,
        few_props,
        few_vars,
        lines_append "    " fact_text (truths s 0 k.props) (values s k.vars),
        truths_size s 0 k.props (omega (arith, few_props)),
        values_size s 0 k.vars (omega (arith, few_vars)) (λ v h. small.values v (omega arith)),
        block_size k.props k.vars few_props few_vars "    " (omega arith) k.goal ok.goal.items,
      ))

  -- the text of a task within every limit, from a state within ±1,000,000
  pub text_size : length (task_text k s) ≤ 10 * length (task_bytes written k) + 10_000
  unfolding task_text task_bytes
  text_size = simp length-append (omega (arith, domain_size, problem_size))

-- the text of an accepted table and an accepted state
module _ (t bs : List ℕ) {k : Table} (read : reading paper (only written) t ≡ accepted k)
    (right : state_refusal paper k.task.props k.task.vars bs ≡ none)
  where
    pub accepted_size : length (task_text k.task (state_of k.task.props bs)) ≤ 10 * length t + 10_000
    accepted_size =
        omega (
          arith,
          text_size k.task (state_of k.task.props bs) (reading_task paper written t read)
              (accepted_small k.task.props k.task.vars bs right),
          reading_length paper (only written) t read
              ∙ ap (λ (f : Form). length (task_bytes f k.task)) (reading_form paper written t read),
        )

    pub accepted_most : length (task_text k.task (state_of k.task.props bs)) ≤ 330_000
    unfolding length_limit paper
    accepted_most = omega (arith, accepted_size, reading_limit paper (only written) t read)

-- the call writes at most so much
pub pddl_small : (t bs out : List ℕ) → WriteSmall 330_000 (pddl_answer paper t bs out)
unfolding pddl_answer pddl_text text_of text_with_state paper
pddl_small t bs out =
    answer_small 330_000 (pddl_text paper t bs (length out))
    (fitted_small 330_000 (length out) (text_of paper (reading paper (only written) t) bs) (go (reading paper (only written) t) refl (table_refused (only written) t)))
  where
    by_state :
        (k : Table) → reading paper (only written) t ≡ accepted k
        → (r : Option Refusal) → state_refusal paper k.task.props k.task.vars bs ≡ r → IfSome (Full (k.task.props + 4 * k.task.vars)) r
        → OutputSmall 330_000 (text_with_state k.task bs r)
    by_state k e none right h = accepted_most t bs e right
    by_state k e (some r) right h =
        let ok = reading_task paper written t e in small_wider (omega arith) (omega (arith, ok.props, ok.vars)) h

    go : (v : Verdict) → reading paper (only written) t ≡ v → IfRefused (Small place_limit) v → OutputSmall 330_000 (text_of paper v bs)
    go (accepted k) e h =
        by_state k e (state_refusal paper k.task.props k.task.vars bs) refl (state_refused paper k.task.props k.task.vars bs)
    go (refused r) e h = h
