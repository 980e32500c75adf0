-- What the rewriter writes is the table without the moves that do nothing, byte for byte. So it is never longer: an output of the table's
-- length always suffices; the numbers of its answer are small. Assumes nothing.
use Rattle.std.specs.Prelude.{ℕ, ◌≤◌, List, [], ◌∷◌, ◌++◌, Ok, Err}
use native.Mathlib.Omega.{arith}
use Rattle.std.proofs.Math.Path.{◌≡◌, refl, sym, ap}
use Rattle.std.proofs.Common.{◌∙◌, subst, append_assoc}
use Rattle.std.proofs.Math.ListN.{length}
use Rattle.integer.specs.BigEndian.{AllBytes}
use Rattle.model.specs.declared.Refusal.{Refusal}
use Rattle.model.specs.Limits.{Limits, paper}
use Rattle.model.specs.Task.{Form, Block}
use Rattle.model.specs.Command.{head, open_goal, end_table, code_of, items_bytes, moves_bytes, task_bytes}
use Rattle.model.specs.Reading.{Table, Verdict, accepted, refused, stored, reading}
use Rattle.model.specs.Calls.{Output, writes, turns, fitted, write_answer}
use Rattle.model.specs.Rewrite.{active_moves, rewritten, rewrite_of, rewrote, rewrite_answer}
use Rattle.model.proofs.Theorems.Reading.Accepted.{reading_length, reading_limit, reading_canonical, accepted_one}
use Rattle.model.specs.Theorems.Reading.Places.{Small, IfRefused}
use Rattle.model.proofs.Theorems.Printing.Outputs.{fitted_whole, fitted_cases}
use Rattle.model.specs.Theorems.Sizes.Answers.{place_limit, WriteSmall, OutputSmall}
use Rattle.model.proofs.Theorems.Sizes.Answers.{answer_small, fitted_small, limit_most, table_refused}
use Rattle.model.proofs.Theorems.Rewriting.Accepted.{rewritten_shorter}
use Rattle.model.proofs.Theorems.Rewriting.Refusals.{stored_numbers}

turns_no : {r : Refusal} {o : List ℕ} → turns r ≡ writes o → ⊥
turns_no e = let z : ◌≡◌ {A = ℕ} 0 1 = cc in omega arith

-- the bytes of a table, cut before its goal
split :
    (f : Form) (props vars : ℕ) (ms : List Block) (goal : Block)
    → task_bytes f (record { props = props; vars = vars; moves = ms; goal = goal })
    ≡ (code_of (head f) ∷ props ∷ vars ∷ length ms ∷ moves_bytes ms) ++ (code_of open_goal ∷ (items_bytes goal ++ (code_of end_table ∷ [])))
unfolding task_bytes
split f props vars ms goal =
    ap (λ (l : List ℕ). code_of (head f) ∷ props ∷ vars ∷ length ms ∷ l) (append_assoc (moves_bytes ms) (code_of open_goal ∷ items_bytes goal) (code_of end_table ∷ []))

module _ (L : Limits) (t : List ℕ) where
  -- the bytes of the rewritten table are no more than those of the table
  result_length : {k : Table} → reading L stored t ≡ accepted k → length (task_bytes k.header.form (rewritten k.task)) ≤ length t
  result_length {k} e = omega (arith, rewritten_shorter k.task k.header.form, reading_length L stored t e)

  -- o is what the rewriter writes: the table is taken, and o is the print of the rewritten task
  pub record Wrote (o : List ℕ) : Type 0 where
    pub table : Table
    pub read : reading L stored t ≡ accepted table
    pub is : o ≡ task_bytes table.header.form (rewritten table.task)

  module _ (size : ℕ) where
    -- whatever it writes is so
    pub wrote : {o : List ℕ} → rewrote L t size ≡ writes o → Wrote o
    unfolding rewrote rewrite_of fitted
    wrote {o} e = go (reading L stored t) refl e
      where
        go : (v : Verdict) → reading L stored t ≡ v → fitted size (rewrite_of v) ≡ writes o → Wrote o
        go (accepted k) read =
            let bs = task_bytes k.header.form (rewritten k.task) in
            fitted_cases size bs (λ (x : Output). x ≡ writes o → Wrote o)
            (λ whole same. record { table = k; read = read; is = let e : bs ≡ o = cc in sym e }) (λ short same. absurd (turns_no same))
        go (refused r) read = λ same. absurd (turns_no same)

    -- it writes the same of a table whatever the room
    pub wrote_is : {k : Table} → reading L stored t ≡ accepted k → {o : List ℕ} → rewrote L t size ≡ writes o → o ≡ task_bytes k.header.form (rewritten k.task)
    wrote_is {k} read e =
        let w = wrote e in
        w.is ∙ ap (λ (n : Table). task_bytes n.header.form (rewritten n.task)) (accepted_one (sym w.read ∙ read))

    -- what it writes is no longer than the table
    pub rewrote_length : {o : List ℕ} → rewrote L t size ≡ writes o → length o ≤ length t
    rewrote_length e = let w = wrote e in subst (λ (l : List ℕ). length l ≤ length t) (sym w.is) (result_length w.read)

  -- "drops such moves and renumbers the others", and keeps everything else byte for byte: the table is its head's kind, P and V, the number of
  -- its moves, these, and its goal and end; what is written is the same with the moves that do something, and their number
  pub record SameBytes (o : List ℕ) : Type 0 where
    pub table : Table
    pub kind : ℕ
    pub goal_and_end : List ℕ
    pub before : t ≡ (kind ∷ table.task.props ∷ table.task.vars ∷ length table.task.moves ∷ moves_bytes table.task.moves) ++ goal_and_end
    pub after :
        o
        ≡ (kind ∷ table.task.props ∷ table.task.vars ∷ length (active_moves table.task.moves) ∷ moves_bytes (active_moves table.task.moves))
        ++ goal_and_end

  pub byte_for_byte : AllBytes t → (size : ℕ) {o : List ℕ} → rewrote L t size ≡ writes o → SameBytes o
  unfolding task_bytes rewritten
  byte_for_byte bytes size e =
      let w = wrote size e in
      let k = w.table.task in
      record {
        table = w.table;
        kind = code_of (head w.table.header.form);
        goal_and_end = code_of open_goal ∷ (items_bytes k.goal ++ (code_of end_table ∷ []));
        before =
            reading_canonical L stored t w.read bytes
            ∙ split w.table.header.form k.props k.vars k.moves k.goal;
        after = w.is ∙ split w.table.header.form k.props k.vars (active_moves k.moves) k.goal;
      }

  -- so its answer is at most the table's length
  pub rewrite_length : (out : List ℕ) (n : ℕ) → rewrite_answer L t out ≡ Ok n → n ≤ length t
  unfolding rewrite_answer write_answer
  rewrite_length out n e = go (rewrote L t (length out)) refl e
    where
      go : (o : Output) → rewrote L t (length out) ≡ o → write_answer o ≡ Ok n → n ≤ length t
      go (writes o) is answer = let same : length o ≡ n = cc in omega (arith, same, rewrote_length (length out) is)
      go (turns r) is answer = let z : ◌≡◌ {A = ℕ} 0 1 = cc in absurd (omega arith)

  -- with an output of the table's length nothing is judged but the table
  pub rewrote_whole : (size : ℕ) → length t ≤ size → rewrote L t size ≡ rewrite_of (reading L stored t)
  unfolding rewrote rewrite_of fitted
  rewrote_whole size room = go (reading L stored t) refl
    where
      go : (v : Verdict) → reading L stored t ≡ v → fitted size (rewrite_of v) ≡ rewrite_of v
      go (accepted k) e = fitted_whole size (task_bytes k.header.form (rewritten k.task)) (omega (arith, result_length e))
      go (refused r) e = refl

  -- so that "a short output is 13" never comes then
  pub never_13 : (out : List ℕ) → length t ≤ length out → {r : Refusal} → rewrite_answer L t out ≡ Err r → r.number ≡ 13 → ⊥
  unfolding rewrite_answer rewrite_of write_answer
  never_13 out room {r} e is = go (reading L stored t) refl (ap write_answer (sym (rewrote_whole (length out) room)) ∙ e)
    where
      go : (v : Verdict) → reading L stored t ≡ v → write_answer (rewrite_of v) ≡ Err r → ⊥
      go (accepted k) read answer = let z : ◌≡◌ {A = ℕ} 0 1 = cc in omega arith
      go (refused q) read answer = let same : q ≡ r = cc in omega (arith, stored_numbers L t read, ap (λ (x : Refusal). x.number) same)

  -- "makes all checks but 16": no answer has this number
  pub answers_no_16 : (out : List ℕ) {r : Refusal} → rewrite_answer L t out ≡ Err r → r.number ≡ 16 → ⊥
  unfolding rewrite_answer rewrote rewrite_of write_answer fitted
  answers_no_16 out {r} e is = go (reading L stored t) refl e
    where
      go : (v : Verdict) → reading L stored t ≡ v → write_answer (fitted (length out) (rewrite_of v)) ≡ Err r → ⊥
      go (accepted k) read =
          fitted_cases (length out) (task_bytes k.header.form (rewritten k.task)) (λ (o : Output). write_answer o ≡ Err r → ⊥)
          (λ whole answer. let z : ◌≡◌ {A = ℕ} 0 1 = cc in omega arith)
          (λ short answer. let same : record { number = 13; place = 0 } ≡ r = cc in omega (arith, ap (λ (x : Refusal). x.number) same))
      go (refused q) read = λ answer. let same : q ≡ r = cc in omega (arith, stored_numbers L t read, ap (λ (x : Refusal). x.number) same)

-- a refusal's number and place are small, and so is a length
pub rewrite_small : (t out : List ℕ) → WriteSmall 64_000 (rewrite_answer paper t out)
unfolding rewrite_answer rewrote rewrite_of
rewrite_small t out =
    answer_small 64_000 (rewrote paper t (length out))
    (fitted_small 64_000 (length out) (rewrite_of (reading paper stored t)) (go (reading paper stored t) refl (table_refused stored t)))
  where
    go : (v : Verdict) → reading paper stored t ≡ v → IfRefused (Small place_limit) v → OutputSmall 64_000 (rewrite_of v)
    go (accepted k) e h = omega (arith, result_length paper t e, reading_limit paper stored t e, limit_most stored t)
    go (refused r) e h = h
