-- From the bytes of a stored written table to those that the rewriter writes: the same states, and lists that solve one exactly when
-- lists solve the other, run with real moves and as relaxed tasks; so decide's and plan's answers on the new table speak of the old one
-- too. Assumes nothing.
use Rattle.std.specs.Prelude.{ℕ, ◌≡◌, refl, ◌↔◌, List, map, ℤ, length}
use Rattle.std.proofs.Common.{sym, ◌∙◌, subst}
use Rattle.integer.specs.BigEndian.{AllBytes}
use Rattle.model.specs.Limits.{Limits, paper}
use Rattle.model.specs.Task.{written, Block, Task}
use Rattle.model.specs.Move.{State, real, relaxed, Solves}
use Rattle.model.specs.Command.{task_bytes}
use Rattle.model.specs.Reading.{Table, accepted, only, stored, reading}
use Rattle.model.specs.StateTable.{state_refusal}
use Rattle.model.specs.Plan.{move_and_count, plan_list}
use Rattle.model.specs.Calls.{writes, normal_bytes, normalise_answer, decide_answer, plan_answer, plan_out}
use Rattle.model.specs.Rewrite.{rewritten, renumbered, numbered_back, rewrote}
use Rattle.model.proofs.Theorems.Reading.Accepted.{accepted_one}
use Rattle.model.specs.Theorems.Printing.Passing.{SmallLimits}
use Rattle.model.specs.Theorems.Printing.Tables.{printed_table}
use Rattle.model.specs.Theorems.Campaigns.Demand2.{normal_part}
use Rattle.model.specs.Theorems.Campaigns.Demand3.{relaxed_task, start_state, layer_zero, Given, records_of, Answers}
use Rattle.model.proofs.Theorems.Campaigns.EndToEnd.{demand3}
use Rattle.model.proofs.Theorems.Rewriting.Solving.{dropped_solves, back_solves, real_inert}
use Rattle.model.proofs.Theorems.Rewriting.Normal.{rewritten_read, written_is, relaxed_forth_lem, relaxed_back_lem}
use Rattle.model.specs.Theorems.Rewriting.EndToEnd.{AnswersOld}

-- some list, of any length, solves the task
abbrev pub Solvable : (Block → State → State) → Task → State → Type 0
Solvable run k s = (list : List ℕ) × Solves run k s list

-- What the rewriter writes, o, of the bytes of a stored written table `old`; bs are the bytes of a state.
pub record SameCampaign (L : Limits) (old : Table) (o : List ℕ) : Type 0 where
  -- o is a written table that every call for written tables takes: the old task without the moves that do nothing
  pub new : Table
  pub read : reading L (only written) o ≡ accepted new
  pub task : new.task ≡ rewritten old.task
  -- a state is accepted for both tables, or refused alike
  pub states : (bs : List ℕ) → state_refusal L new.task.props new.task.vars bs ≡ state_refusal L old.task.props old.task.vars bs
  -- "A list with those moves dropped and the rest renumbered solves the rewritten table whenever the old list solved the old one."
  pub real_forth : (bs list : List ℕ) → Solves real old.task (start_state old bs) list → Solves real new.task (start_state new bs) (renumbered old.task list)
  pub relaxed_forth : (bs list : List ℕ) → Solves relaxed (relaxed_task old) (layer_zero old bs) list → Solves relaxed (relaxed_task new) (layer_zero new bs) (renumbered old.task list)
  -- "Any list that solves the new table, numbered back, solves the old."
  pub real_back : (bs list : List ℕ) → Solves real new.task (start_state new bs) list → Solves real old.task (start_state old bs) (numbered_back old.task list)
  pub relaxed_back : (bs list : List ℕ) → Solves relaxed (relaxed_task new) (layer_zero new bs) list → Solves relaxed (relaxed_task old) (layer_zero old bs) (numbered_back old.task list)
  -- so some list solves the old table exactly when some list solves the new one
  pub real_solvable : (bs : List ℕ) → Solvable real old.task (start_state old bs) ↔ Solvable real new.task (start_state new bs)
  pub relaxed_solvable : (bs : List ℕ) → Solvable relaxed (relaxed_task old) (layer_zero old bs) ↔ Solvable relaxed (relaxed_task new) (layer_zero new bs)

module _ (L : Limits) (old : Table) where
  abbrev k : Task
  k = old.task

  abbrev new : Table
  new = printed_table written (rewritten old.task)

  real_forth_holds : (bs list : List ℕ) → Solves real k (start_state old bs) list → Solves real new.task (start_state new bs) (renumbered k list)
  unfolding printed_table rewritten
  real_forth_holds bs list = dropped_solves real_inert k list (start_state old bs)

  real_back_holds : (bs list : List ℕ) → Solves real new.task (start_state new bs) list → Solves real k (start_state old bs) (numbered_back k list)
  unfolding printed_table rewritten
  real_back_holds bs list = back_solves real_inert k list (start_state old bs)

  layers_forth : (bs list : List ℕ) → Solves relaxed (relaxed_task old) (layer_zero old bs) list → Solves relaxed (relaxed_task new) (layer_zero new bs) (renumbered k list)
  unfolding printed_table rewritten
  layers_forth bs list = relaxed_forth_lem k list (layer_zero old bs)

  layers_back : (bs list : List ℕ) → Solves relaxed (relaxed_task new) (layer_zero new bs) list → Solves relaxed (relaxed_task old) (layer_zero old bs) (numbered_back k list)
  unfolding printed_table rewritten
  layers_back bs list = relaxed_back_lem k list (layer_zero old bs)

  same_printed : reading L (only written) (task_bytes written (rewritten k)) ≡ accepted new → SameCampaign L old (task_bytes written (rewritten k))
  unfolding printed_table rewritten
  same_printed read =
      record {
        new = new;
        read = read;
        task = refl;
        states = λ bs. refl;
        real_forth = real_forth_holds;
        relaxed_forth = layers_forth;
        real_back = real_back_holds;
        relaxed_back = layers_back;
        real_solvable = λ bs. (λ h. (renumbered k h.0, real_forth_holds bs h.0 h.1), λ h. (numbered_back k h.0, real_back_holds bs h.0 h.1));
        relaxed_solvable = λ bs. (λ h. (renumbered k h.0, layers_forth bs h.0 h.1), λ h. (numbered_back k h.0, layers_back bs h.0 h.1));
      }

-- For the bytes of a stored written table that the rewriter takes, and the bytes that it writes.
pub same_campaign :
    (L : Limits) → SmallLimits L
    → (t : List ℕ) → AllBytes t
    → (old : Table) → reading L stored t ≡ accepted old → old.header.form ≡ written
    → (size : ℕ) {o : List ℕ} → rewrote L t size ≡ writes o
    → SameCampaign L old o
same_campaign L small t bytes old e head size writes-o =
    subst (SameCampaign L old) (sym (written_is L small t bytes old e head size writes-o))
    (same_printed L old (rewritten_read L small t bytes old e head))

-- Under the premises of demand 3 for the new table, its answers are right for the old one too.
pub answers_old :
    (old : Table) (o : List ℕ) → SameCampaign paper old o
    → (bs normalOut : List ℕ) (layers : List ℤ) (out : List ℕ) (g : Given o bs normalOut layers out)
    → AnswersOld old g.table bs (decide_answer paper (normal_part o normalOut (length (normal_bytes g.table.task))) bs layers)
answers_old old o c bs normalOut layers out g =
    record {
      no_plan = (
        λ h list solves. a.decide_no_plan.0 h (renumbered old.task list) (subst (Relaxed (renumbered old.task list)) (sym same) (c.relaxed_forth bs list solves)),
        λ none. a.decide_no_plan.1 (λ list solves. none (numbered_back old.task list) (c.relaxed_back bs list (subst (Relaxed list) same solves))),
      );
      unsolvable =
          λ h list solves. a.unsolvable h (renumbered old.task list)
          (subst (λ (w : Table). Solves real w.task (start_state w bs) (renumbered old.task list)) (sym same) (c.real_forth bs list solves));
      found =
          λ h. let f = a.found h in
          let list = plan_list (map move_and_count (records_of g.table bs f.layer)) in
          (f.layer, f.decides, c.relaxed_back bs list (subst (Relaxed list) same f.solves));
    }
  where
    a :
        let nb = normal_part o normalOut (length (normal_bytes g.table.task)) in
        Answers g.table bs (normalise_answer paper o normalOut) nb (decide_answer paper nb bs layers) (plan_answer paper nb bs layers out)
        out (plan_out paper nb bs layers out)
    a = demand3 o bs normalOut layers out g

    same : g.table ≡ c.new
    same = accepted_one (sym g.read ∙ c.read)

    Relaxed : List ℕ → Table → Type 0
    Relaxed list w = Solves relaxed (relaxed_task w) (layer_zero w bs) list
