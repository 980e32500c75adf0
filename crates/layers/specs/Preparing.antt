-- What stands before any layer: a normal table, outlined, and an accepted state; and the answer of `decide`.
-- Assumes nothing.
use Rattle.std.specs.Prelude.{ℕ, ◌/◌, ◌≤◌, ◌≡◌, Result, Ok, Err, List, ℤ, length}
use Rattle.std.proofs.Common.{arith, sym, ◌∙◌}
use Rattle.std.proofs.Math.Path.{ap}
use Rattle.std.proofs.Math.Option.{none, some}
use Rattle.layers.specs.declared.Built.{Built as BuiltAnswer}
use Rattle.model.specs.declared.Head.{Head}
use Rattle.model.specs.declared.Refusal.{Refusal}
use Rattle.model.specs.declared.DecideAnswer.{DecideAnswer}
use Rattle.model.specs.Limits.{paper}
use Rattle.model.specs.Task.{normal, Task}
use Rattle.model.specs.Reading.{Verdict, refused, only, reading}
use Rattle.model.specs.Move.{State}
use Rattle.model.specs.StateTable.{state_refusal}
use Rattle.model.specs.Calls.{Ready, ready, unready, ready_with, ready_of, prepared, decided, decide_of, decide_answer, memory_of, decide_memory}
use Rattle.model.specs.Theorems.Campaigns.Demand3.{decide_layers}
use Rattle.model.specs.Theorems.Campaigns.EndToEnd.{LayersWithin}
use Rattle.model.proofs.Theorems.Campaigns.EndToEnd.{decide_within}
use Rattle.table.specs.Outlines.{Outline, HeadRead}
use Rattle.layer_step.specs.Step.{Counts}
use Rattle.layers.specs.Building.{IsBuilt, built_of}
use Rattle.layers.specs.Starting.{start_of, Buildable}

-- ---- ready for layers, or refused before

-- the table and the state are accepted
pub record ReadyIn (t bs m : List ℕ) (props vars moves : ℕ) : Type 0 where
  pub task : Task
  pub is : prepared paper t bs ≡ ready task (start_of props bs)
  pub outlined : Outline normal t m task
  pub counts : Counts task props vars moves
  pub accepted_state : state_refusal paper props (vars / 2) bs ≡ none

abbrev pub IsPrepared : List ℕ → List ℕ → List ℕ → Result Head Refusal → Type 0
IsPrepared t bs m (Ok n) = ReadyIn t bs m n.props n.vars n.moves
IsPrepared t bs m (Err r) = prepared paper t bs ≡ unready r

pub table_refused : (t bs : List ℕ) {r : Refusal} → reading paper (only normal) t ≡ refused r → prepared paper t bs ≡ unready r
unfolding prepared ready_of
table_refused t bs e = ap (λ (v : Verdict). ready_of paper v bs) e

module _ {t m : List ℕ} {props vars moves : ℕ} (h : HeadRead normal t m props vars moves) where
  -- the counts keep within the limits
  pub head_props : props ≤ 120
  unfolding paper
  head_props = omega (arith, h.outline.ok.props, h.props_is)

  pub head_vars : vars ≤ 32
  unfolding paper
  head_vars = omega (arith, h.outline.ok.vars.0, h.vars_is)

  module _ (bs : List ℕ) where
    by_state : prepared paper t bs ≡ ready_with h.table.task bs (state_refusal paper props (vars / 2) bs)
    unfolding prepared ready_of
    by_state =
        ap (λ (v : Verdict). ready_of paper v bs) h.is
        ∙ ap (λ (n : ℕ). ready_with h.table.task bs (state_refusal paper n (h.table.task.vars / 2) bs)) (sym h.props_is)
        ∙ ap (λ (n : ℕ). ready_with h.table.task bs (state_refusal paper props (n / 2) bs)) (sym h.vars_is)

    pub state_refused : {r : Refusal} → state_refusal paper props (vars / 2) bs ≡ some r → prepared paper t bs ≡ unready r
    unfolding ready_with
    state_refused e = by_state ∙ ap (ready_with h.table.task bs) e

    pub both_accepted : state_refusal paper props (vars / 2) bs ≡ none → ReadyIn t bs m props vars moves
    unfolding ready_with
    both_accepted e =
        record {
          task = h.table.task;
          is = by_state ∙ ap (ready_with h.table.task bs) e ∙ ap (λ (n : ℕ). ready h.table.task (start_of n bs)) (sym h.props_is);
          outlined = h.outline;
          counts = record { props_is = h.props_is; vars_is = h.vars_is; moves_is = h.count };
          accepted_state = e;
        }

pub ready_buildable : {t bs m : List ℕ} {props vars moves : ℕ} → ReadyIn t bs m props vars moves → Buildable t m props vars moves bs
ready_buildable r = record { task = r.task; outlined = r.outlined; counts = r.counts; accepted = r.accepted_state }

-- ---- decide

pub record Decided (t bs : List ℕ) (mem mem' : List ℤ) (r : Result DecideAnswer Refusal) : Type 0 where
  pub answers : r ≡ decide_answer paper t bs mem
  pub leaves : mem' ≡ decide_memory paper t bs mem

-- the reported layers are within the bound
pub decided_within : {t bs : List ℕ} {mem mem' : List ℤ} {r : Result DecideAnswer Refusal} → Decided t bs mem mem' r → LayersWithin t (decide_layers r)
decided_within {t} {bs} {mem} d = rw d.answers (decide_within t bs mem)

pub decided_refused : (t bs : List ℕ) (mem : List ℤ) {r : Refusal} → prepared paper t bs ≡ unready r → Decided t bs mem mem (Err r)
unfolding decide_answer decide_of decide_memory memory_of
decided_refused t bs mem e =
    record {
      answers = sym (ap (decide_of paper (length mem)) e);
      leaves = sym (ap (λ (x : Ready). memory_of paper x mem) e);
    }

pub decided_built :
    (t bs : List ℕ) (mem mem' : List ℤ) {k : Task} {s : State} {b : Result BuiltAnswer Refusal} {r : Result DecideAnswer Refusal}
    → prepared paper t bs ≡ ready k s
    → IsBuilt k s mem mem' b
    → r ≡ decided (built_of b)
    → Decided t bs mem mem' r
unfolding decide_answer decide_of decide_memory memory_of
decided_built t bs mem mem' e built f =
    record {
      answers = f ∙ ap decided built.ended ∙ sym (ap (decide_of paper (length mem)) e);
      leaves = built.memory ∙ sym (ap (λ (x : Ready). memory_of paper x mem) e);
    }
