-- The answer of `blocking` with what layer memory holds afterwards. Assumes nothing.
use Rattle.std.specs.Prelude.{ℕ, ◌≡◌, Result, Ok, Err, Option as Maybe, Some, None, false, List, ℤ, length}
use Rattle.std.proofs.Math.Path.{refl, sym, ap}
use Rattle.std.proofs.Common.{◌∙◌, subst}
use Rattle.model.specs.declared.Refusal.{Refusal}
use Rattle.model.specs.Limits.{paper}
use Rattle.model.specs.Task.{Task}
use Rattle.model.specs.Move.{State}
use Rattle.model.specs.Layer.{exhausted, reported, layer_at, usable, meets_goal}
use Rattle.model.specs.Calls.{Ready, ready, unready, prepared, decide_memory, memory_of}
use Rattle.model.specs.Blocking.{unmet_answer, blocked, blocking_of, blocking_answer, blocking_memory}
use Rattle.model.proofs.Theorems.Layers.Answer.{outcome_exhausted}
use Rattle.model.proofs.Theorems.Layers.Building.{built_outcome}
use Rattle.model.specs.Theorems.Sizes.Stored.{steps_of}
use Rattle.model.specs.Theorems.Sizes.Stored.{StoredLayers}
use Rattle.model.proofs.Theorems.Blocking.Parts.{unmet_some}
use Rattle.model.specs.Theorems.Blocking.EndToEnd.{Reasoned}
use Rattle.model.proofs.Theorems.Blocking.EndToEnd.{answer_reasoned}
use Rattle.layers.specs.declared.Built.{Built as BuiltAnswer}
use Rattle.layers.specs.declared.Built.TheVariants as building
use Rattle.layers.specs.Starting.{start_of}
use Rattle.layers.specs.Building.{IsBuilt, built_of}
use Rattle.layers.specs.Preparing.{ReadyIn}
use Rattle.layers.specs.Leaving.{built_layers}
use Rattle.blocking.specs.Unmet.{Searchable, IsPart}

pub record Blocked (t bs : List ℕ) (mem mem' : List ℤ) (r : Result (Maybe ℕ) Refusal) : Type 0 where
  pub answers : r ≡ blocking_answer paper t bs mem
  pub leaves : mem' ≡ blocking_memory paper t bs mem

-- an offset is the true reason
pub blocked_reasoned : {t bs : List ℕ} {mem mem' : List ℤ} {r : Result (Maybe ℕ) Refusal} → Blocked t bs mem mem' r → Reasoned t bs r
blocked_reasoned {t} {bs} {mem} b = subst (Reasoned t bs) (sym b.answers) (answer_reasoned t bs mem)

pub blocked_refused : (t bs : List ℕ) (mem : List ℤ) {r : Refusal} → prepared paper t bs ≡ unready r → Blocked t bs mem mem (Err r)
unfolding blocking_answer blocking_of blocking_memory decide_memory memory_of
blocked_refused t bs mem e =
    record {
      answers = sym (ap (blocking_of paper (length mem)) e);
      leaves = sym (ap (λ (x : Ready). memory_of paper x mem) e);
    }

module _ (t bs : List ℕ) (mem mem' : List ℤ) {k : Task} {s : State} {b : Result BuiltAnswer Refusal} (e : prepared paper t bs ≡ ready k s) (built : IsBuilt k s mem mem' b) where
  pub blocked_built : {r : Result (Maybe ℕ) Refusal} → r ≡ blocked k s (built_of b) → Blocked t bs mem mem' r
  unfolding blocking_answer blocking_of blocking_memory decide_memory memory_of
  blocked_built f =
      record {
        answers = f ∙ ap (blocked k s) built.ended ∙ sym (ap (blocking_of paper (length mem)) e);
        leaves = built.memory ∙ sym (ap (λ (x : Ready). memory_of paper x mem) e);
      }

module _ (t bs : List ℕ) (mem mem' : List ℤ) {k : Task} {s : State} (e : prepared paper t bs ≡ ready k s) where
  pub blocked_reached : {m : ℕ} → IsBuilt k s mem mem' (Ok (building.Reached m)) → Blocked t bs mem mem' (Ok None)
  unfolding built_of blocked
  blocked_reached built = blocked_built t bs mem mem' e built refl

  pub blocked_stopped : {r : Refusal} → IsBuilt k s mem mem' (Err r) → Blocked t bs mem mem' (Err r)
  unfolding built_of blocked
  blocked_stopped built = blocked_built t bs mem mem' e built refl

-- "no plan": the memory holds the layers up to the last, and that one misses a part of the goal
module _ {t bs marks : List ℕ} {props vars moves m : ℕ} {mem mem' : List ℤ} (r : ReadyIn t bs marks props vars moves) (b : IsBuilt r.task (start_of props bs) mem mem' (Ok (building.Exhausted m))) where
  stored : StoredLayers r.task (start_of props bs) props vars moves (reported (exhausted m)) (steps_of (exhausted m)) mem'
  unfolding built_of
  stored = built_layers r b (exhausted m) refl

  pub last_searchable : Searchable t marks mem' props vars moves m
  unfolding reported
  last_searchable = record { task = r.task; start = start_of props bs; steps = steps_of (exhausted m); outlined = r.outlined; memory = stored }

  missed : usable (layer_at r.task (start_of props bs) m) r.task.goal ≡ false
  unfolding built_of meets_goal
  missed =
      ((outcome_exhausted r.outlined.ok (start_of props bs) m).0
      (sym (built_outcome paper r.task (start_of props bs) (length mem) (exhausted m) (sym b.ended)))).unmet

  pub blocked_exhausted : {o : ℕ} → IsPart t marks mem' props vars moves m o → Blocked t bs mem mem' (Ok (Some o))
  unfolding built_of blocked unmet_answer reported
  blocked_exhausted {o} p =
      let k = r.task in
      let s = start_of props bs in
      let first = unmet_some k (layer_at k s m) missed in
      blocked_built t bs mem mem' r.is b
      (ap (λ (n : ℕ). Ok (Some n)) (p.is k s (steps_of (exhausted m)) r.outlined stored first.0 first.1)
      ∙ sym (ap (unmet_answer k) first.1))
