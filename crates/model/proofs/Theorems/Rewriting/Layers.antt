-- Layers do not see moves that do nothing: without them every layer is the same, and so is the answer, with its layer; a memory
-- that was long enough still is. Assumes nothing.
use Rattle.std.specs.Prelude.{ℕ, zero, suc, ◌≡◌, ◌↔◌, Bool, ◌&&◌, ◌||◌}
use Rattle.std.proofs.Common.{arith, ◌∙◌, subst, lt→ltb}
use Rattle.std.proofs.Math.Path.{refl, sym, ap}
use Rattle.std.proofs.Math.Bool.{true, false, cond, and-false}
use mathlib.Core.List.{List, [], ◌∷◌}
use Rattle.std.proofs.Math.Option.{Option}
use Rattle.std.proofs.Math.Dec.{T, ltb→lt}
use Rattle.model.specs.Limits.{Limits}
use Rattle.model.specs.Lists.{any_below, first_from}
use Rattle.model.specs.Task.{written, normal, Effect, Block, Task, adds, effect_on, active}
use Rattle.model.specs.Move.{State}
use Rattle.model.specs.Layer.{Value, Layer, highest, usable, offered, gained, raised, next, layer, layer_at, meets_goal, EqualNext, Passed, Reached, Exhausted, Outcome, reached, exhausted, reported, outcome}
use Rattle.model.specs.Memory.{room, too_large, wrong15, wrong14, refuses, Built, answered, stopped, stop_at, build}
use Rattle.model.specs.NormalForm.{normal_task}
use Rattle.model.specs.Rewrite.{active_moves, rewritten}
use Rattle.model.specs.Theorems.Reading.WellFormed.{TaskOk}
use Rattle.model.proofs.Theorems.Laws.Booleans.{or_left, or_right, or_cases}
use Rattle.model.proofs.Theorems.Laws.Searching.{first_from_cases}
use Rattle.model.proofs.Theorems.NormalForm.Task.{normal_ok}
use Rattle.model.proofs.Theorems.Layers.Order.{⊑-antisym, ⊑_refl, highest_right, highest_least}
use Rattle.model.proofs.Theorems.Layers.NextLayer.{raised_old}
use Rattle.model.specs.Theorems.Layers.Answer.{Answered}
use Rattle.model.proofs.Theorems.Layers.Answer.{answered as outcome-answered, outcome_unique}
use Rattle.model.proofs.Theorems.Layers.Entries.{first_missing}
use Rattle.model.proofs.Theorems.Layers.Building.{built_outcome}
use Rattle.model.proofs.Theorems.Rewriting.Solving.{idle_adds, idle_effects, normal_rewritten}
use Rattle.model.proofs.Theorems.Rewriting.Accepted.{kept_by, kept_few, kept_any, rewritten_ok}

-- ---- one layer's step

module _ (l : Layer) where
  same_gained : (p : ℕ) (ms : List Block) → gained l p (active_moves ms) ≡ gained l p ms
  unfolding gained
  same_gained p ms = kept_any (λ m. usable l m && adds p m) (λ m idle. ap (λ (x : Bool). usable l m && x) (idle_adds p m idle) ∙ and-false (usable l m)) ms

  -- a move that does nothing offers the old value, which is no more than what the others leave
  idle_raised : (v : ℕ) (m : Block) (ms : List Block) → active m ≡ false → raised l v (m ∷ ms) ≡ raised l v ms
  unfolding raised offered
  idle_raised v m ms idle =
      ap (λ (o : Option Effect). highest (cond (usable l m) (offered l v o) (l.val v)) (raised l v ms)) (idle_effects v m idle)
      ∙ ap (λ (x : Value). highest x (raised l v ms)) (either (usable l m))
      ∙ ⊑-antisym (highest_least (raised_old l v ms) (⊑_refl (raised l v ms))) (highest_right (l.val v) (raised l v ms))
    where
      either : (x : Bool) → cond x (l.val v) (l.val v) ≡ l.val v
      either true = refl
      either false = refl

  same_raised : (v : ℕ) (ms : List Block) → raised l v (active_moves ms) ≡ raised l v ms
  unfolding active_moves raised
  same_raised v [] = refl
  same_raised v (m ∷ ms) =
      kept_by (λ (k : List Block). raised l v k ≡ raised l v (m ∷ ms)) m (active_moves ms)
      (λ does. ap (λ (x : Value). highest (cond (usable l m) (offered l v (effect_on v m)) (l.val v)) x) (same_raised v ms))
      (λ idle. same_raised v ms ∙ sym (idle_raised v m ms idle))

  -- a step without the moves that do nothing gives the same next layer
  pub same_next : (ms : List Block) → next (active_moves ms) l ≡ next ms l
  unfolding next
  same_next ms = λ i. record { has = λ p. l.has p || same_gained p ms i; val = λ v. same_raised v ms i }

-- ---- all layers
-- without the moves that do nothing each layer is the same
pub same_layer_lem : (ms : List Block) (s : State) (t : ℕ) → layer (active_moves ms) s t ≡ layer ms s t
unfolding layer
same_layer_lem ms s zero = refl
same_layer_lem ms s (suc t) = same_next (layer (active_moves ms) s t) ms ∙ ap (next ms) (same_layer_lem ms s t)

module _ (k : Task) (s : State) where
  -- each layer is the old one
  pub same_layer_at : (t : ℕ) → layer_at (rewritten k) s t ≡ layer_at k s t
  unfolding layer_at rewritten
  same_layer_at t = same_layer_lem k.moves s t

  -- the same layers meet the goal
  pub same_meets_goal : (t : ℕ) → meets_goal (rewritten k) s t ≡ meets_goal k s t
  unfolding meets_goal rewritten
  same_meets_goal t = ap (λ (l : Layer). usable l k.goal) (same_layer_at t)

-- ---- the answer
-- two tasks with the same layers, which meet their goals alike
record Alike (j k : Task) (s : State) : Type 0 where
  pub layers : (t : ℕ) → layer_at j s t ≡ layer_at k s t
  pub goals : (t : ℕ) → meets_goal j s t ≡ meets_goal k s t

module _ {j k : Task} {s : State} (same : Alike j k s) where
  equal_forth : (t : ℕ) → EqualNext j s t → EqualNext k s t
  equal_forth t e = sym (same.layers (suc t)) ∙ e ∙ same.layers t

  equal_back : (t : ℕ) → EqualNext k s t → EqualNext j s t
  equal_back t e = same.layers (suc t) ∙ e ∙ sym (same.layers t)

  passed_alike : (t : ℕ) → Passed j s t → Passed k s t
  passed_alike t p =
      record { unmet = λ u h. sym (same.goals u) ∙ p.unmet u h; unequal = λ u h e. p.unequal u h (equal_back u e) }

  answered_alike : (o : Outcome) → Answered j s o → Answered k s o
  answered_alike (reached t) a = record { passed = passed_alike t a.passed; met = sym (same.goals t) ∙ a.met }
  answered_alike (exhausted t) a =
      record { passed = passed_alike t a.passed; unmet = sym (same.goals t) ∙ a.unmet; equal = equal_forth t a.equal }

module _ (k : Task) (s : State) where
  alike : Alike (rewritten k) k s
  alike = record { layers = same_layer_at k s; goals = same_meets_goal k s }

  alike_back : Alike k (rewritten k) s
  alike_back = record { layers = λ t. sym (same_layer_at k s t); goals = λ t. sym (same_meets_goal k s t) }

  -- an answer, a layer or "no plan" with its layer, is right for the one exactly if it is for the other
  pub same_answered : (o : Outcome) → Answered (rewritten k) s o ↔ Answered k s o
  same_answered o = (answered_alike alike o, answered_alike alike_back o)

  -- the same layer is the answer layer
  pub same_reached : (t : ℕ) → Reached (rewritten k) s t ↔ Reached k s t
  same_reached t = same_answered (reached t)

  -- and "no plan" comes with the same layer
  pub same_exhausted : (t : ℕ) → Exhausted (rewritten k) s t ↔ Exhausted k s t
  same_exhausted t = same_answered (exhausted t)

  -- the answer of a task that passed the checks is the old one, with its layer
  pub same_outcome : {L : Limits} → TaskOk L normal k → outcome (rewritten k) s ≡ outcome k s
  same_outcome ok = sym (outcome_unique ok s (outcome (rewritten k) s) ((same_answered (outcome (rewritten k) s)).0 (outcome-answered (rewritten_ok k ok) s)))

-- the same for a written table, whose normal form is what gets decided
pub same_outcome_written : {L : Limits} (k : Task) (s : State) → TaskOk L written k → outcome (normal_task (rewritten k)) s ≡ outcome (normal_task k) s
same_outcome_written {L} k s ok = ap (λ (n : Task). outcome n s) (normal_rewritten k) ∙ same_outcome (normal_task k) s (normal_ok L k ok)

-- ---- building in layer memory
module _ {L : Limits} {k : Task} (ok : TaskOk L normal k) (s : State) (size : ℕ) where
  same_large : (t : ℕ) → wrong15 L (rewritten k) s t ≡ wrong15 L k s t
  unfolding wrong15 rewritten
  same_large t = ap (λ (l : Layer). any_below (λ v. too_large L (l.val v)) k.vars) (same_layer_at k s t)

  -- what is refused now was refused before: the layers are the same, and fewer moves take less room
  still_refused : (t : ℕ) → T (refuses L (rewritten k) s size t) → T (refuses L k s size t)
  unfolding wrong14 room rewritten
  still_refused t bad =
      or_cases (wrong15 L (rewritten k) s t) (wrong14 (rewritten k) size t) bad
      (λ large. or_left (wrong15 L k s t) (wrong14 k size t) (subst T (same_large t) large))
      (λ short.
      or_right (wrong15 L k s t) (wrong14 k size t)
      (lt→ltb size (room k t) (omega (arith, ltb→lt size (room (rewritten k) t) short, kept_few k.moves))))

  -- a memory in which the old layers led to an answer is long enough for the new ones, which lead to the same answer
  pub same_build : (o : Outcome) → build L k s size ≡ answered o → build L (rewritten k) s size ≡ answered o
  unfolding build stop_at
  same_build o e =
      ap (λ (x : Outcome). stop_at L (rewritten k) s (first_from (refuses L (rewritten k) s size) 0 (suc (reported x))) x) (same_outcome k s ok)
      ∙ first_from_cases (refuses L k s size)
      (λ (f : Option ℕ). stop_at L k s f (outcome k s) ≡ answered o → now ≡ answered (outcome k s))
      0 (suc (reported (outcome k s)))
      (λ t low high bad before stop. not_stopped stop)
      (λ never same.
      ap (λ (f : Option ℕ). stop_at L (rewritten k) s f (outcome k s))
      (first_missing (refuses L (rewritten k) s size) (suc (reported (outcome k s))) (λ u h bad. never u (omega arith) (omega arith) (still_refused u bad)))) e
      ∙ ap answered (sym (built_outcome L k s size o e))
    where
      now : Built
      now = stop_at L (rewritten k) s (first_from (refuses L (rewritten k) s size) 0 (suc (reported (outcome k s)))) (outcome k s)

      not_stopped : {n t : ℕ} → stopped n t ≡ answered o → now ≡ answered (outcome k s)
      not_stopped e = cc
