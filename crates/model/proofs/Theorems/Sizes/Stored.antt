-- A memory in which layers were built to the end: it holds the layers 0 to m of a task, each of which had room and passed the check
-- for 15. Assumes nothing.
use Rattle.std.specs.Prelude.{ℕ, suc, ◌+◌, ◌*◌, ◌≤◌, ◌≡◌, refl, false, List, ℤ}
use Rattle.std.proofs.Common.{add-one, arith, sym, ap, ◌∙◌, subst}
use borrow.Author.Tests.{ltb-false}
use Rattle.std.proofs.Math.ListN.{length}
use Rattle.model.specs.Limits.{paper}
use Rattle.model.specs.Task.{normal, Task}
use Rattle.model.specs.Move.{State}
use Rattle.model.specs.Layer.{Outcome, reached, exhausted, reported, outcome}
use Rattle.model.specs.Memory.{layer_memory, room, wrong15, wrong14, refuses, overwrite, answered, stop_at, build, built_memory}
use Rattle.model.proofs.Theorems.Laws.Booleans.{not-false, or_right}
use Rattle.model.proofs.Theorems.Laws.Searching.{first_from_cases}
use Rattle.model.specs.Theorems.Reading.WellFormed.{TaskOk}
use Rattle.model.proofs.Theorems.Layers.Building.{built_outcome}
use Rattle.model.specs.Theorems.Layers.Memories.{size, Holds}
use Rattle.model.proofs.Theorems.Layers.Memories.{memory_holds}
use Rattle.model.specs.Theorems.Sizes.States.{SmallState}
use Rattle.model.proofs.Theorems.Sizes.Plans.{answered_passes, reported_most}
use Rattle.model.specs.Theorems.Sizes.Stored.{steps_of, StoredLayers}

answered_memory : (k : Task) (s : State) (o : Outcome) → built_memory k s (answered o) ≡ layer_memory k s (suc (reported o)) (steps_of o)
unfolding built_memory reported steps_of
answered_memory k s (reached t) = refl
answered_memory k s (exhausted t) = refl

module _ {k : Task} (ok : TaskOk paper normal k) {s : State} (small : SmallState k.vars s) (old : List ℤ) {o : Outcome} (e : build paper k s (length old) ≡ answered o) where
  -- where the layers are built to the end, there was room for each of them
  answered_room : (u : ℕ) → u ≤ reported (outcome k s) → wrong14 k (length old) u ≡ false
  unfolding build stop_at
  answered_room u h =
      first_from_cases (refuses paper k s (length old)) (λ f. stop_at paper k s f (outcome k s) ≡ answered o → wrong14 k (length old) u ≡ false) 0
      (suc (reported (outcome k s)))
      (λ t low high bad before stopped-is. cc)
      (λ never same. not-false (wrong14 k (length old) u)
      (λ short. never u (omega arith) (omega arith) (or_right (wrong15 paper k s u) (wrong14 k (length old) u) short)))
      e

  last : reported o ≡ reported (outcome k s)
  last = ap reported (built_outcome paper k s (length old) o e)

  enough : size k s (suc (reported o)) ≤ length old
  unfolding wrong14 room
  enough =
      let fits = ltb-false (length old) (k.props + length k.moves + k.vars * (reported o + 1)) (answered_room (reported o) (omega (arith, last))) in
      rw (add-one (reported o)) at fits

  -- what building leaves where it ends with an answer
  pub answered_layers :
      {props vars moves : ℕ} {mem : List ℤ}
      → k.props ≡ props
      → k.vars ≡ vars
      → length k.moves ≡ moves
      → mem ≡ overwrite (built_memory k s (answered o)) old
      → StoredLayers k s props vars moves (reported o) (steps_of o) mem
  answered_layers p v a m =
      record {
        ok = ok;
        small = small;
        props_is = p;
        vars_is = v;
        moves_is = a;
        old = old;
        held =
            subst (Holds k s (suc (reported o)) (steps_of o) old)
            (sym (m ∙ ap (λ (l : List ℤ). overwrite l old) (answered_memory k s o)))
            (memory_holds k s (suc (reported o)) (steps_of o) old enough);
        room = enough;
        right = λ u h. answered_passes k s (length old) e u (omega (arith, last));
        bounded = omega (arith, last, reported_most ok s);
      }
