-- What keeps a move from being made, exactly: one of "missing, not allowed or out of range", and it is what step refuses it for.
-- Assumes nothing.
use Rattle.std.specs.Prelude.{ℕ, ◌≤◌, ◌<◌, ◌≡◌, refl, Bool, true, false, List, T, ltb, leb, nat_abs, length}
use Rattle.std.proofs.Common.{arith, le-leb, ltb→lt}
use Rattle.std.proofs.Math.Option.{Option, none, some}
use Rattle.std.proofs.Math.Dec.{nltb→le, not_T, leb→le, nleb→lt}
use Rattle.model.specs.Limits.{Limits}
use Rattle.model.specs.Lists.{all_below}
use Rattle.model.specs.Task.{Task}
use Rattle.model.specs.Move.{State, applicable, real, move_at}
use Rattle.model.specs.StateTable.{value_in_range, state_of, state_bytes}
use Rattle.model.specs.Calls.{writes, turns, result_of, moved, step_with_state}
use Rattle.model.proofs.Theorems.Laws.Booleans.{true_t}
use Rattle.model.proofs.Theorems.Laws.Searching.{all_below_at, at_all_below, all_below_fails}
use Rattle.schedule.specs.declared.Fault.{Fault}
use Rattle.schedule.specs.declared.Fault.TheVariants as fault
use Rattle.schedule.specs.Run.{ValuesInRange, CanMove}
use Rattle.schedule.specs.Check.{range_fault, block_fault, fault_of, fault_number}
use Rattle.schedule.specs.Theorems.Moves.{Beyond, step_output}

module _ (L : Limits) (k : Task) (s : State) where
  pub all_range : T (all_below (λ v. value_in_range L (s.val v)) k.vars) → ValuesInRange L k s
  unfolding value_in_range
  all_range t v h = leb→le (nat_abs (s.val v)) L.constant (all_below_at (λ v. value_in_range L (s.val v)) k.vars t v h)

  pub range_all : ValuesInRange L k s → T (all_below (λ v. value_in_range L (s.val v)) k.vars)
  unfolding value_in_range
  range_all r = at_all_below (λ v. value_in_range L (s.val v)) k.vars (λ v h. true_t (le-leb (nat_abs (s.val v)) L.constant (r v h)))

  not_all_beyond : (T (all_below (λ v. value_in_range L (s.val v)) k.vars) → ⊥) → Beyond L k s
  unfolding value_in_range
  not_all_beyond f =
      all_below_fails (λ v. value_in_range L (s.val v)) k.vars f
      (λ v h wrong. record { var = v; known = h; beyond = nleb→lt (nat_abs (s.val v)) L.constant (not_T (leb (nat_abs (s.val v)) L.constant) wrong) })

-- what each fault says of move b in state s
module _ (L : Limits) (k : Task) (s : State) (b : ℕ) where
  abbrev pub MoveRight : Option Fault → Type 0
  MoveRight none = CanMove L k s b
  MoveRight (some fault.Missing) = length k.moves ≤ b
  MoveRight (some fault.NotAllowed) = (b < length k.moves) × (T (applicable s (move_at k b)) → ⊥)
  MoveRight (some fault.OutOfRange) = (b < length k.moves) × T (applicable s (move_at k b)) × Beyond L k (real (move_at k b) s)

  pub fault_right : MoveRight (fault_of L k s b)
  unfolding fault_of block_fault range_fault
  fault_right = by_known (ltb b (length k.moves)) (ltb→lt b (length k.moves)) (λ f. nltb→le b (length k.moves) (not_T (ltb b (length k.moves)) f))
    where
      to : State
      to = real (move_at k b) s

      by_range :
          b < length k.moves
          → T (applicable s (move_at k b))
          → (t : Bool)
          → (T t → ValuesInRange L k to)
          → ((T t → ⊥) → Beyond L k to)
          → MoveRight (elim t [ true ↦ none | false ↦ some fault.OutOfRange ])
      by_range known allowed true all one = record { known = known; allowed = allowed; range = all tt }
      by_range known allowed false all one = (known, allowed, one (λ x. x))

      by_conditions :
          b < length k.moves
          → (t : Bool)
          → (T t → T (applicable s (move_at k b)))
          → ((T t → ⊥) → T (applicable s (move_at k b)) → ⊥)
          → MoveRight (elim t [ true ↦ range_fault L k.vars to | false ↦ some fault.NotAllowed ])
      by_conditions known true hold fail =
          by_range known (hold tt) (all_below (λ v. value_in_range L (to.val v)) k.vars) (all_range L k to) (not_all_beyond L k to)
      by_conditions known false hold fail = (known, fail (λ x. x))

      by_known :
          (t : Bool)
          → (T t → b < length k.moves)
          → ((T t → ⊥) → length k.moves ≤ b)
          → MoveRight (elim t [ true ↦ elim (applicable s (move_at k b)) [ true ↦ range_fault L k.vars to | false ↦ some fault.NotAllowed ] | false ↦ some fault.Missing ])
      by_known true less more = by_conditions (less tt) (applicable s (move_at k b)) (λ x. x) (λ f. f)
      by_known false less more = more (λ x. x)

  -- the four exclude one another
  only_one : (o q : Option Fault) → MoveRight o → MoveRight q → o ≡ q
  only_one none none h g = refl
  only_one none (some fault.Missing) h g = absurd (omega (arith, h.known))
  only_one none (some fault.NotAllowed) h g = absurd (g.1 h.allowed)
  only_one none (some fault.OutOfRange) h g = absurd (omega (arith, h.range g.2.var g.2.known, g.2.beyond))
  only_one (some fault.Missing) none h g = absurd (omega (arith, g.known))
  only_one (some fault.Missing) (some fault.Missing) h g = refl
  only_one (some fault.Missing) (some fault.NotAllowed) h g = absurd (omega (arith, g.0))
  only_one (some fault.Missing) (some fault.OutOfRange) h g = absurd (omega (arith, g.0))
  only_one (some fault.NotAllowed) none h g = absurd (h.1 g.allowed)
  only_one (some fault.NotAllowed) (some fault.Missing) h g = absurd (omega (arith, h.0))
  only_one (some fault.NotAllowed) (some fault.NotAllowed) h g = refl
  only_one (some fault.NotAllowed) (some fault.OutOfRange) h g = absurd (h.1 g.1)
  only_one (some fault.OutOfRange) none h g = absurd (omega (arith, g.range h.2.var h.2.known, h.2.beyond))
  only_one (some fault.OutOfRange) (some fault.Missing) h g = absurd (omega (arith, h.0))
  only_one (some fault.OutOfRange) (some fault.NotAllowed) h g = absurd (g.1 h.1)
  only_one (some fault.OutOfRange) (some fault.OutOfRange) h g = refl

  -- so what is so of the move gives its fault, or none
  pub fault_is : (o : Option Fault) → MoveRight o → fault_of L k s b ≡ o
  fault_is o h = only_one (fault_of L k s b) o fault_right h

-- "the first index whose move is missing, not allowed or out of range": what step's 10, 11 and 12 are, of an accepted state
pub step_fault :
    (L : Limits) (k : Task) (bs : List ℕ) (b : ℕ)
    → let s = state_of k.props bs in
    step_with_state L k bs b none ≡ step_output (fault_of L k s b) (state_bytes k.props k.vars (real (move_at k b) s))
unfolding step_with_state moved result_of fault_of block_fault range_fault step_output fault_number
step_fault L k bs b =
    go (ltb b (length k.moves)) (applicable (state_of k.props bs) (move_at k b))
    (all_below (λ v. value_in_range L ((real (move_at k b) (state_of k.props bs)).val v)) k.vars)
  where
    end : List ℕ
    end = state_bytes k.props k.vars (real (move_at k b) (state_of k.props bs))

    go :
        (known allowed range : Bool)
        → elim known [
          | true ↦ elim allowed [ true ↦ elim range [ true ↦ writes end | false ↦ turns (record { number = 12; place = 0 }) ] | false ↦ turns (record { number = 11; place = 0 }) ]
          | false ↦ turns (record { number = 10; place = 0 })
        ]
        ≡ step_output
        (elim known [
          | true ↦ elim allowed [ true ↦ elim range [ true ↦ none | false ↦ some fault.OutOfRange ] | false ↦ some fault.NotAllowed ]
          | false ↦ some fault.Missing
        ])
        end
    go true true true = refl
    go true true false = refl
    go true false range = refl
    go false allowed range = refl
