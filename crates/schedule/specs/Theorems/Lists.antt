-- What checking a list says of it: that every entry can be made and the goal holds in the state after them; the first entry that cannot be
-- made, with its fault; or that the goal fails at the end. A list of the first kind is one that solves the task and whose values all stay in
-- range. Assumes nothing.
use Prim.Native.Nat.{ℕ, ◌+◌, ◌<◌}
use Rattle.std.specs.Prelude.{◌≡◌, length, get_or, take}
use mathlib.Core.List.{List}
use Rattle.std.proofs.Math.Option.{Option, none, some}
use Rattle.std.proofs.Math.Dec.{T}
use Rattle.model.specs.Limits.{Limits}
use Rattle.model.specs.Task.{Task}
use Rattle.model.specs.Move.{State, applicable}
use Rattle.schedule.specs.declared.Fault.{Fault}
use Rattle.schedule.specs.Run.{state_after}
use Rattle.schedule.specs.Check.{fault_of, Checked, passes, fails, unmet}

module _ (L : Limits) (k : Task) where
  -- the fault of entry i of the list, in the state before it
  unfoldable pub fault_at : State → List ℕ → ℕ → Option Fault
  fault_at s bs i = fault_of L k (state_after k s (take i bs)) (get_or bs i 0)

  -- the first n entries can be made
  abbrev pub Made : State → List ℕ → ℕ → Type 0
  Made s bs n = (i : ℕ) → i < n → fault_at s bs i ≡ none

  -- "the first index whose move is missing, not allowed or out of range"
  pub record FirstFault (s : State) (bs : List ℕ) (i : ℕ) (f : Fault) : Type 0 where
    pub inside : i < length bs
    pub fault : fault_at s bs i ≡ some f
    pub before : Made s bs i

  -- "goal not met": every entry can be made, and the goal fails after the last
  pub record Unmet (s : State) (bs : List ℕ) : Type 0 where
    pub made : Made s bs (length bs)
    pub unmet : T (applicable (state_after k s bs) k.goal) → ⊥

  -- every entry can be made, the goal holds after the last, in state e
  pub record Passed (s : State) (bs : List ℕ) (e : State) : Type 0 where
    pub made : Made s bs (length bs)
    pub end : e ≡ state_after k s bs
    pub goal : T (applicable (state_after k s bs) k.goal)

  -- ---- what an answer says of the entries from index i on

  pub record FailsFrom (i : ℕ) (s : State) (bs : List ℕ) (j : ℕ) (f : Fault) : Type 0 where
    pub entry : ℕ
    pub is : j ≡ i + entry
    pub first : FirstFault s bs entry f

  abbrev pub ListRight : ℕ → State → List ℕ → Checked → Type 0
  ListRight i s bs (passes e) = Passed s bs e
  ListRight i s bs (fails j f) = FailsFrom i s bs j f
  ListRight i s bs unmet = Unmet s bs
