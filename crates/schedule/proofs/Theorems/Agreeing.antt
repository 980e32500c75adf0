-- States that agree below P and V are the same to the checker: the same moves can be made, they lead to states that agree, and the same lists
-- pass. And the bytes of a state in range are accepted, and stand for a state that agrees with it. Assumes nothing.
use Prim.Native.Nat.{ℕ, zero, suc, ◌≤◌, ◌<◌}
use Rattle.std.proofs.Common.{arith, sym, subst}
use Rattle.std.specs.Prelude.{◌≡◌, ◌↔◌, T, ℤ, nat_abs, length}
use mathlib.Core.List.{List, [], ◌∷◌}
use Rattle.std.proofs.Math.Option.{Option, none, some}
use Rattle.std.proofs.Math.Seq.{take-nil}
use Rattle.model.specs.Limits.{Limits, paper}
use Rattle.model.specs.Task.{Form, Task}
use Rattle.model.specs.Move.{State, applicable, real, move_at}
use Rattle.model.specs.StateTable.{state_of, state_refusal, state_bytes}
use Rattle.model.specs.Theorems.Reading.WellFormed.{BlockOk, TaskOk}
use Rattle.model.proofs.Theorems.Reading.Agreeing.{agree_sym, agree_applicable, agree_real, agree_solves}
use Rattle.model.proofs.Theorems.Layers.NextLayer.{move_ok}
use Rattle.state.specs.RoundTrip.{truths_back, values_back, bytes_accepted}
use Rattle.schedule.specs.declared.Fault.{Fault}
use Rattle.schedule.specs.declared.Fault.TheVariants as fault
use Rattle.schedule.specs.Run.{state_after, ValuesInRange, InRange, SolvesInRange}
use Rattle.schedule.specs.Check.{fault_of}
use Rattle.schedule.proofs.Theorems.Moves.{MoveRight, fault_right, fault_is}
use Rattle.schedule.specs.Theorems.Agreeing.{Agree}

module _ {L : Limits} {f : Form} {k : Task} (ok : TaskOk L f k) where
  pub agree_range : {s t : State} → Agree k s t → ValuesInRange L k s → ValuesInRange L k t
  agree_range a r v h = subst (λ (z : ℤ). nat_abs z ≤ L.constant) (a.val v h) (r v h)

  module _ {s t : State} (a : Agree k s t) (b : ℕ) (known : b < length k.moves) where
    block_ok : BlockOk L f k.props k.vars (move_at k b)
    unfolding move_at
    block_ok = move_ok ok b known

    pub agree_moved : Agree k (real (move_at k b) s) (real (move_at k b) t)
    agree_moved = agree_real L f a (move_at k b) block_ok

    pub agree_allowed : applicable s (move_at k b) ≡ applicable t (move_at k b)
    agree_allowed = agree_applicable L f a (move_at k b) block_ok

  -- the same fault, or none
  module _ {s t : State} (a : Agree k s t) (b : ℕ) where
    right_agrees : (o : Option Fault) → MoveRight L k s b o → MoveRight L k t b o
    right_agrees none m =
        record {
          known = m.known;
          allowed = subst T (agree_allowed a b m.known) m.allowed;
          range = agree_range (agree_moved a b m.known) m.range;
        }
    right_agrees (some fault.Missing) m = m
    right_agrees (some fault.NotAllowed) m = (m.0, λ x. m.1 (subst T (sym (agree_allowed a b m.0)) x))
    right_agrees (some fault.OutOfRange) m =
        let to = agree_moved a b m.0 in (
          m.0,
          subst T (agree_allowed a b m.0) m.1,
          record {
            var = m.2.var;
            known = m.2.known;
            beyond = subst (λ (z : ℤ). L.constant < nat_abs z) (to.val m.2.var m.2.known) m.2.beyond;
          },
        )

    pub agree_fault : fault_of L k s b ≡ fault_of L k t b
    agree_fault = sym (fault_is L k t b (fault_of L k s b) (right_agrees (fault_of L k s b) (fault_right L k s b)))

  -- the same lists pass
  passes_agree : (bs : List ℕ) {s t : State} → Agree k s t → SolvesInRange L k s bs → SolvesInRange L k t bs
  unfolding state_after
  passes_agree [] a h =
      record { solves = (agree_solves ok [] a).0 h.solves; range = λ i l. rw (take-nil {A = ℕ} i) (agree_range a (h.range 0 (omega arith))) }
  passes_agree (b ∷ bs) {s} {t} a h =
      let later = passes_agree bs (agree_moved a b h.solves.0) (record { solves = h.solves.2; range = λ i l. h.range (suc i) (omega arith) }) in
      record { solves = (agree_solves ok (b ∷ bs) a).0 h.solves; range = ranges later.range }
    where
      ranges : InRange L k (real (move_at k b) t) bs → InRange L k t (b ∷ bs)
      ranges r zero l = agree_range a (h.range 0 (omega arith))
      ranges r (suc i) l = r i (omega arith)

  pub agree_passes : (bs : List ℕ) {s t : State} → Agree k s t → SolvesInRange L k s bs ↔ SolvesInRange L k t bs
  agree_passes bs a = (passes_agree bs a, passes_agree bs (agree_sym a))

-- ---- a state in range and its bytes
module _ (k : Task) (s : State) (small : ValuesInRange paper k s) where
  abbrev written : List ℕ
  written = state_bytes k.props k.vars s

  pub bytes_agree : Agree k (state_of k.props written) s
  unfolding paper
  bytes_agree = record { has = truths_back k.props k.vars s; val = λ v h. values_back k.props k.vars s v h (small v h) }

  pub bytes_right : state_refusal paper k.props k.vars written ≡ none
  unfolding paper
  bytes_right = bytes_accepted k.props k.vars s small
