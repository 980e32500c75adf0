-- The moves of a list, one after the other: on a state that is held twice, and from the bytes of a state. Assumes nothing.
use Rattle.std.specs.Prelude.{ℕ, ◌+◌, ◌≤◌, ◌<◌, ◌≡◌, Bool, List, [], ◌∷◌, ℤ, length, get_or, take, Result, Ok, Err}
use Rattle.std.proofs.Common.{not-suc-le-zero, add-one, arith, ◌∙◌, take_all}
use Rattle.std.proofs.Math.Path.{sym, ap, subst}
use Rattle.std.proofs.Math.Option.{Option, none, some}
use Rattle.model.specs.Limits.{paper}
use Rattle.model.specs.Task.{Task}
use Rattle.model.specs.Move.{State, real, move_at}
use Rattle.model.specs.StateTable.{state_of}
use Rattle.model.proofs.Theorems.Laws.Searching.{below_suc}
use Rattle.schedule.specs.declared.Fault.{Fault}
use Rattle.schedule.specs.Run.{state_after}
use Rattle.schedule.specs.Check.{fault_of}
use Rattle.schedule.specs.Theorems.Lists.{fault_at, Made, FirstFault}
use Rattle.schedule.proofs.Theorems.Steps.{state_next}
use Rattle.real_move.specs.declared.RealState.{RealState}
use Rattle.transition.specs.declared.Stop.{Stop}
use Rattle.real_move.specs.Moving.{Holds, Twice, Turn, turn_fault}
use Rattle.transition.specs.Turns.{Read, Turnable, Turned}

-- every move is made, and the arrays hold the state after them
pub record AllMade (props vars : ℕ) (k : Task) (s : State) (list : List ℕ) (has : List Bool) (values : List ℤ) : Type 0 where
  pub made : Made paper k s list (length list)
  pub holds : Holds props vars has values (state_after k s list)

-- what becomes of a list: every move of it is made, or the first that cannot be
abbrev pub Walked : Type 0
Walked = Result (Unit {0}) Stop

abbrev pub WalkRight : ℕ → ℕ → Task → State → List ℕ → List Bool → List ℤ → Walked → Type 0
WalkRight props vars k s list has values (Ok done) = AllMade props vars k s list has values
WalkRight props vars k s list has values (Err stop) = FirstFault paper k s list stop.index stop.fault

-- in every reading of the table, and for every state that the arrays held
module _ (t marks : List ℕ) (props vars moves : ℕ) (list : List ℕ) (had : List Bool) (values : List ℤ) (has : List Bool) (next : List ℤ) where
  pub record MovesMade (had' : List Bool) (values' : List ℤ) (r : Walked) : Type 0 where
    pub is : (h : Read t marks props vars moves) (s : State) → Twice props vars had values has next s → WalkRight props vars h.table.task s list had' values' r

  -- before entry i
  pub record Making (i : ℕ) (had' : List Bool) (values' : List ℤ) (has' : List Bool) (next' : List ℤ) : Type 0 where
    pub within : i ≤ length list
    pub made : (h : Read t marks props vars moves) (s : State) → Twice props vars had values has next s → Made paper h.table.task s list i
    pub holds : (h : Read t marks props vars moves) (s : State) → Twice props vars had values has next s → Twice props vars had' values' has' next' (state_after h.table.task s (take i list))

  pub making_start : Making 0 had values has next
  unfolding state_after
  making_start = record { within = omega arith; made = λ h s v i l. absurd (not-suc-le-zero l); holds = λ h s v. v }

  module _ {i : ℕ} {had' : List Bool} {values' : List ℤ} {has' : List Bool} {next' : List ℤ} (w : Making i had' values' has' next') where
    pub making_turnable : Turnable t marks props vars moves had values has next → Turnable t marks props vars moves had' values' has' next'
    making_turnable m = record { read = m.read; over = _; holds = w.holds m.read m.over m.holds }

    -- nothing is left
    pub making_ended : length list ≤ i → MovesMade had' values' (Ok tt)
    making_ended l =
        record {
          is = λ h s v.
              record {
                made = λ j k. w.made h s v j (omega arith);
                holds = rw (ap (state_after h.table.task s) (sym (take_all i list l))) (w.holds h s v).old;
              };
        }

    module _ (l : i < length list) {had'' : List Bool} {values'' : List ℤ} {has'' : List Bool} {next'' : List ℤ} {r : Turn}
        (q : Turned t marks props vars moves (get_or list i 0) had' values' has' next' had'' values'' has'' next'' r)
      where
        -- what became of entry i
        entry_fault : (h : Read t marks props vars moves) (s : State) (v : Twice props vars had values has next s) {o : Option Fault} → turn_fault r ≡ o → fault_at paper h.table.task s list i ≡ o
        unfolding fault_at
        entry_fault h s v f = sym (q.is h _ (w.holds h s v)).fault ∙ f

        pub making_made : r ≡ Ok tt → Making (i + 1) had'' values'' has'' next''
        unfolding turn_fault
        making_made e =
            record {
              within = omega arith;
              made = λ h s v j k. below_suc j i (rw (add-one i) at k) (w.made h s v j) (λ same. ap (fault_at paper h.table.task s list) same ∙ entry_fault h s v (ap turn_fault e));
              holds = λ h s v.
                  rw (ap (λ (n : ℕ). state_after h.table.task s (take n list)) (add-one i) ∙ state_next h.table.task s list i l)
                  ((q.is h _ (w.holds h s v)).after (ap turn_fault e));
            }

        pub making_fails : {f : Fault} → r ≡ Err f → {had''' : List Bool} {values''' : List ℤ} → MovesMade had''' values''' (Err (record { index = i; fault = f }))
        unfolding turn_fault
        making_fails e = record { is = λ h s v. record { inside = l; fault = entry_fault h s v (ap turn_fault e); before = w.made h s v } }

-- what becomes of a list from the bytes of a state: the state after it, or the first move that cannot be made
abbrev pub EndRight : ℕ → ℕ → Task → State → List ℕ → Result RealState Stop → Type 0
EndRight props vars k s list (Ok after) = AllMade props vars k s list after.has after.values
EndRight props vars k s list (Err stop) = FirstFault paper k s list stop.index stop.fault

-- in every reading of the table
module _ (t marks : List ℕ) (props vars moves : ℕ) (bs list : List ℕ) where
  pub record WalkedOut (r : Result RealState Stop) : Type 0 where
    pub is : (h : Read t marks props vars moves) → EndRight props vars h.table.task (state_of props bs) list r

  -- what a walk to the end says, and one that stops
  module _ {r : Result RealState Stop} (q : WalkedOut r) (h : Read t marks props vars moves) where
    pub walked_ended : {after : RealState} → r ≡ Ok after → AllMade props vars h.table.task (state_of props bs) list after.has after.values
    walked_ended e = subst (EndRight props vars h.table.task (state_of props bs) list) e (q.is h)

    pub walked_stopped : {stop : Stop} → r ≡ Err stop → FirstFault paper h.table.task (state_of props bs) list stop.index stop.fault
    walked_stopped e = subst (EndRight props vars h.table.task (state_of props bs) list) e (q.is h)

-- ---- a list of one move

module _ {k : Task} {s : State} {b : ℕ} where
  pub one_fault : {i : ℕ} {f : Fault} → FirstFault paper k s (b ∷ []) i f → fault_of paper k s b ≡ some f
  unfolding fault_at state_after
  one_fault {i} {f} h =
      let first : i ≡ 0 = omega (arith, h.inside) in
      subst (λ (n : ℕ). fault_at paper k s (b ∷ []) n ≡ some f) first h.fault

  module _ {props vars : ℕ} {has : List Bool} {values : List ℤ} (m : AllMade props vars k s (b ∷ []) has values) where
    pub one_made : fault_of paper k s b ≡ none
    unfolding fault_at state_after
    one_made = m.made 0 (omega arith)

    pub one_holds : Holds props vars has values (real (move_at k b) s)
    unfolding state_after
    one_holds = m.holds
