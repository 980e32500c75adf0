-- One move on a state that is held twice: its conditions, its effects, the range of its values. Assumes nothing.
use Rattle.std.specs.Prelude.{ℕ, ◌≤◌, ◌<◌, Bool, true, false, List, ℤ, pos, length, get_or, Result, Ok, Err}
use native.Mathlib.Omega.{arith}
use Rattle.std.proofs.Math.Path.{◌≡◌, refl, sym, ap}
use Rattle.std.proofs.Common.{◌∙◌}
use Rattle.std.proofs.Math.Option.{Option, none, some}
use Rattle.std.proofs.Math.IntN.{nat_abs}
use Rattle.model.specs.Limits.{paper}
use Rattle.model.specs.Lists.{all_below}
use Rattle.model.specs.Task.{written, Block}
use Rattle.model.specs.Move.{State, applicable, real}
use Rattle.model.specs.StateTable.{value_in_range}
use Rattle.model.specs.Theorems.Reading.WellFormed.{Once}
use Rattle.schedule.specs.declared.Fault.{Fault}
use Rattle.schedule.specs.declared.Fault.TheVariants as fault
use Rattle.schedule.specs.Check.{range_fault, block_fault}
use Rattle.block.specs.Items.{Ranges, Left}
use Rattle.block.specs.Sums.{Row}
use Rattle.block.specs.Blocks.{StateRow, IsApplicable}
use Rattle.real_move.specs.Running.{Runs, Runnable, Ran, Reached}
use Rattle.real_move.specs.Values.{all_in_range, all_small, all_same}

abbrev pub ranges_of : ℕ → ℕ → Ranges
ranges_of props vars = record { form = written; props = props; vars = vars }

-- ---- the state that two arrays hold

-- of so many propositions and variables, with all values in range
pub record Holds (props vars : ℕ) (has : List Bool) (values : List ℤ) (s : State) : Type 0 where
  pub long_has : props ≤ length has
  pub long_values : vars ≤ length values
  pub truths : (p : ℕ) → p < props → get_or has p false ≡ s.has p
  pub same : (v : ℕ) → v < vars → get_or values v (pos 0) ≡ s.val v
  pub small : (v : ℕ) → v < vars → nat_abs (s.val v) ≤ 1_000_000

-- two arrays hold a state that can be stored
pub record Putable (props vars : ℕ) (has : List Bool) (values : List ℤ) : Type 0 where
  pub few_props : props ≤ 120
  pub few_vars : vars ≤ 16
  pub state : State
  pub holds : Holds props vars has values state

-- the state is held twice
pub record Twice (props vars : ℕ) (had : List Bool) (values : List ℤ) (has : List Bool) (next : List ℤ) (s : State) : Type 0 where
  pub old : Holds props vars had values s
  pub new : Holds props vars has next s

module _ {props vars : ℕ} {has : List Bool} {values : List ℤ} {s : State} (w : Holds props vars has values s) where
  holds_row : Row vars values s.val
  holds_row = record { long = w.long_values; same = w.same; size = λ v h. omega (arith, w.small v h) }

  pub holds_state : StateRow (ranges_of props vars) has values s
  holds_state = record { long = w.long_has; has = w.truths; row = holds_row }

  pub holds_small : (v : ℕ) → v < vars → nat_abs (get_or values v (pos 0)) ≤ 1_000_000
  holds_small v h = rw (w.same v h) (w.small v h)

-- ---- the move

-- block b stands in the part, behind its first byte
pub record Chosen (part : List ℕ) (props vars : ℕ) (b : Block) : Type 0 where
  pub left : Left (ranges_of props vars) part 1 b
  pub once : Once b

-- some block stands there, and the arrays hold some state
pub record Movable (part : List ℕ) (props vars : ℕ) (had : List Bool) (values : List ℤ) (has : List Bool) (next : List ℤ) : Type 0 where
  pub block : Block
  pub over : State
  pub chosen : Chosen part props vars block
  pub holds : Twice props vars had values has next over

-- what becomes of a move: it is made, or why not
abbrev pub Turn : Type 0
Turn = Result (Unit {0}) Fault

unfoldable pub turn_fault : Turn → Option Fault
turn_fault (Ok made) = none
turn_fault (Err f) = some f

-- what became of block b in state s: its fault, or the arrays hold the state after it
pub record Became (props vars : ℕ) (s : State) (b : Block) (o : Option Fault) (had : List Bool) (values : List ℤ) (has : List Bool) (next : List ℤ) (r : Turn) : Type 0 where
  pub fault : turn_fault r ≡ o
  pub after : turn_fault r ≡ none → Twice props vars had values has next (real b s)

-- in every reading
module _ (part : List ℕ) (props vars : ℕ) (had : List Bool) (values : List ℤ) (has : List Bool) (next : List ℤ) where
  pub record Moved (had' : List Bool) (values' : List ℤ) (has' : List Bool) (next' : List ℤ) (r : Turn) : Type 0 where
    pub is :
        (b : Block) (s : State)
        → Chosen part props vars b
        → Twice props vars had values has next s
        → Became props vars s b (block_fault paper vars s b) had' values' has' next' r

-- ---- its run

-- a block is run on `has` and `next`, its conditions over `had` and `values`
pub record Triable (part : List ℕ) (had : List Bool) (values : List ℤ) (has : List Bool) (next : List ℤ) : Type 0 where
  pub runnable : Runnable part values has next
  pub row : StateRow runnable.ranges had values runnable.over

-- whether its conditions hold; where they do, it is run
pub record Tried (part : List ℕ) (had : List Bool) (values : List ℤ) (has : List Bool) (next : List ℤ) (has' : List Bool) (next' : List ℤ) (r : Bool) : Type 0 where
  pub test : IsApplicable part had values r
  pub ran : r ≡ true → Ran part values has next has' next'

-- the new values are taken over, if all are in range
pub record KeptValues (values : List ℤ) (next : List ℤ) (vars : ℕ) (r : Bool) : Type 0 where
  pub test : r ≡ all_in_range next vars
  pub kept : r ≡ true → (v : ℕ) → v < vars → get_or values v (pos 0) ≡ get_or next v (pos 0)

module _ {part : List ℕ} {props vars : ℕ} {had : List Bool} {values : List ℤ} {has : List Bool} {next : List ℤ} where
  move_runs : {b : Block} {s : State} → Chosen part props vars b → Twice props vars had values has next s → Runs part values has next (ranges_of props vars) b s
  move_runs c w =
      record {
        left = c.left;
        once = c.once;
        row = holds_row w.old;
        truths = w.new.truths;
        next_row = w.new.same;
        long_has = w.new.long_has;
        long_next = w.new.long_values;
      }

  pub move_triable : Movable part props vars had values has next → Triable part had values has next
  move_triable m =
      record {
        runnable = record { ranges = ranges_of props vars; block = m.block; over = m.over; runs = move_runs m.chosen m.holds };
        row = holds_state m.holds.old;
      }

  module _ {has' : List Bool} {next' : List ℤ} {t : Bool} (q : Tried part had values has next has' next' t) where
    tested : {b : Block} {s : State} → Chosen part props vars b → Twice props vars had values has next s → t ≡ applicable s b
    tested {b} {s} c w = q.test.is (ranges_of props vars) b s c.left (holds_state w.old)

    -- "not allowed"
    pub moved_refused : t ≡ false → {had'' : List Bool} {values'' : List ℤ} {has'' : List Bool} {next'' : List ℤ} → Moved part props vars had values has next had'' values'' has'' next'' (Err fault.NotAllowed)
    unfolding turn_fault block_fault
    moved_refused e =
        record {
          is = λ b s c w. record { fault = rw (block_fault, sym (tested c w) ∙ e) refl; after = λ f. absurd (some_none f) };
        }
      where
        some_none : some fault.NotAllowed ≡ none → ⊥
        some_none f = let z : ◌≡◌ {A = ℕ} 0 1 = cc in omega arith

    module _ (met : t ≡ true) {values' : List ℤ} {u : Bool} (p : KeptValues values' next' vars u) where
      reached : {b : Block} {s : State} → Chosen part props vars b → Twice props vars had values has next s → Reached (ranges_of props vars) b s has' next'
      reached {b} {s} c w = (q.ran met).is (ranges_of props vars) b s (move_runs c w)

      range_same : {b : Block} {s : State} → Chosen part props vars b → Twice props vars had values has next s → u ≡ all_below (λ v. value_in_range paper ((real b s).val v)) vars
      unfolding all_in_range
      range_same {b} {s} c w =
          p.test
          ∙ all_same (λ v. value_in_range paper (get_or next' v (pos 0))) (λ v. value_in_range paper ((real b s).val v)) vars
          (λ v h. ap (value_in_range paper) ((reached c w).values v h))

      fault_is :
          {b : Block} {s : State}
          → Chosen part props vars b
          → Twice props vars had values has next s
          → block_fault paper vars s b ≡ elim u [ true ↦ none | false ↦ some fault.OutOfRange ]
      unfolding block_fault range_fault
      fault_is c w = rw (block_fault, sym (tested c w) ∙ met, range_fault, sym (range_same c w)) refl

      -- "out of range"
      pub moved_beyond : u ≡ false → {had'' : List Bool} {values'' : List ℤ} {has'' : List Bool} {next'' : List ℤ} → Moved part props vars had values has next had'' values'' has'' next'' (Err fault.OutOfRange)
      unfolding turn_fault
      moved_beyond e =
          record {
            is = λ b s c w. record { fault = sym (fault_is c w ∙ rw e refl); after = λ f. absurd (some_none f) };
          }
        where
          some_none : some fault.OutOfRange ≡ none → ⊥
          some_none f = let z : ◌≡◌ {A = ℕ} 0 1 = cc in omega arith

      pub moved_made :
          u ≡ true
          → {had' : List Bool}
          → ((i : ℕ) → i < props → get_or had' i false ≡ get_or has' i false)
          → length had' ≡ length had
          → length values' ≡ length values
          → length has' ≡ length has
          → length next' ≡ length next
          → Moved part props vars had values has next had' values' has' next' (Ok tt)
      unfolding turn_fault
      moved_made e {had'} truths lo lv ln lm =
          record {
            is = λ b s c w.
                let small : (v : ℕ) → v < vars → nat_abs ((real b s).val v) ≤ 1_000_000 =
                λ v h. rw (sym ((reached c w).values v h)) (all_small next' vars (sym p.test ∙ e) v h) in
                record {
                  fault = sym (fault_is c w ∙ rw e refl);
                  after = λ f.
                      record {
                        old =
                            record {
                              long_has = omega (arith, lo, w.old.long_has);
                              long_values = omega (arith, lv, w.old.long_values);
                              truths = λ i h. truths i h ∙ (reached c w).truths i h;
                              same = λ v h. p.kept e v h ∙ (reached c w).values v h;
                              small = small;
                            };
                        new =
                            record {
                              long_has = omega (arith, ln, w.new.long_has);
                              long_values = omega (arith, lm, w.new.long_values);
                              truths = (reached c w).truths;
                              same = (reached c w).values;
                              small = small;
                            };
                      };
                };
          }
