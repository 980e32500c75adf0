-- One move of an accepted table on a state that is held twice. Assumes nothing.
use Rattle.std.specs.Prelude.{ℕ, ◌≤◌, ◌<◌, Bool, List, ℤ, Err}
use native.Mathlib.Omega.{arith}
use Rattle.std.proofs.Math.Path.{◌≡◌, refl, sym, ap}
use Rattle.std.proofs.Common.{◌∙◌}
use Rattle.std.proofs.Math.Option.{none, some}
use borrow.Author.Tests.{lt-ltb, le-ltb}
use Rattle.std.proofs.Math.ListN.{length}
use Rattle.model.specs.Limits.{paper}
use Rattle.model.specs.Task.{written}
use Rattle.model.specs.Move.{State, move_at}
use Rattle.model.proofs.Theorems.Layers.NextLayer.{move_ok}
use Rattle.schedule.specs.declared.Fault.TheVariants as fault
use Rattle.schedule.specs.Check.{block_fault, fault_of}
use Rattle.table.specs.Outlines.{part_at, HeadRead}
use Rattle.reader.specs.Parts.{PartIn, outline_part}
use Rattle.block.specs.Parts.{move_left}
use Rattle.real_move.specs.Moving.{Twice, Chosen, Movable, Turn, turn_fault, Became, Moved}

-- an accepted written table, with the offsets of its blocks
abbrev pub Read : List ℕ → List ℕ → ℕ → ℕ → ℕ → Type 0
Read t marks props vars moves = HeadRead written t marks props vars moves

-- the table is accepted, and the arrays hold some state
pub record Turnable (t marks : List ℕ) (props vars moves : ℕ) (had : List Bool) (values : List ℤ) (has : List Bool) (next : List ℤ) : Type 0 where
  pub read : Read t marks props vars moves
  pub over : State
  pub holds : Twice props vars had values has next over

-- what became of move b, in every reading
module _ (t marks : List ℕ) (props vars moves b : ℕ) (had : List Bool) (values : List ℤ) (has : List Bool) (next : List ℤ) where
  pub record Turned (had' : List Bool) (values' : List ℤ) (has' : List Bool) (next' : List ℤ) (r : Turn) : Type 0 where
    pub is :
        (h : Read t marks props vars moves) (s : State)
        → Twice props vars had values has next s
        → let k = h.table.task in
        Became props vars s (move_at k b) (fault_of paper k s b) had' values' has' next' r

module _ {t marks : List ℕ} {props vars moves : ℕ} (h : Read t marks props vars moves) where
  pub few_props : props ≤ 120
  unfolding paper
  few_props = omega (arith, h.props_is, h.outline.ok.props)

  pub few_vars : vars ≤ 16
  unfolding paper
  few_vars = omega (arith, h.vars_is, h.outline.ok.vars)

  pub few_moves : moves ≤ 64
  unfolding paper
  few_moves = omega (arith, h.count, h.outline.ok.moves)

  -- "missing"
  pub missing : (s : State) {b : ℕ} → moves ≤ b → fault_of paper h.table.task s b ≡ some fault.Missing
  unfolding fault_of
  missing s {b} l = rw (fault_of, le-ltb b (length h.table.task.moves) (omega (arith, h.count))) refl

  -- the offsets of a block
  pub block_in : (b : ℕ) → b ≤ moves → PartIn t marks b
  block_in b l = outline_part h.outline b (omega (arith, h.count))

  pub turn_chosen : (b : ℕ) → b < moves → {part : List ℕ} → part ≡ part_at t marks b → Chosen part props vars (move_at h.table.task b)
  unfolding move_at
  turn_chosen b l f =
      rw f
      (record {
        left = rw (h.props_is, h.vars_is) (let i : b < length h.table.task.moves = omega (arith, h.count) in move_left h.outline.ok b i (h.outline.move b i));
        once = (move_ok h.outline.ok b (omega (arith, h.count))).once;
      })

module _ {t marks : List ℕ} {props vars moves b : ℕ} {had : List Bool} {values : List ℤ} {has : List Bool} {next : List ℤ} where
  -- "missing"
  pub turned_missing : moves ≤ b → {had' : List Bool} {values' : List ℤ} {has' : List Bool} {next' : List ℤ} → Turned t marks props vars moves b had values has next had' values' has' next' (Err fault.Missing)
  unfolding turn_fault fault_of
  turned_missing l =
      record {
        is = λ h s w.
            record {
              fault = sym (missing h s l);
              after = λ f. absurd (some_none f);
            };
      }
    where
      some_none : some fault.Missing ≡ none → ⊥
      some_none f = let z : ◌≡◌ {A = ℕ} 0 1 = cc in omega arith

  module _ (l : b < moves) {part : List ℕ} (f : part ≡ part_at t marks b) where
    pub turn_movable : Turnable t marks props vars moves had values has next → Movable part props vars had values has next
    turn_movable m =
        record { block = move_at m.read.table.task b; over = m.over; chosen = turn_chosen m.read b l f; holds = m.holds }

    pub turned_moved :
        {had' : List Bool} {values' : List ℤ} {has' : List Bool} {next' : List ℤ} {r : Turn}
        → Moved part props vars had values has next had' values' has' next' r
        → Turned t marks props vars moves b had values has next had' values' has' next' r
    unfolding fault_of
    turned_moved q =
        record {
          is = λ h s w.
              let m = q.is (move_at h.table.task b) s (turn_chosen h b l f) w in
              record { fault = m.fault ∙ known h s; after = m.after };
        }
      where
        known : (h : Read t marks props vars moves) (s : State) → block_fault paper vars s (move_at h.table.task b) ≡ fault_of paper h.table.task s b
        known h s =
            ap (λ (n : ℕ). block_fault paper n s (move_at h.table.task b)) h.vars_is
            ∙ sym (rw (fault_of, lt-ltb b (length h.table.task.moves) (omega (arith, h.count))) refl)
