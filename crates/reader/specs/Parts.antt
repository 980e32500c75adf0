-- A part of a table: which bytes, and where they lie. Assumes nothing.
use Rattle.std.specs.Prelude.{ℕ, ◌+◌, ◌-◌, ◌≤◌, ◌<◌, ◌≡◌, List, length, get_or, take, drop}
use Rattle.std.proofs.Common.{arith}
use Rattle.std.specs.Borrow.{Bor}
use Rattle.model.specs.Task.{Form, Task}
use Rattle.table.specs.Outlines.{Outline}

-- "a part of the lent table, neither copy nor offsets": the part lies in the table's memory, `from` bytes behind its start
pub record LiesAt (table : Bor (List ℕ)) (from : ℕ) (part : Bor (List ℕ)) : Type 0 where
  pub memory : part.ref_ptr.0 ≡ table.ref_ptr.0
  pub offset : part.ref_ptr.1 ≡ table.ref_ptr.1 + from

-- the table's bytes from one offset up to another, where they lie
pub record IsCut (table : Bor (List ℕ)) (from to : ℕ) (part : Bor (List ℕ)) : Type 0 where
  pub bytes : part.now ≡ take (to - from) (drop from table.now)
  pub lies : LiesAt table from part

-- the marks of block b lie in order within the table
pub record PartIn (table marks : List ℕ) (b : ℕ) : Type 0 where
  pub room : b + 1 < length marks
  pub rises : get_or marks b 0 ≤ get_or marks (b + 1) 0
  pub within : get_or marks (b + 1) 0 ≤ length table

-- the marks of an outlined table do, for each move and for the goal
pub outline_part : {f : Form} {table marks : List ℕ} {k : Task} → Outline f table marks k → (b : ℕ) → b ≤ length k.moves → PartIn table marks b
outline_part o b l =
    record {
      room = omega (arith, o.long);
      rises = o.ordered b l;
      within = o.within b l;
    }
