-- `beyond` meets its contract. Assumes nothing.
use native.Mathlib.Omega.{arith}
use Rattle.ceiling.specs.Heads.{too_short, moves_beyond, written_beyond, normal_beyond}
use Rattle.ceiling.proofs.beyond.Goals as goal

pub returns-then-table-lt4 : goal.returns-then-table-lt4
returns-then-table-lt4 c = too_short _ _ c.if-table-lt4.true

pub returns-then-c-table : goal.returns-then-c-table
returns-then-c-table c = moves_beyond _ _ (record { each = λ i. omega (arith, c.shared_slice_known-1.given i) }) c.if-c-table.true

pub returns-then-table-eq84 : goal.returns-then-table-eq84
returns-then-table-eq84 c = written_beyond _ _ (record { each = λ i. omega (arith, c.shared_slice_known-3-1.given i) }) c.if-c-table.false c.if-table-eq84.true

pub returns : goal.returns
returns c = normal_beyond _ _ (record { each = λ i. omega (arith, c.shared_slice_known-3-1.given i) }) c.if-c-table.false c.if-table-eq84.false
