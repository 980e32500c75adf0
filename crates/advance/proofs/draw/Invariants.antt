-- `draw` meets its contract. The loop has drawn the edges of the first i terms.
-- Assumes nothing.
use mathlib.Core.Path.{◌≡◌}
use Rattle.advance.specs.Edges.{draw}
use Rattle.advance.proofs.draw.Given as goal

abbrev pub invariant-loop-i : goal.invariant-loop-i
invariant-loop-i l = l.edges ≡ draw l.table l.from l.var l.i l.initial.edges
