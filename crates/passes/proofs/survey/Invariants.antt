-- `survey` meets its contract. The invariant: in every reading, the wants are those of layer `t`, the records of the layers from
-- `t` on are counted and, where they fit, kept, and once `t` is 0 the set is that of the helpful moves. Assumes nothing.
use mathlib.Core.Path.{◌≡◌}
use lib.ListN.{length}
use Rattle.records.specs.Records.{kept_bytes}
use Rattle.passes.specs.Passes.{Begun, Surveying, Gathered}
use Rattle.passes.specs.Keeping.{Kept}
use Rattle.passes.proofs.survey.Given as goal

abbrev pub invariant-loop-t : goal.invariant-loop-t
invariant-loop-t l = (length l.counts ≡ 64)
    × (kept_bytes ≡ length l.kept)
    × ((x : Begun l.blocks.table.now l.blocks.marks.now l.layers l.start l.blocks.props l.blocks.vars l.blocks.moves l.m l.initial.wants) → (Surveying x.stored l.t l.wants l.records) × (Kept x.stored l.t l.records l.kept) × Gathered x.stored l.t l.helpful)
