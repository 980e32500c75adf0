-- `survey` meets its contract. The invariant: in every reading, the wants are those of layer `t`, the records of the layers from
-- `t` on are counted and, where they fit, kept, and once `t` is 0 the set is that of the helpful moves. Assumes nothing.
use Prim.Native.Nat.{ℕ, suc, ◌-◌, ◌≤◌, ◌<◌}
use native.Mathlib.Omega.{arith}
use mathlib.Core.Path.{◌≡◌, sym, ap, ◌∙◌, subst}
use lib.ListN.{length, length-replicate}
use Rattle.stored_layer.specs.Stored.{stored_moves}
use Rattle.descent.specs.Layers.{LayerDescended}
use Rattle.passes.specs.Passes.{Begun, walk_layer, walk_next, walk_long, walk_counted, Surveying, Gathered, survey_start, survey_down, survey_next, survey_few, survey_end, gather_start, walk_one, gather_one, gather_later}
use Rattle.passes.specs.Keeping.{kept_start, kept_down, kept_next, kept_end}
use Rattle.passes.proofs.survey.Goals as goal
use Rattle.passes.proofs.survey.Goals.{In-loop-t, After-descend-wants, then-t-eq1, else-t-eq1}

pub loop-t-init : goal.loop-t-init
loop-t-init c = (
  ap length c.no_counts-counts.ensures ∙ length-replicate {A = ℕ} 64 0,
  c.requires.1,
  λ x. (survey_start x.stored x.walked, kept_start x.stored c.requires.1, gather_start x.stored),
)

pub helpful_moves-helpful-requires : goal.helpful_moves-helpful-requires
helpful_moves-helpful-requires c =
    let x = c.requires.0 in
    walk_one x.stored c.if-t-eq1.true c.loop-t.auto.t (c.loop-t.invariant.2 x).0.walked

-- the layer below is one of the answer's
below : (c : In-loop-t) → c.loop-t.t - 1 < c.args.m
below c = omega (arith, c.loop-t-test.true, c.loop-t.auto.t)

so_far :
    (c : In-loop-t) (x : Begun c.args.blocks.now.table.now c.args.blocks.now.marks.now c.args.layers.now c.args.start.now c.args.blocks.now.props c.args.blocks.now.vars c.args.blocks.now.moves c.args.m c.args.wants)
    → Surveying x.stored (suc (c.loop-t.t - 1)) c.loop-t.wants c.loop-t.records
so_far c x = survey_down c.loop-t-test.true (c.loop-t.invariant.2 x).0

descended :
    (c : After-descend-wants) (x : Begun c.args.blocks.now.table.now c.args.blocks.now.marks.now c.args.layers.now c.args.start.now c.args.blocks.now.props c.args.blocks.now.vars c.args.blocks.now.moves c.args.m c.args.wants)
    → LayerDescended (walk_layer x.stored x.row (below (goal.at.After-descend-wants c).In-loop-t) (so_far (goal.at.After-descend-wants c).In-loop-t x).walked) c.descend-wants.result c.descend-wants.new.counts
descended c x = c.descend-wants.ensures (walk_layer x.stored x.row (below (goal.at.After-descend-wants c).In-loop-t) (so_far (goal.at.After-descend-wants c).In-loop-t x).walked)

counts_long : (c : After-descend-wants) → length c.descend-wants.new.counts ≡ 64
counts_long c =
    let x = c.requires.0 in
    let at = goal.at.After-descend-wants c in
    walk_long x.stored x.row (below at.In-loop-t) (so_far at.In-loop-t x).walked (descended c x)

pub descend-wants-requires : goal.descend-wants-requires
descend-wants-requires c =
    let at = goal.at.descend-wants-requires c in
    let x = c.requires.0 in
    (walk_layer x.stored x.row (below at.In-loop-t) (so_far at.In-loop-t x).walked, c.loop-t-test.true)

pub slice_bounds-count_taken-end : goal.slice_bounds-count_taken-end
slice_bounds-count_taken-end c = sym (counts_long (goal.at.slice_bounds-count_taken-end c).After-descend-wants)

pub count_taken-records-requires : goal.count_taken-records-requires
count_taken-records-requires c =
    let at = goal.at.count_taken-records-requires c in
    let few_moves : c.args.blocks.now.moves ≤ 64 = stored_moves c.requires.0.stored.memory in
    omega (arith, counts_long at.After-descend-wants, few_moves)

pub overflow_add-records : goal.overflow_add-records
overflow_add-records c =
    let at = goal.at.overflow_add-records c in
    let x = c.requires.0 in
    let w = (so_far at.In-loop-t x).walked in
    omega (arith, survey_few x.stored (survey_next x.stored (below at.In-loop-t) (so_far at.In-loop-t x) (walk_next x.stored x.row (below at.In-loop-t) w (descended at.After-descend-wants x)) (walk_counted x.stored x.row (below at.In-loop-t) w (descended at.After-descend-wants x)) c.count_taken-records.ensures.0))

pub slice_bounds-keep_records-end : goal.slice_bounds-keep_records-end
slice_bounds-keep_records-end c = sym (counts_long (goal.at.slice_bounds-keep_records-end c).After-descend-wants)

pub keep_records-requires : goal.keep_records-requires
keep_records-requires c =
    let at = goal.at.keep_records-requires c in
    let few_moves : c.args.blocks.now.moves ≤ 64 = stored_moves c.requires.0.stored.memory in
    (c.loop-t.invariant.1, omega (arith, counts_long at.After-descend-wants, few_moves), few_moves, omega (arith, c.count_taken-records.ensures.0))

pub loop-t-preserved : goal.loop-t-preserved
loop-t-preserved c =
    let at = goal.at.loop-t-preserved c in
    let gathered : (x : Begun c.args.blocks.now.table.now c.args.blocks.now.marks.now c.args.layers.now c.args.start.now c.args.blocks.now.props c.args.blocks.now.vars c.args.blocks.now.moves c.args.m c.args.wants) → Gathered x.stored (c.loop-t.t - 1) c.if-t-eq1.helpful =
    λ x. elim c.if-t-eq1.branch [
      | then-t-eq1 w ↦
          let one = (c.loop-t.invariant.2 x).0.walked in
          subst (Gathered x.stored (c.loop-t.t - 1)) (sym w.helpful-is)
          (gather_one x.stored w.if-t-eq1.true c.loop-t.auto.t one (w.helpful_moves-helpful.ensures (walk_one x.stored w.if-t-eq1.true c.loop-t.auto.t one)))
      | else-t-eq1 w ↦ gather_later x.stored c.loop-t-test.true w.if-t-eq1.false
    ] in (
      counts_long at.After-descend-wants,
      omega (arith, c.keep_records.auto.kept, c.loop-t.invariant.1),
      λ x.
          let counted = walk_counted x.stored x.row (below at.In-loop-t) (so_far at.In-loop-t x).walked (descended at.After-descend-wants x) in (
            survey_next x.stored (below at.In-loop-t) (so_far at.In-loop-t x) (walk_next x.stored x.row (below at.In-loop-t) (so_far at.In-loop-t x).walked (descended at.After-descend-wants x)) counted c.count_taken-records.ensures.0,
            kept_next x.stored (below at.In-loop-t) c.loop-t.invariant.1 (kept_down c.loop-t-test.true (c.loop-t.invariant.2 x).1) counted c.count_taken-records.ensures.0
                c.keep_records.ensures,
            gathered x,
          ),
    )

pub returns : goal.returns
returns c x =
    let l = c.loop-t in
    (survey_end x.stored _ (omega (arith, c.loop-t-test.false)) (l.invariant.2 x).0 (l.invariant.2 x).2, kept_end x.stored _ (omega (arith, c.loop-t-test.false)) (l.invariant.2 x).1)
