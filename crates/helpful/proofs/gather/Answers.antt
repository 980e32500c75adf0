-- `gather` meets its contract. The invariant: in every reading, the set is that of the moves from `b` on, the lowest bit for `b`.
-- Assumes nothing.
use Prim.Native.Nat.{ℕ, ◌+◌, ◌*◌, ◌-◌, ◌^◌, ◌<◌}
use native.Mathlib.Nat.{add_comm, zero-add}
use native.Mathlib.Omega.{arith}
use mathlib.Core.Path.{◌≡◌, sym, ap, ◌∙◌, subst}
use mathlib.Core.List.{List}
use mathlib.Core.Bool.{Bool, true, false, cond, ◌&&◌}
use lib.IntN.{ℤ}
use Rattle.integer.specs.Linear.{back}
use Rattle.model.specs.Task.{normal}
use Rattle.model.specs.Move.{move_at}
use Rattle.block.specs.Parts.{ranges_of}
use Rattle.block.specs.Items.{Left}
use Rattle.stored_layer.specs.View.{held_by, held_at}
use Rattle.helpful.specs.Sets.{Gatherable, helpful_in, set_from, set_none, set_all, set_fits, set_next, unused, tested}
use Rattle.helpful.proofs.gather.Goals as goal
use Rattle.helpful.proofs.gather.Goals.{In-loop-b, After-held, After-part, After-supports}

pub loop-b-init : goal.loop-b-init
loop-b-init c x = set_none x

-- the set, doubled and with a bit more, fits
fits : (c : In-loop-b) → 2 * c.loop-b.set + 1 < 2 ^ 64
fits c = let x = c.requires in set_fits x c.loop-b.b c.loop-b-test.true c.loop-b.auto.b (c.loop-b.invariant x)

below : (c : In-loop-b) → c.loop-b.b - 1 < c.args.blocks.now.moves
below c = omega (arith, c.loop-b-test.true, c.loop-b.auto.b)

-- the set with the bit of this move
next :
    (c : In-loop-b) (x : Gatherable c.args.blocks.now.table.now c.args.blocks.now.marks.now c.args.wanted.now c.args.targets.now c.args.layers.now c.args.row.now c.args.blocks.now.props c.args.blocks.now.moves) (t : Bool)
    → helpful_in x (move_at x.task (c.loop-b.b - 1)) ≡ t
    → cond t 1 0 + 2 * c.loop-b.set ≡ set_from x (c.loop-b.b - 1)
next c x t e = set_next x c.loop-b.b c.loop-b-test.true c.loop-b.auto.b (c.loop-b.invariant x) t e

held_is : (c : After-held) → c.held.result ≡ held_at c.args.layers.now c.args.blocks.now.props 0 (c.loop-b.b - 1)
unfolding held_at
held_is c = c.held.ensures ∙ ap (λ (e : ℤ). held_by e 0) (back _ c.held-arg-1.given)

move_left :
    (c : After-part) (x : Gatherable c.args.blocks.now.table.now c.args.blocks.now.marks.now c.args.wanted.now c.args.targets.now c.args.layers.now c.args.row.now c.args.blocks.now.props c.args.blocks.now.moves)
    → Left (ranges_of normal x.task) c.part.result.now 1 (move_at x.task (c.loop-b.b - 1))
move_left c x =
    subst (λ (l : List ℕ). Left (ranges_of normal x.task) l 1 (move_at x.task (c.loop-b.b - 1))) (sym c.part.ensures.0)
    (x.parts.move (c.loop-b.b - 1) (omega (arith, below (goal.at.After-part c).In-loop-b, x.many)))

-- for a move usable in layer 0, the test of its items decides
decided :
    (c : After-supports) (x : Gatherable c.args.blocks.now.table.now c.args.blocks.now.marks.now c.args.wanted.now c.args.targets.now c.args.layers.now c.args.row.now c.args.blocks.now.props c.args.blocks.now.moves)
    → helpful_in x (move_at x.task (c.loop-b.b - 1)) ≡ c.supports.result
decided c x =
    tested x (below (goal.at.After-supports c).In-loop-b) (held_is (goal.at.After-supports c).After-held)
    (c.supports.ensures.is (ranges_of normal x.task) (move_at x.task (c.loop-b.b - 1)) (x.over, x.wants) (move_left (goal.at.After-supports c).After-part x) x.scene)
    ∙ ap (λ (u : Bool). u && c.supports.result) c.if-not-held.false

pub overflow_mul-set : goal.overflow_mul-set
overflow_mul-set c = omega (arith, fits (goal.at.overflow_mul-set c).In-loop-b)

pub loop-b-preserved-then-not-held : goal.loop-b-preserved-then-not-held
loop-b-preserved-then-not-held c x =
    let at = goal.at.loop-b-preserved-then-not-held c in
    sym (zero-add (2 * c.loop-b.set)) ∙ next at.In-loop-b x false (unused x (below at.In-loop-b) (held_is at.After-held) c.if-not-held.true)

pub loop-b-preserved-then-not-supports : goal.loop-b-preserved-then-not-supports
loop-b-preserved-then-not-supports c x =
    let at = goal.at.loop-b-preserved-then-not-supports c in
    sym (zero-add (2 * c.loop-b.set)) ∙ next at.In-loop-b x false (decided at.After-supports x ∙ c.if-not-supports.true)

pub overflow_add-set : goal.overflow_add-set
overflow_add-set c = omega (arith, fits (goal.at.overflow_add-set c).In-loop-b)

pub loop-b-preserved : goal.loop-b-preserved
loop-b-preserved c x =
    let at = goal.at.loop-b-preserved c in
    add_comm (2 * c.loop-b.set) 1 ∙ next at.In-loop-b x true (decided at.After-supports x ∙ c.if-not-supports.false)

pub part-requires : goal.part-requires
part-requires c = c.requires.parts.inside (c.loop-b.b - 1) (omega (arith, below (goal.at.part-requires c).In-loop-b, c.requires.many))

pub supports-requires : goal.supports-requires
supports-requires c =
    let x = c.requires in
    record { ranges = ranges_of normal x.task; block = move_at x.task (c.loop-b.b - 1); over = (x.over, x.wants); left = move_left (goal.at.supports-requires c).After-part x; scene = x.scene }

pub returns : goal.returns
returns c x = set_all x _ c.loop-b-test.false (c.loop-b.invariant x)
