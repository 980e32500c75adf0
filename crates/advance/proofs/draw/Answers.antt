-- `draw` meets its contract. The loop has drawn the edges of the first i terms.
-- Assumes nothing.
use Prim.Native.Nat.{ℕ, ◌+◌, ◌*◌}
use mathlib.Core.Path.{◌≡◌, refl, ap, ◌∙◌}
use native.Mathlib.Omega.{arith}
use native.Mathlib.Numerals.{add-one}
use Rattle.advance.specs.Edges.{draw_term, draw, draw_other, draw_assign}
use Rattle.advance.proofs.draw.Goals as goal

pub returns-then-kind-gt0 : goal.returns-then-kind-gt0
returns-then-kind-gt0 c = draw_other _ _ _ _ _ _ c.if-kind-gt0.true

pub loop-i-init : goal.loop-i-init
unfolding draw
loop-i-init c = refl

pub draw_term-requires : goal.draw_term-requires
draw_term-requires c = (omega (arith, c.loop-i-test.true), c.requires.1, c.requires.2 c.loop-i.i c.loop-i-test.true)

pub loop-i-preserved : goal.loop-i-preserved
unfolding draw
loop-i-preserved c =
    let i = c.loop-i.i in
    rw (add-one i) (c.draw_term.ensures ∙ ap (draw_term c.args.table.now (c.args.from + 4 * i) c.args.var) c.loop-i.invariant)

pub returns : goal.returns
returns c =
    let end : c.loop-i.i ≡ c.args.n = omega arith in
    let assign : c.args.kind ≡ 0 = omega (arith, c.if-kind-gt0.false) in
    c.loop-i.invariant
    ∙ ap (λ (k : ℕ). draw c.args.table.now c.args.from c.args.var k c.args.edges.now) (end)
    ∙ draw_assign _ _ _ _ _ _ (assign)
