-- `draw_term` meets its contract: a term of weight 0 draws nothing. Assumes nothing.
use Prim.Native.Nat.{ℕ, ◌+◌, ◌*◌, ◌^◌, ◌<◌}
use native.Mathlib.Omega.{arith}
use mathlib.Core.Path.{◌≡◌, sym, ap, ◌∙◌}
use mathlib.Core.Bool.{true}
use mathlib.Core.List.{List}
use lib.Dec.{eqb}
use lib.IntN.{ℤ, nat_abs}
use lib.ListN.{set, take, drop}
use lib.Signed.{mag}
use mir.Syntax.{w64}
use mir.Val.{of_z}
use Rattle.std.proofs.lemmas.Bool.{eq-eqb, ne_eqb}
use Rattle.integer.specs.BigEndian.{signed}
use Rattle.integer.proofs.Operators.{zero_test}
use Rattle.advance.specs.Edges.{weightless, draw_weightless, draw_weight}
use Rattle.advance.proofs.draw_term.Goals as goal

-- the test on the signed local is the test on the weight's bytes
weight_test :
    (t : List ℕ) (at : ℕ) (w : ℤ) → mag w < 2 ^ 63 → w ≡ signed (take 2 (drop (at + 2) t)) → weightless t at ≡ eqb (of_z w64 w) 0
unfolding weightless
weight_test t at w h e = ap (λ (z : ℤ). eqb (nat_abs z) 0) (sym e) ∙ sym (zero_test w h)

pub returns-then-i16_at-eq0 : goal.returns-then-i16_at-eq0
returns-then-i16_at-eq0 c =
    let a = c.args in
    draw_weightless _ _ _ _ (weight_test a.table.now a.at c.i16_at.result c.i16_at.type_inv c.i16_at.ensures.0 ∙ eq-eqb _ _ c.if-i16_at-eq0.true)

pub overflow_mul-edges : goal.overflow_mul-edges
overflow_mul-edges c =
    let source : c.byte-source.result < 32 = omega (arith, c.byte-source.ensures.0, c.requires.2) in
    omega (arith, source)

pub overflow_add-edges : goal.overflow_add-edges
overflow_add-edges c =
    let source : c.byte-source.result < 32 = omega (arith, c.byte-source.ensures.0, c.requires.2) in
    omega (arith, source)

pub bounds-edges-source : goal.bounds-edges-source
bounds-edges-source c =
    let source : c.byte-source.result < 32 = omega (arith, c.byte-source.ensures.0, c.requires.2) in
    omega (arith, source)

pub returns : goal.returns
returns c =
    let a = c.args in
    ap (λ (x : ℕ). set a.edges.now (x * 32 + a.var) true) c.byte-source.ensures.0
    ∙ draw_weight a.table.now a.at a.var a.edges.now
    (weight_test a.table.now a.at c.i16_at.result c.i16_at.type_inv c.i16_at.ensures.0 ∙ ne_eqb _ _ c.if-i16_at-eq0.false)
