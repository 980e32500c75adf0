-- `put_kept` meets its contract: a term of weight 0 has no bytes. Assumes nothing.
use Prim.Native.Nat.{ℕ}
use mathlib.Core.Path.{ap₂, ◌∙◌}
use lib.IntN.{ℤ}
use Rattle.integer.specs.Linear.{back}
use Rattle.block.specs.Items.{first_term}
use Rattle.output.specs.Writing.{written_none, written_same}
use Rattle.normal_condition.specs.Signs.{bytes_dropped, bytes_kept}
use Rattle.normal_condition.proofs.Signed.{zero_size, other_size}
use Rattle.normal_condition.proofs.put_kept.Goals as goal

pub returns-then-weight-eq0 : goal.returns-then-weight-eq0
returns-then-weight-eq0 c =
    let a = c.args in
    written_same (written_none a.out.now a.at)
    (bytes_dropped (record { var = a.var; weight = a.weight }) (zero_size a.weight c.ranges.weight.sfits c.if-weight-eq0.true))

pub returns : goal.returns
returns c =
    let a = c.args in
    let value = back a.weight c.ranges.weight.sfits in
    let var_is = rw value at c.signed_var.ensures.0 in
    let weight_is = rw value at (c.signed_weight.ensures.0 a.var) in
    let told = rw (back c.signed_weight.result c.signed_weight.type_inv) at c.put_weight.ensures in
    written_same told
    (ap₂ (λ (v : ℕ) (z : ℤ). first_term (record { var = v; weight = z })) var_is weight_is
    ∙ bytes_kept (record { var = a.var; weight = a.weight }) (other_size a.weight c.ranges.weight.sfits c.if-weight-eq0.false))
