-- `kept_target` meets its contract. Assumes nothing.
use mathlib.Core.Path.{◌≡◌, sym, ap, ◌∙◌}
use Rattle.integer.specs.Linear.{back}
use Rattle.model.specs.Layer.{Value, reaches}
use Rattle.model.specs.Memory.{encode}
use Rattle.targets.specs.Carrying.{kept_reached, kept_low}
use Rattle.targets.proofs.kept_target.Goals as goal

pub returns-then-reaches : goal.returns-then-reaches
returns-then-reaches c x e =
    let reached : (x : Value) → c.args.value ≡ encode x → c.reaches.result ≡ reaches x c.args.target = λ x e. c.reaches.ensures x (back c.args.value c.ranges.value.sfits ∙ e) ∙ ap (reaches x) (back c.args.target c.ranges.target.sfits) in
    back c.args.target c.ranges.target.sfits ∙ kept_reached x c.args.target (sym (reached x e) ∙ c.if-reaches.true)

pub returns : goal.returns
returns c x e =
    let reached : (x : Value) → c.args.value ≡ encode x → c.reaches.result ≡ reaches x c.args.target = λ x e. c.reaches.ensures x (back c.args.value c.ranges.value.sfits ∙ e) ∙ ap (reaches x) (back c.args.target c.ranges.target.sfits) in
    kept_low x c.args.target (sym (reached x e) ∙ c.if-reaches.false)
