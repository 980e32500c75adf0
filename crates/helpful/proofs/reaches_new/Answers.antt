-- `reaches_new` meets its contract. Assumes nothing.
use native.Mathlib.Omega.{arith}
use mathlib.Core.Path.{◌≡◌, sym, ap, ◌∙◌}
use Rattle.integer.specs.Linear.{back, back_small}
use Rattle.model.specs.Layer.{Value, reaches, layer_value}
use Rattle.model.specs.Memory.{encode}
use Rattle.block.specs.Blocks.{layer_summable, layer_effect_value, effect_base}
use Rattle.targets.specs.Encoding.{is_free}
use Rattle.achievers.specs.Search.{demand_by, demand_code}
use Rattle.helpful.specs.Support.{new_free, new_had, new_tested}
use Rattle.helpful.proofs.reaches_new.Goals as goal

pub returns-then-is_free : goal.returns-then-is_free
returns-then-is_free c =
    let freed : c.is_free.result ≡ is_free c.args.target = c.is_free.ensures ∙ ap is_free (back c.args.target c.ranges.target.sfits) in
    record { is = λ k e l t effect row old target small. new_free l t e target small (sym (freed) ∙ c.if-is_free.true) }

pub returns-then-reaches : goal.returns-then-reaches
returns-then-reaches c =
    let freed : c.is_free.result ≡ is_free c.args.target = c.is_free.ensures ∙ ap is_free (back c.args.target c.ranges.target.sfits) in
    let reached : (x : Value) → c.args.old ≡ encode x → reaches x c.args.target ≡ c.reaches.result = λ x e. sym (c.reaches.ensures x (back c.args.old c.ranges.old.sfits ∙ e) ∙ ap (reaches x) (back c.args.target c.ranges.target.sfits)) in
    record {
      is =
          λ k e l t effect row old target small.
          new_had l t e target (sym (freed) ∙ c.if-is_free.false) (reached (l.val e.var) old ∙ c.if-reaches.true);
    }

pub layer_value-value-requires : goal.layer_value-value-requires
layer_value-value-requires c = rw (back_small c.args.base (omega (arith, effect_base c.requires.effect))) (layer_summable c.requires.effect.terms c.requires.values, effect_base c.requires.effect)

pub returns : goal.returns
returns c =
    let freed : c.is_free.result ≡ is_free c.args.target = c.is_free.ensures ∙ ap is_free (back c.args.target c.ranges.target.sfits) in
    let reached : (x : Value) → c.args.old ≡ encode x → reaches x c.args.target ≡ c.reaches.result = λ x e. sym (c.reaches.ensures x (back c.args.old c.ranges.old.sfits ∙ e) ∙ ap (reaches x) (back c.args.target c.ranges.target.sfits)) in
    record {
      is =
          λ k e l t effect row old target small.
          let value = layer_effect_value l row effect (rw (back_small c.args.base (omega (arith, effect_base effect))) at c.layer_value-value.ensures) in
          new_tested l t e target (sym (freed) ∙ c.if-is_free.false) (reached (l.val e.var) old ∙ c.if-reaches.false)
          (c.reaches-2.ensures (layer_value l e) (back c.layer_value-value.result c.layer_value-value.type_inv ∙ value.is)
          ∙ ap (reaches (layer_value l e)) (back c.demand.result c.demand.type_inv ∙ c.demand.ensures ∙ ap (demand_by c.args.kind) (back c.args.target c.ranges.target.sfits) ∙ demand_code e.kind c.args.target effect.kind));
    }
