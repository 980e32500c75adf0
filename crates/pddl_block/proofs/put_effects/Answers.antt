-- `put_effects` meets its contract: the walk over the items, of which each writes its effect. Assumes nothing.
use Rattle.std.proofs.Common.{rules, refl, of_calls}
use Rattle.model.specs.Pddl.{changes_of}
use Rattle.pddl_block.specs.Rows.{rows, effect_rows, effects_append}
use Rattle.pddl_block.proofs.put_effects.Goals as goal

pub put_items-requires : goal.put_items-requires
unfolding effect_rows rows changes_of
put_items-requires c =
    let line = c.args.line.now in
    record {
      text = effect_rows line;
      puts = record { none = refl; append = effects_append line; writes = λ i out at next after p. search of_calls };
      may = λ i out at w r. search rules;
      printable = c.requires;
    }

pub returns : goal.returns
unfolding effect_rows rows changes_of
returns c =
    let line = c.args.line.now in
    c.put_items.ensures (effect_rows line)
    (record { none = refl; append = effects_append line; writes = λ i out at next after p. search of_calls })
