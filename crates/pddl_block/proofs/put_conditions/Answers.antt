-- `put_conditions` meets its contract: the walk over the items, of which each writes its condition. Assumes nothing.
use Rattle.std.proofs.Common.{rules, refl, of_calls}
use Rattle.model.specs.Pddl.{formulas_of}
use Rattle.pddl_block.specs.Rows.{rows, condition_rows, conditions_append}
use Rattle.pddl_block.proofs.put_conditions.Goals as goal

pub put_items-requires : goal.put_items-requires
unfolding condition_rows rows formulas_of
put_items-requires c =
    let line = c.args.line.now in
    record {
      text = condition_rows line;
      puts = record { none = refl; append = conditions_append line; writes = λ i out at next after p. search of_calls };
      may = λ i out at w r. search rules;
      printable = c.requires;
    }

pub returns : goal.returns
unfolding condition_rows rows formulas_of
returns c =
    let line = c.args.line.now in
    c.put_items.ensures (condition_rows line)
    (record { none = refl; append = conditions_append line; writes = λ i out at next after p. search of_calls })
