-- `walk` meets its contract: both hold the state that the bytes stand for. Assumes nothing.
use Rattle.std.proofs.lemmas.Result.{err_from_is_err_and}
use Rattle.model.specs.StateTable.{state_of}
use Rattle.transition.specs.Turns.{few_props, few_vars}
use Rattle.transition.proofs.walk.Goals as goal

pub load-requires : goal.load-requires
load-requires c =
    let p = c.requires in
    record { accepted = p.1; few_props = few_props p.0; few_vars = few_vars p.0 }

pub make_moves-requires : goal.make_moves-requires
make_moves-requires c =
    record {
      read = c.requires.0;
      over = state_of c.args.blocks.now.props c.args.state.now;
      holds = record { old = c.load.ensures; new = c.load.ensures };
    }

pub returns-in_err-make_moves : goal.returns-in_err-make_moves
returns-in_err-make_moves c =
    let p = err_from_is_err_and c.from_residual.result c.from_residual.ensures.1 in
    rw (p.1, p.2)
    (record { is = λ h. c.in_err-make_moves.ensures.is h _ (record { old = c.load.ensures; new = c.load.ensures }) })

pub returns : goal.returns
returns c =
    record { is = λ h. c.in_ok-make_moves.ensures.is h _ (record { old = c.load.ensures; new = c.load.ensures }) }
