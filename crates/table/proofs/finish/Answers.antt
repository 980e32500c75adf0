-- `finish` meets its contract: behind 45 the circle decides, elsewhere a command is due.
-- Assumes nothing.
use Prim.Native.Nat.{ℕ}
use mathlib.Core.Path.{◌≡◌, refl, ap, ◌∙◌, sym}
use mathlib.Core.Bool.{Bool, true, false, not}
use mathlib.Core.List.{List}
use Rattle.std.specs.Prelude.{Ok, Err}
use denote.Enum.Bare.{sameb}
use Rattle.command.specs.declared.Place.{Place}
use Rattle.command.specs.declared.Place.TheVariants.{Start, Preamble, InMove, InGoal, Finished}
use Rattle.command.specs.contracts.Place as code
use Rattle.circle.specs.Walks.{circular_in}
use Rattle.cursor.specs.declared.Cursor.{Cursor}
use Rattle.table.specs.Answer.{end_answer, accepted_answer}
use Rattle.table.proofs.finish.Goals as goal

-- every place but the last
due : (n : ℕ) (c : Cursor) (es : List Bool) (p : Place) → not (sameb code.the_type p Finished) ≡ true → Err (record { number = 2; place = n }) ≡ end_answer n p c es
unfolding end_answer
due n c es Start h = refl
due n c es Preamble h = refl
due n c es InMove h = refl
due n c es InGoal h = refl
due n c es Finished h = cc

last : (p : Place) → not (sameb code.the_type p Finished) ≡ false → p ≡ Finished
last Start h = cc
last Preamble h = cc
last InMove h = cc
last InGoal h = cc
last Finished h = refl

pub returns-then-ne : goal.returns-then-ne
returns-then-ne c = ap Err c.at.ensures ∙ due _ _ _ _ (sym c.ne.ensures ∙ c.if-ne.true)

pub returns-then-circular : goal.returns-then-circular
unfolding end_answer accepted_answer
returns-then-circular c =
    let finished = last c.args.c.place (sym c.ne.ensures ∙ c.if-ne.false) in
    let circle : circular_in c.args.edges.now c.args.c.vars ≡ true = sym c.circular.ensures ∙ c.if-circular.true in
    ap Err c.at-then-circular.ensures ∙ rw (finished, circle) refl

pub returns : goal.returns
unfolding end_answer accepted_answer
returns c =
    let finished = last c.args.c.place (sym c.ne.ensures ∙ c.if-ne.false) in
    let circle : circular_in c.args.edges.now c.args.c.vars ≡ false = sym c.circular.ensures ∙ c.if-circular.false in
    ap (λ (k : ℕ). Ok (record { kind = k; props = c.args.c.props; vars = c.args.c.vars; moves = c.args.c.moves })) c.kind_code.ensures
    ∙ rw (finished, circle) refl
