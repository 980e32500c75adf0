-- `take_in` meets its contract. Assumes nothing.
use Rattle.layer_moves.specs.UsingMoves.{IsUsableAgain, usable_before, usable_tested, takeable_testable, takeable_appliable, taken_usable, taken_unusable}
use Rattle.layer_moves.proofs.take_in.Goals as goal
use Rattle.layer_moves.proofs.take_in.Goals.{then-before, else-before}

pub usable-usable-requires : goal.usable-usable-requires
usable-usable-requires c = takeable_testable c.requires

pub apply-requires : goal.apply-requires
apply-requires c = takeable_appliable c.requires

pub returns-then-usable : goal.returns-then-usable
returns-then-usable c =
    let told : IsUsableAgain c.args.part.now c.args.before c.args.layer.now.has c.args.layer.now.row c.if-before.usable = elim c.if-before.branch [
      | then-before w ↦ usable_before w.if-before.true w.usable-is
      | else-before w ↦ usable_tested w.usable-usable.ensures w.usable-is
    ] in
    taken_usable (told) c.if-usable.true c.apply.ensures

pub returns-else-usable : goal.returns-else-usable
returns-else-usable c =
    let told : IsUsableAgain c.args.part.now c.args.before c.args.layer.now.has c.args.layer.now.row c.if-before.usable = elim c.if-before.branch [
      | then-before w ↦ usable_before w.if-before.true w.usable-is
      | else-before w ↦ usable_tested w.usable-usable.ensures w.usable-is
    ] in
    taken_unusable (told) c.if-usable.false
