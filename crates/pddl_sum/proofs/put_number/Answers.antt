-- `put_number` meets its contract, by the sign. Assumes nothing.
use native.Mathlib.Omega.{arith}
use mathlib.Core.Path.{◌≡◌, sym, ap, ◌∙◌}
use lib.IntN.{nat_abs}
use mir.Syntax.{w64}
use mir.Val.{to_z, of_z}
use Rattle.integer.specs.Linear.{back, lt_true, lt_false}
use Rattle.model.specs.Ascii.{ascii}
use Rattle.model.specs.Listing.{decimal}
use Rattle.output.specs.Writing.{written_join, written_same, room_same, room_next}
use Rattle.pddl_sum.specs.Sums.{number_negative, number_nonneg}
use Rattle.pddl_sum.proofs.put_number.Goals as goal

pub put_decimal-requires : goal.put_decimal-requires
unfolding ascii
put_decimal-requires c =
    let value : to_z w64 (of_z w64 c.args.z) ≡ c.args.z = back c.args.z c.ranges.z.sfits in
    let size : c.unsigned_abs-size.result ≡ nat_abs c.args.z = c.unsigned_abs-size.ensures.value ∙ ap nat_abs value in
    let signed = number_negative c.args.z (lt_true _ _ (rw value at c.if-z-lt0.true)) in
    rw size (omega (arith, (room_next (decimal (nat_abs c.args.z)) c.put_byte-digits.ensures (room_same c.requires.1 signed)).short))

pub returns-then-z-lt0 : goal.returns-then-z-lt0
unfolding ascii
returns-then-z-lt0 c =
    let value : to_z w64 (of_z w64 c.args.z) ≡ c.args.z = back c.args.z c.ranges.z.sfits in
    let size : c.unsigned_abs-size.result ≡ nat_abs c.args.z = c.unsigned_abs-size.ensures.value ∙ ap nat_abs value in
    let signed = number_negative c.args.z (lt_true _ _ (rw value at c.if-z-lt0.true)) in
    written_same (written_join c.put_byte-digits.ensures (rw size at c.put_decimal.ensures)) (sym signed)

pub put_decimal-requires-2 : goal.put_decimal-requires-2
put_decimal-requires-2 c =
    let value : to_z w64 (of_z w64 c.args.z) ≡ c.args.z = back c.args.z c.ranges.z.sfits in
    let size : c.unsigned_abs-size.result ≡ nat_abs c.args.z = c.unsigned_abs-size.ensures.value ∙ ap nat_abs value in
    rw size (omega (arith, (room_same c.requires.1 (number_nonneg c.args.z (lt_false _ _ (rw value at c.if-z-lt0.false)))).short))

pub returns : goal.returns
returns c =
    let value : to_z w64 (of_z w64 c.args.z) ≡ c.args.z = back c.args.z c.ranges.z.sfits in
    let size : c.unsigned_abs-size.result ≡ nat_abs c.args.z = c.unsigned_abs-size.ensures.value ∙ ap nat_abs value in
    written_same (rw size at c.put_decimal-2.ensures) (sym (number_nonneg c.args.z (lt_false _ _ (rw value at c.if-z-lt0.false))))
