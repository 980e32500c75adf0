-- `checked` meets its contract: the checks in their order, each with the outcomes of those before it.
-- Assumes nothing.
use mathlib.Core.Path.{subst, ◌≡◌, sym, ap, ◌∙◌}
use Prim.Native.Nat.{◌<◌, ℕ, ◌+◌, ◌≤◌}
use mathlib.Core.Bool.{true, false}
use native.Mathlib.Omega.{arith}
use lib.Dec.{ltb}
use lib.ListN.{length}
use borrow.Author.Tests.{lt-ltb, le-ltb}
use Rattle.model.specs.Command.{width}
use Rattle.std.specs.Prelude.{Err}
use Rattle.command.specs.Names.{place_of, command_is, wanted_of}
use Rattle.command.specs.Checks.{misplaced, miscounted, closes_idle}
use Rattle.cursor.specs.State.{wrong_at, cursor_refusal}
use Rattle.cursor.proofs.State.{order_3, order_2, order_6, order_16, order_4, order_5, order_passes}
use Rattle.cursor.proofs.Passing.{wrong_near}
use Rattle.cursor.proofs.checked.Goals as goal

pub returns-then-misplaced : goal.returns-then-misplaced
unfolding cursor_refusal
returns-then-misplaced c = ap Err c.at.ensures ∙ order_3 _ _ _ _ _ _ _ (sym c.misplaced.ensures ∙ c.if-misplaced.true)

pub returns-then-table-at : goal.returns-then-table-at
unfolding cursor_refusal
returns-then-table-at c =
    let placed : misplaced (wanted_of c.args.wanted) (place_of c.args.c.place) c.args.c.terms (command_is c.args.command) ≡ false = sym c.misplaced.ensures ∙ c.if-misplaced.false in
    let short : length c.args.table.now < c.args.c.at + width (command_is c.args.command) = omega (arith, c.width.ensures, c.if-table-at.true) in
    let cut : ltb (length c.args.table.now) (c.args.c.at + width (command_is c.args.command)) ≡ true = lt-ltb _ _ (short) in
    ap Err c.at-then-table-at.ensures ∙ order_2 _ _ _ _ _ _ _ (placed) (cut)

pub returns-then-miscounted : goal.returns-then-miscounted
unfolding cursor_refusal
returns-then-miscounted c =
    let placed : misplaced (wanted_of c.args.wanted) (place_of c.args.c.place) c.args.c.terms (command_is c.args.command) ≡ false = sym c.misplaced.ensures ∙ c.if-misplaced.false in
    let room : c.args.c.at + width (command_is c.args.command) ≤ length c.args.table.now = omega (arith, c.width.ensures, c.if-table-at.false, c.requires.inside) in
    let uncut : ltb (length c.args.table.now) (c.args.c.at + width (command_is c.args.command)) ≡ false = le-ltb _ _ (room) in
    ap Err c.at-then-miscounted.ensures
    ∙ order_6 _ _ _ _ _ _ _ (placed) (uncut)
    (sym c.miscounted.ensures ∙ c.if-miscounted.true)

pub returns-then-closes_idle : goal.returns-then-closes_idle
unfolding cursor_refusal
returns-then-closes_idle c =
    let placed : misplaced (wanted_of c.args.wanted) (place_of c.args.c.place) c.args.c.terms (command_is c.args.command) ≡ false = sym c.misplaced.ensures ∙ c.if-misplaced.false in
    let room : c.args.c.at + width (command_is c.args.command) ≤ length c.args.table.now = omega (arith, c.width.ensures, c.if-table-at.false, c.requires.inside) in
    let uncut : ltb (length c.args.table.now) (c.args.c.at + width (command_is c.args.command)) ≡ false = le-ltb _ _ (room) in
    let counted : miscounted c.args.c.moves c.args.c.opened (command_is c.args.command) ≡ false = sym c.miscounted.ensures ∙ c.if-miscounted.false in
    ap Err c.at-then-closes_idle.ensures
    ∙ order_16 _ _ _ _ _ _ _ (placed) (uncut) (counted)
    (sym c.closes_idle.ensures ∙ c.if-closes_idle.true)

pub wrong_operand-wrong-requires : goal.wrong_operand-wrong-requires
wrong_operand-wrong-requires c =
    let room : c.args.c.at + width (command_is c.args.command) ≤ length c.args.table.now = omega (arith, c.width.ensures, c.if-table-at.false, c.requires.inside) in
    room

pub overflow_add-at : goal.overflow_add-at
overflow_add-at c =
    let near : c.wrong_operand-wrong.result ≤ 3 = subst (λ (n : ℕ). n ≤ 3) (sym c.wrong_operand-wrong.ensures) (wrong_near _ _ _ _ _ _) in
    omega (arith, near)

pub returns-then-wrong-gt0 : goal.returns-then-wrong-gt0
unfolding cursor_refusal wrong_at
returns-then-wrong-gt0 c =
    let placed : misplaced (wanted_of c.args.wanted) (place_of c.args.c.place) c.args.c.terms (command_is c.args.command) ≡ false = sym c.misplaced.ensures ∙ c.if-misplaced.false in
    let room : c.args.c.at + width (command_is c.args.command) ≤ length c.args.table.now = omega (arith, c.width.ensures, c.if-table-at.false, c.requires.inside) in
    let uncut : ltb (length c.args.table.now) (c.args.c.at + width (command_is c.args.command)) ≡ false = le-ltb _ _ (room) in
    let counted : miscounted c.args.c.moves c.args.c.opened (command_is c.args.command) ≡ false = sym c.miscounted.ensures ∙ c.if-miscounted.false in
    let busy : closes_idle (wanted_of c.args.wanted) (place_of c.args.c.place) c.args.c.active (command_is c.args.command) ≡ false = sym c.closes_idle.ensures ∙ c.if-closes_idle.false in
    let wrong : 0 < wrong_at c.args.table.now c.args.c (command_is c.args.command) = subst (λ (n : ℕ). 0 < n) c.wrong_operand-wrong.ensures c.if-wrong-gt0.true in
    ap Err c.at-then-wrong-gt0.ensures
    ∙ ap (λ (n : ℕ). Err (record { number = 4; place = c.args.c.at + n })) c.wrong_operand-wrong.ensures
    ∙ order_4 _ _ _ _ _ _ _ (placed) (uncut) (counted) (busy) (wrong)

pub named_again-requires : goal.named_again-requires
unfolding wrong_at
named_again-requires c =
    let room : c.args.c.at + width (command_is c.args.command) ≤ length c.args.table.now = omega (arith, c.width.ensures, c.if-table-at.false, c.requires.inside) in
    let ranged : wrong_at c.args.table.now c.args.c (command_is c.args.command) ≡ 0 = sym c.wrong_operand-wrong.ensures ∙ omega (arith, c.if-wrong-gt0.false) in
    (c.requires, room, ranged)

pub returns-then-named_again : goal.returns-then-named_again
unfolding cursor_refusal wrong_at
returns-then-named_again c =
    let placed : misplaced (wanted_of c.args.wanted) (place_of c.args.c.place) c.args.c.terms (command_is c.args.command) ≡ false = sym c.misplaced.ensures ∙ c.if-misplaced.false in
    let room : c.args.c.at + width (command_is c.args.command) ≤ length c.args.table.now = omega (arith, c.width.ensures, c.if-table-at.false, c.requires.inside) in
    let uncut : ltb (length c.args.table.now) (c.args.c.at + width (command_is c.args.command)) ≡ false = le-ltb _ _ (room) in
    let counted : miscounted c.args.c.moves c.args.c.opened (command_is c.args.command) ≡ false = sym c.miscounted.ensures ∙ c.if-miscounted.false in
    let busy : closes_idle (wanted_of c.args.wanted) (place_of c.args.c.place) c.args.c.active (command_is c.args.command) ≡ false = sym c.closes_idle.ensures ∙ c.if-closes_idle.false in
    let ranged : wrong_at c.args.table.now c.args.c (command_is c.args.command) ≡ 0 = sym c.wrong_operand-wrong.ensures ∙ omega (arith, c.if-wrong-gt0.false) in
    ap Err c.at-then-named_again.ensures
    ∙ order_5 _ _ _ _ _ _ _ (placed) (uncut) (counted) (busy) (ranged)
    (sym c.named_again.ensures ∙ c.if-named_again.true)

pub returns : goal.returns
unfolding cursor_refusal wrong_at
returns c =
    let placed : misplaced (wanted_of c.args.wanted) (place_of c.args.c.place) c.args.c.terms (command_is c.args.command) ≡ false = sym c.misplaced.ensures ∙ c.if-misplaced.false in
    let room : c.args.c.at + width (command_is c.args.command) ≤ length c.args.table.now = omega (arith, c.width.ensures, c.if-table-at.false, c.requires.inside) in
    let uncut : ltb (length c.args.table.now) (c.args.c.at + width (command_is c.args.command)) ≡ false = le-ltb _ _ (room) in
    let counted : miscounted c.args.c.moves c.args.c.opened (command_is c.args.command) ≡ false = sym c.miscounted.ensures ∙ c.if-miscounted.false in
    let busy : closes_idle (wanted_of c.args.wanted) (place_of c.args.c.place) c.args.c.active (command_is c.args.command) ≡ false = sym c.closes_idle.ensures ∙ c.if-closes_idle.false in
    let ranged : wrong_at c.args.table.now c.args.c (command_is c.args.command) ≡ 0 = sym c.wrong_operand-wrong.ensures ∙ omega (arith, c.if-wrong-gt0.false) in
    order_passes _ _ _ _ _ _ _ (placed) (uncut) (counted) (busy) (ranged)
    (sym c.named_again.ensures ∙ c.if-named_again.false)
