-- `misplaced` meets its contract: the ways through check 3. Assumes nothing.
use Rattle.std.proofs.Common.{arith, ◌≡◌, Bool, true, false, refl, sym, ◌∙◌}
use mathlib.Core.Bool.{not}
use borrow.Author.Tests.{lt-ltb, le-ltb}
use Rattle.command.specs.Checks.{misplaced_place, misplaced_head, misplaced_closed, misplaced_open}
use Rattle.command.proofs.misplaced.Goals as goal
use Rattle.command.proofs.misplaced.Goals.{then-not-in_place, else-not-in_place}

-- what a negation says
not_set : (b : Bool) → not b ≡ true → b ≡ false
not_set false e = refl
not_set true e = sym e

not_clear : (b : Bool) → not b ≡ false → b ≡ true
not_clear false e = sym e
not_clear true e = refl

pub returns-then-not-head_wanted : goal.returns-then-not-head_wanted
returns-then-not-head_wanted c =
    c.if-not-head_wanted.true
    ∙ elim c.if-not-in_place.branch [
      | then-not-in_place w ↦ misplaced_place _ _ _ _ _ _ _ c.in_place.ensures refl refl w.if-not-in_place.true
      | else-not-in_place w ↦ misplaced_head _ _ _ _ _ _ _ c.in_place.ensures w.head_wanted.ensures refl w.if-not-in_place.false (not_set _ (sym w.value-is ∙ c.if-not-head_wanted.true))
    ]

pub returns-then-terms-gt0 : goal.returns-then-terms-gt0
returns-then-terms-gt0 c =
    elim c.if-not-in_place.branch [
      | then-not-in_place w ↦ (let e : c.in_place.result ≡ true = not_clear _ (sym w.value-is ∙ c.if-not-head_wanted.false) in let f : ◌≡◌ true false = sym e ∙ w.if-not-in_place.true in cc)
      | else-not-in_place w ↦ misplaced_open _ _ _ _ _ _ _ c.in_place.ensures w.head_wanted.ensures c.after_term.ensures w.if-not-in_place.false (not_clear _ (sym w.value-is ∙ c.if-not-head_wanted.false)) (lt-ltb 0 c.args.terms c.if-terms-gt0.true)
    ]

pub returns-else-terms-gt0 : goal.returns-else-terms-gt0
returns-else-terms-gt0 c =
    le-ltb 0 c.args.terms c.if-terms-gt0.false
    ∙ elim c.if-not-in_place.branch [
      | then-not-in_place w ↦ (let e : c.in_place.result ≡ true = not_clear _ (sym w.value-is ∙ c.if-not-head_wanted.false) in let f : ◌≡◌ true false = sym e ∙ w.if-not-in_place.true in cc)
      | else-not-in_place w ↦ misplaced_closed _ _ _ _ _ _ _ c.in_place.ensures w.head_wanted.ensures refl w.if-not-in_place.false (not_clear _ (sym w.value-is ∙ c.if-not-head_wanted.false)) (omega arith)
    ]
