-- The numbers of a memory that are used. Assumes nothing.
use Rattle.std.specs.Prelude.{ℕ, ◌≤◌, ◌≡◌, refl, Bool, true, false, cond, List, ltb, ℤ, length, take, drop}
use Rattle.std.proofs.Common.{arith, sym, ap, ◌∙◌, ltb→lt, nltb→le}
use Rattle.std.proofs.Math.Option.{some}
use Rattle.std.proofs.Math.Dec.{not_T}
use Rattle.ceiling.specs.Ceiling as ceilings
use Rattle.model.proofs.Theorems.Laws.Booleans.{true_t, false_not}
use Rattle.ceiling.proofs.Theorems.Used.{first_whole, behind_none}
use Rattle.ceiling.specs.declared.Ceiling.{Ceiling}
use Rattle.ceiling.specs.Heads.{ceiling_of}
use Rattle.ceiling.specs.Numbers.{Split, fewer}

pub split : (c : Ceiling) (mem : List ℤ) {n : ℕ} → n ≡ fewer (length mem) c.numbers → Split c mem n
unfolding fewer ceiling_of ceilings.first_of ceilings.behind_of
split c mem {n} e = go (ltb (length mem) c.numbers) refl e
  where
    whole : length mem ≤ c.numbers → n ≡ length mem → Split c mem n
    whole few is =
        record {
          inside = omega arith;
          first = first_whole (some n) mem (omega arith) ∙ sym (first_whole (some c.numbers) mem few);
          behind = behind_none (some n) mem (omega arith) ∙ sym (behind_none (some c.numbers) mem few);
        }

    part : c.numbers ≤ length mem → n ≡ c.numbers → Split c mem n
    part many is = record { inside = omega arith; first = ap (λ (i : ℕ). take i mem) is; behind = ap (λ (i : ℕ). drop i mem) is }

    go : (b : Bool) → ltb (length mem) c.numbers ≡ b → n ≡ cond b (length mem) c.numbers → Split c mem n
    go true less is = whole (omega (arith, ltb→lt (length mem) c.numbers (true_t less))) is
    go false more is = part (nltb→le (length mem) c.numbers (not_T (ltb (length mem) c.numbers) (false_not more))) is
