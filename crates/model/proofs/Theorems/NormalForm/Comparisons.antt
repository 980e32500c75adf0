-- The five comparisons under document 01's "Normal form" (document 02, request 4/14): one law an operator, in the paper's order and
-- words, each with what it means. Reading refuses any other number. Assumes nothing.
use Rattle.std.specs.Prelude.{ℕ, ◌+◌, ◌≤◌, ◌<◌, ◌≡◌, ◌↔◌, List, [], ◌∷◌, T, leb, ltb, ℤ, neg_ℤ, ◌+ℤ◌, ◌-ℤ◌, length, get_or, ◌≤ℤ◌, ◌<ℤ◌}
use Rattle.std.proofs.Common.{arith, ap₂, ◌∙◌, subst, leb→le, ltb→lt}
use Rattle.std.proofs.Math.Path.{refl, sym, ap}
use Rattle.std.proofs.Math.Bool.{false, ◌&&◌, and-true, and-false}
use Rattle.std.proofs.Math.Option.{some}
use Rattle.std.proofs.Math.IntN.{pos}
use Rattle.std.specs.Int.Signed.{le_z, lt_z, le_z_yes, lt_z_yes, ≤ℤ_refl}
use Rattle.integer.specs.Linear.{zlin, sum as sum-split, diff, neg_up, neg_dn, ≤-antisym}
use Rattle.model.specs.Lists.{all}
use Rattle.model.specs.Limits.{Limits, comparison_in_range}
use Rattle.model.specs.Task.{Term, at_least, above, at_most, below, equal, Form, written}
use Rattle.model.specs.Move.{State, sum, compares, holds}
use Rattle.model.specs.Command.{comparison_code, close_condition, code_of, command_of, width, after_term, in_place}
use Rattle.model.specs.Seen.{Seen, byte_after}
use Rattle.model.specs.Reading.{Wanted, head_wanted, leaves_open, wrong3, wrong2, wrong6, operands, first_wrong, read_command, done, refused, wrong16}
use Rattle.model.specs.NormalForm.{negated, least, normal_condition, normal_state}
use Rattle.model.proofs.Theorems.Laws.Booleans.{T_true, T-equal, not-false, and_left, and_right, and_both}
use Rattle.model.proofs.Theorems.Reading.Commands.{refusal_4, first_wrong_here, read_command_refused, width_positive, command_of_code}
use Rattle.model.proofs.Theorems.NormalForm.SignedSums.{signed_sum_lem, signed_negated_sum}
use Rattle.model.specs.Theorems.NormalForm.Comparisons.{Rule}

-- ---- whole numbers

weak_test : (a b c d : ℤ) → (a ≤ℤ b) ↔ (c ≤ℤ d) → le_z a b ≡ le_z c d
weak_test a b c d e = T-equal (le_z a b) (le_z c d) (λ t. (e.0 (le_z_yes t)).le) (λ t. (e.1 (le_z_yes t)).le)

strict_test : (a b c d : ℤ) → (a ≤ℤ b) ↔ (c <ℤ d) → le_z a b ≡ lt_z c d
strict_test a b c d e = T-equal (le_z a b) (lt_z c d) (λ t. (e.0 (le_z_yes t)).lt) (λ t. (e.1 (lt_z_yes t)).le)

-- z ≥ c+1 is z > c
above_test : (c z : ℤ) → le_z (c +ℤ pos 1) z ≡ lt_z c z
above_test c z = strict_test (c +ℤ pos 1) z c z (omega (zlin, sum-split c (pos 1)))

-- −z ≥ −c is z ≤ c
at_most_test : (c z : ℤ) → le_z (neg_ℤ c) (neg_ℤ z) ≡ le_z z c
at_most_test c z = weak_test (neg_ℤ c) (neg_ℤ z) z c (omega (zlin, neg_up c, neg_dn c, neg_up z, neg_dn z))

-- −z ≥ 1−c is z < c
below_test : (c z : ℤ) → le_z (pos 1 -ℤ c) (neg_ℤ z) ≡ lt_z z c
below_test c z = strict_test (pos 1 -ℤ c) (neg_ℤ z) z c (omega (zlin, diff (pos 1) c, neg_up z, neg_dn z))

-- z = c is z ≥ c and z ≤ c
pub equal_test : (z c : ℤ) → (z ≡ c) ↔ T (le_z c z && le_z z c)
equal_test z c = (
  λ h. subst (λ (x : ℤ). T (le_z x z && le_z z x)) h (and_both (le_z z z) (le_z z z) (≤ℤ_refl z).le (≤ℤ_refl z).le),
  λ t. ≤-antisym (le_z_yes (and_right (le_z c z) (le_z z c) t)) (le_z_yes (and_left (le_z c z) (le_z z c) t)),
)

-- ---- "S ≥ c" and "−S ≥ c" as normal conditions: true in the normal state exactly when they are of the sum S in the state
module _ (s : State) (ts : List Term) (c : ℤ) where
  pub least_holds : holds (normal_state s) (least ts c) ≡ le_z c (sum s.val ts)
  unfolding holds least compares
  least_holds = ap (le_z c) (signed_sum_lem s ts)

  pub least_negated_holds : holds (normal_state s) (least (negated ts) c) ≡ le_z c (neg_ℤ (sum s.val ts))
  unfolding holds least compares
  least_negated_holds = ap (le_z c) (signed_negated_sum s ts)

-- "Sum S:"
module _ (ts : List Term) (c : ℤ) where
  -- "≥ c stays;"
  pub at_least_rule : Rule 0 at_least ts c (λ S. c ≤ℤ S) (least ts c ∷ [])
  unfolding comparison_code holds compares normal_condition all
  at_least_rule =
      record {
        number = refl;
        says = λ s. (λ h. h.le, λ t. le_z_yes t);
        becomes = refl;
        means = λ s. sym (and-true _ ∙ least_holds s ts c);
      }

  -- "> c is S ≥ c+1;"
  pub above_rule : Rule 1 above ts c (λ S. c <ℤ S) (least ts (c +ℤ pos 1) ∷ [])
  unfolding comparison_code holds compares normal_condition all
  above_rule =
      record {
        number = refl;
        says = λ s. (λ h. h.lt, λ t. lt_z_yes t);
        becomes = refl;
        means = λ s. sym (and-true _ ∙ least_holds s ts (c +ℤ pos 1) ∙ above_test c (sum s.val ts));
      }

  -- "≤ c is −S ≥ −c;"
  pub at_most_rule : Rule 2 at_most ts c (λ S. S ≤ℤ c) (least (negated ts) (neg_ℤ c) ∷ [])
  unfolding comparison_code holds compares normal_condition all
  at_most_rule =
      record {
        number = refl;
        says = λ s. (λ h. h.le, λ t. le_z_yes t);
        becomes = refl;
        means = λ s. sym (and-true _ ∙ least_negated_holds s ts (neg_ℤ c) ∙ at_most_test c (sum s.val ts));
      }

  -- "< c is −S ≥ 1−c;"
  pub below_rule : Rule 3 below ts c (λ S. S <ℤ c) (least (negated ts) (pos 1 -ℤ c) ∷ [])
  unfolding comparison_code holds compares normal_condition all
  below_rule =
      record {
        number = refl;
        says = λ s. (λ h. h.lt, λ t. lt_z_yes t);
        becomes = refl;
        means = λ s. sym (and-true _ ∙ least_negated_holds s ts (pos 1 -ℤ c) ∙ below_test c (sum s.val ts));
      }

  -- "= c is S ≥ c, then −S ≥ −c."
  pub equal_rule : Rule 4 equal ts c (λ S. S ≡ c) (least ts c ∷ least (negated ts) (neg_ℤ c) ∷ [])
  unfolding comparison_code holds compares normal_condition all
  equal_rule =
      record {
        number = refl;
        says = λ s. equal_test (sum s.val ts) c;
        becomes = refl;
        means =
            λ s.
            sym
            (ap₂ ◌&&◌ (least_holds s ts c)
            (and-true _ ∙ least_negated_holds s ts (neg_ℤ c) ∙ at_most_test c (sum s.val ts)));
      }

-- ---- "any other number is refused earlier"
-- in a written table reading refuses a 43 that stands in its place, with all its operands, and has another number: 4, at the number
module _ (L : Limits) (w : Wanted) (t : List ℕ) (s : Seen) where
  pub other_refused :
      s.header.form ≡ written
      → T (in_place s.place close_condition)
      → get_or t s.at 0 ≡ code_of close_condition
      → s.at + width close_condition ≤ length t
      → 4 < byte_after t s 1
      → read_command L w t s ≡ done (refused (record { number = 4; place = s.at + 1 }))
  unfolding code_of wrong3 wrong2 wrong6 wrong16 head_wanted leaves_open after_term operands comparison_in_range
  other_refused e placed code uncut other =
      read_command_refused L w t s close_condition _ (omega (arith, uncut, width_positive close_condition))
      (ap command_of code ∙ known)
      (refusal_4 L w t s close_condition 1 in_place_lem whole refl refl wrong)
    where
      in_place_lem : wrong3 w s close_condition ≡ false
      in_place_lem = rw (T_true (in_place s.place close_condition) placed) (and-false (ltb 0 (length s.terms)))

      whole : wrong2 t s close_condition ≡ false
      whole = not-false (ltb (length t) (s.at + width close_condition)) (λ b. omega (arith, ltb→lt (length t) (s.at + width close_condition) b, uncut))

      wrong : first_wrong (operands L t s close_condition) ≡ some 1
      wrong = first_wrong_here _ _ (ap (λ (f : Form). comparison_in_range f (byte_after t s 1)) e ∙ not-false (leb (byte_after t s 1) 4) (λ b. omega (arith, leb→le (byte_after t s 1) 4 b, other)))

      known : command_of (code_of close_condition) ≡ close_condition
      known = command_of_code close_condition (λ h. omega (arith, ap code_of h))
