-- The answer of a state's check as an optional refusal; the search of the first wrong place; what is accepted.
-- Assumes nothing.
use Rattle.std.specs.Prelude.{ℕ, suc, ◌+◌, ◌*◌, ◌≤◌, ◌<◌, ◌≡◌, Bool, true, false, List, leb, ℤ, pos, negsuc, nat_abs, length, get_or, ◌≤ℤ◌, ◌<ℤ◌, Result, Ok, Err}
use Rattle.std.proofs.Common.{arith, sym, ◌∙◌}
use Rattle.std.proofs.Math.Path.{refl, ap}
use Rattle.std.proofs.Math.Bool.{not}
use Rattle.std.proofs.Math.Option.{Option, none, some}
use borrow.Author.Tests.{leb-true, le-leb, lt-leb, eq-eqb, ne_eqb}
use Rattle.std.specs.Int.Signed.{le_z}
use Rattle.integer.specs.Linear.{le_in, lt_in}
use Rattle.model.specs.declared.Refusal.{Refusal}
use Rattle.model.specs.Limits.{paper}
use Rattle.model.specs.Lists.{first_from}
use Rattle.model.specs.StateTable.{value_offset, state_value, value_in_range, refused_value, refused_byte, state_refusal}
use Rattle.model.proofs.Theorems.Laws.Booleans.{false_not}
use Rattle.model.proofs.Theorems.Laws.Searching.{first_from_cases}
use Rattle.model.specs.Theorems.Reading.States.{AcceptedState}

unfoldable pub check_of : Result Unit Refusal → Option Refusal
check_of (Ok _) = none
check_of (Err r) = some r

-- what a check's outcome says of the refusal that it equals
pub check_accepted : {c : Result Unit Refusal} {o : Option Refusal} → check_of c ≡ o → c ≡ Ok tt → o ≡ none
unfolding check_of
check_accepted e a = sym e ∙ ap check_of a

pub check_refused : {c : Result Unit Refusal} {o : Option Refusal} {r : Refusal} → check_of c ≡ o → c ≡ Err r → o ≡ some r
unfolding check_of
check_refused e a = sym e ∙ ap check_of a

some_none : {A : Type 0} {a : A} → some a ≡ none → ⊥
some_none e = let z : ◌≡◌ {A = ℕ} 0 1 = cc in omega arith

-- ---- the two tests

-- a truth byte that is neither 0 nor 1, a value beyond ±1,000,000
unfoldable pub wrong_truth : List ℕ → ℕ → Bool
wrong_truth bs p = not (leb (get_or bs p 0) 1)

unfoldable pub wrong_value : ℕ → List ℕ → ℕ → Bool
wrong_value props bs v = not (value_in_range paper (state_value props bs v))

pub range_low : (z : ℤ) → z <ℤ negsuc 999_999 → value_in_range paper z ≡ false
unfolding value_in_range paper
range_low (pos n) h = absurd h.lt
range_low (negsuc n) h = lt-leb (suc n) 1_000_000 (omega (arith, lt_in (negsuc n) (negsuc 999_999) h))

pub range_high : (z : ℤ) → negsuc 999_999 ≤ℤ z → value_in_range paper z ≡ le_z z (pos 1_000_000)
unfolding value_in_range paper
range_high (pos n) h = refl
range_high (negsuc n) h = le-leb (suc n) 1_000_000 (omega (arith, le_in (negsuc 999_999) (negsuc n) h))

pub range_size : (z : ℤ) → value_in_range paper z ≡ true → nat_abs z ≤ 1_000_000
unfolding value_in_range paper
range_size z e = leb-true (nat_abs z) 1_000_000 e

module _ (bs : List ℕ) (p : ℕ) where
  pub truth_wrong : 1 < get_or bs p 0 → wrong_truth bs p ≡ true
  unfolding wrong_truth
  truth_wrong h = rw (lt-leb (get_or bs p 0) 1 h) refl

  pub truth_right : get_or bs p 0 ≤ 1 → wrong_truth bs p ≡ false
  unfolding wrong_truth
  truth_right h = rw (le-leb (get_or bs p 0) 1 h) refl

module _ (props : ℕ) (bs : List ℕ) (v : ℕ) where
  -- by a flag that tells whether the value is in range
  pub value_flag : (t : Bool) → t ≡ value_in_range paper (state_value props bs v) → wrong_value props bs v ≡ not t
  unfolding wrong_value
  value_flag t e = ap not (sym e)

  value_right : nat_abs (state_value props bs v) ≤ 1_000_000 → wrong_value props bs v ≡ false
  unfolding wrong_value value_in_range paper
  value_right h = rw (le-leb (nat_abs (state_value props bs v)) 1_000_000 h) refl

-- ---- the check by its parts

unfoldable pub truths_refusal : ℕ → List ℕ → Option Refusal → Option Refusal
truths_refusal props bs r = refused_byte (first_from (wrong_truth bs) 0 props) r

unfoldable pub values_refusal : ℕ → ℕ → List ℕ → Option Refusal
values_refusal props vars bs = refused_value props (first_from (wrong_value props bs) 0 vars)

module _ (props vars : ℕ) (bs : List ℕ) where
  pub length_refused :
      (length bs ≡ props + 4 * vars → ⊥)
      → state_refusal paper props vars bs ≡ some (record { number = 8; place = 0 })
  unfolding state_refusal value_offset
  length_refused h = rw (state_refusal, ne_eqb (length bs) (props + 4 * vars) h) refl

  pub length_right :
      length bs ≡ props + 4 * vars
      → state_refusal paper props vars bs ≡ truths_refusal props bs (values_refusal props vars bs)
  unfolding state_refusal value_offset truths_refusal values_refusal wrong_truth wrong_value
  length_right h = rw (state_refusal, eq-eqb (length bs) (props + 4 * vars) h) refl

-- what the searches found
module _ (props : ℕ) (bs : List ℕ) where
  pub truths_found :
      (a : Option Refusal) {p : ℕ}
      → first_from (wrong_truth bs) 0 props ≡ some p
      → some (record { number = 9; place = p }) ≡ truths_refusal props bs a
  unfolding truths_refusal refused_byte
  truths_found a e = rw e refl

  pub truths_none : (a : Option Refusal) → first_from (wrong_truth bs) 0 props ≡ none → a ≡ truths_refusal props bs a
  unfolding truths_refusal refused_byte
  truths_none a e = rw e refl

  pub values_found :
      (vars : ℕ) {v : ℕ}
      → first_from (wrong_value props bs) 0 vars ≡ some v
      → some (record { number = 9; place = props + 4 * v }) ≡ values_refusal props vars bs
  unfolding values_refusal refused_value value_offset
  values_found vars e = rw e refl

  pub values_none : (vars : ℕ) → first_from (wrong_value props bs) 0 vars ≡ none → none ≡ values_refusal props vars bs
  unfolding values_refusal refused_value
  values_none vars e = rw e refl

-- the first refusal decides
pub truths_refused :
    (props : ℕ) (bs : List ℕ) (a : Option Refusal) (r : Refusal)
    → some r ≡ truths_refusal props bs none
    → some r ≡ truths_refusal props bs a
unfolding truths_refusal refused_byte
truths_refused props bs a r e = by (first_from (wrong_truth bs) 0 props) e
  where
    by : (o : Option ℕ) → some r ≡ refused_byte o none → some r ≡ refused_byte o a
    by none h = absurd (some_none h)
    by (some p) h = h

pub truths_accepted :
    (props : ℕ) (bs : List ℕ) (a : Option Refusal)
    → none ≡ truths_refusal props bs none
    → a ≡ truths_refusal props bs a
unfolding truths_refusal refused_byte
truths_accepted props bs a e = by (first_from (wrong_truth bs) 0 props) e
  where
    by : (o : Option ℕ) → none ≡ refused_byte o none → a ≡ refused_byte o a
    by none h = refl
    by (some p) h = absurd (some_none (sym h))

-- ---- what is accepted

all_none : (f : ℕ → Bool) (n : ℕ) → ((i : ℕ) → i < n → f i ≡ false) → first_from f 0 n ≡ none
all_none f n h =
    first_from_cases f (λ (o : Option ℕ). o ≡ none) 0 n
    (λ j k l t before. absurd (false_not (h j (omega arith)) t))
    (λ all-fail. refl)

-- a state with the right length, truth bytes and values: nothing else is asked
pub state_accepted :
    (props vars : ℕ) (bs : List ℕ)
    → AcceptedState paper props vars bs
    → state_refusal paper props vars bs ≡ none
unfolding paper
state_accepted props vars bs a =
    length_right props vars bs a.length_is
    ∙ sym
    (truths_none props bs (values_refusal props vars bs)
    (all_none (wrong_truth bs) props (λ p h. truth_right bs p (a.truths p h))))
    ∙ sym
    (values_none props bs vars (all_none (wrong_value props bs) vars (λ v h. value_right props bs v (a.values v h))))
