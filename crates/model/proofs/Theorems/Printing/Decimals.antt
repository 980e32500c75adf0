-- The decimal digits of a number: they stand for it, each is one of the ten ASCII digits, none is a leading zero, and the turns
-- that the definition is given always suffice. Assumes nothing.
use Rattle.std.specs.Prelude.{ℕ, zero, suc, ◌+◌, ◌*◌, ◌-◌, ◌/◌, ◌%◌, ◌^◌, ◌≤◌, ◌<◌, ◌≡◌, refl, ltb}
use Rattle.std.proofs.Common.{pow-suc, ap, ◌∙◌, ltb→lt, lt→ltb, nltb→le}
use native.Mathlib.Omega.{arith}
use mathlib.Core.List.{List, [], ◌∷◌, ◌++◌}
use Rattle.std.proofs.Math.Dec.{not_T}
use Rattle.std.proofs.Math.ListN.{length, get_or, length-append, get_or-append}
use Rattle.model.specs.Listing.{digits, decimal}
use Rattle.model.specs.Theorems.Reading.WellFormed.{All}
use Rattle.model.proofs.Theorems.Laws.Booleans.{T_true, not-false, T-cases}
use Rattle.model.proofs.Theorems.Laws.Listed.{All-append}
use Rattle.model.specs.Theorems.Printing.Decimals.{Digit, value_after, value_of}

-- a last digit behind the others
abbrev then : List ℕ → ℕ → List ℕ
then ds n = ds ++ ((48 + n % 10) ∷ [])

digits_small : (f n : ℕ) → n < 10 → digits f n ≡ (48 + n) ∷ []
unfolding digits
digits_small zero n h = refl
digits_small (suc f) n h = rw (T_true (ltb n 10) (lt→ltb n 10 h), digits) refl

digits_large : (f n : ℕ) → 10 ≤ n → digits (suc f) n ≡ then (digits f (n / 10)) n
unfolding digits
digits_large f n h = rw (not-false (ltb n 10) (λ t. omega (arith, ltb→lt n 10 t)), digits) refl

-- What holds of a single digit, and of n with its last digit behind the digits of a tenth of n, holds of every number's digits,
-- given at least as many turns as the number's value.
digits_induction :
    (P : ℕ → List ℕ → Type 0)
    → ((n : ℕ) → n < 10 → P n ((48 + n) ∷ []))
    → ((n : ℕ) (ds : List ℕ) → 10 ≤ n → P (n / 10) ds → P n (then ds n))
    → (f n : ℕ) → n ≤ f → P n (digits f n)
digits_induction P one more zero n h = rw (digits_small zero n (omega arith)) (one n (omega arith))
digits_induction P one more (suc f) n h =
    T-cases (ltb n 10)
    (λ t. rw (digits_small (suc f) n (ltb→lt n 10 t)) (one n (ltb→lt n 10 t)))
    (λ t.
    let large : 10 ≤ n = nltb→le n 10 (not_T (ltb n 10) t) in
    rw (digits_large f n large) (more n (digits f (n / 10)) large (digits_induction P one more f (n / 10) (omega arith))))

-- more turns give the same digits
digits_enough : (f g n : ℕ) → n ≤ f → n ≤ g → digits g n ≡ digits f n
digits_enough f g n h =
    digits_induction (λ (m : ℕ) (ds : List ℕ). (i : ℕ) → m ≤ i → digits i m ≡ ds)
    (λ m l i k. digits_small i m l) step f n h g
  where
    step :
        (m : ℕ) (ds : List ℕ)
        → 10 ≤ m
        → ((i : ℕ) → m / 10 ≤ i → digits i (m / 10) ≡ ds)
        → (i : ℕ)
        → m ≤ i
        → digits i m ≡ then ds m
    step m ds l e zero k = absurd (omega arith)
    step m ds l e (suc i) k = digits_large i m l ∙ ap (λ (xs : List ℕ). then xs m) (e i (omega arith))

-- so that these two equations hold whatever the number
pub decimal_small : (n : ℕ) → n < 10 → decimal n ≡ (48 + n) ∷ []
unfolding decimal
decimal_small n h = digits_small n n h

pub decimal_large : (n : ℕ) → 10 ≤ n → decimal n ≡ decimal (n / 10) ++ ((48 + n % 10) ∷ [])
unfolding decimal
decimal_large n h = go n (omega arith)
  where
    go : (f : ℕ) → n ≤ f → digits f n ≡ then (digits (n / 10) (n / 10)) n
    go zero k = absurd (omega arith)
    go (suc f) k =
        digits_large f n h
        ∙ ap (λ (ds : List ℕ). then ds n) (digits_enough (n / 10) f (n / 10) (omega arith) (omega arith))

value_last : (n : ℕ) (ds : List ℕ) (d : ℕ) → value_after n (ds ++ (d ∷ [])) ≡ 10 * value_after n ds + (d - 48)
unfolding value_after
value_last n [] d = refl
value_last n (c ∷ ds) d = value_last (10 * n + (c - 48)) ds d

module _ (n : ℕ) where
  -- the decimal digits of n, read back, give n
  pub decimal_value : value_of (decimal n) ≡ n
  unfolding decimal value_of value_after
  decimal_value =
      digits_induction (λ (m : ℕ) (ds : List ℕ). value_after 0 ds ≡ m) (λ m h. omega arith)
      (λ m ds h e. value_last 0 ds (48 + m % 10) ∙ omega arith) n n (omega arith)

  -- each is one of the ASCII digits 0 to 9
  pub decimal_digits : All Digit (decimal n)
  unfolding decimal
  decimal_digits =
      digits_induction (λ (m : ℕ) (ds : List ℕ). All Digit ds) (λ m h. (omega arith, tt))
      (λ m ds h a. All-append Digit ds ((48 + m % 10) ∷ []) a (omega arith, tt)) n n (omega arith)

  first_digit : (0 < n → 48 < get_or (decimal n) 0 0) × (0 < length (decimal n))
  unfolding decimal
  first_digit =
      digits_induction (λ (m : ℕ) (ds : List ℕ). (0 < m → 48 < get_or ds 0 0) × (0 < length ds))
      (λ m h. (λ p. omega arith, omega arith))
      (λ m ds h a.
      let last = (48 + m % 10) ∷ [] in
      (λ p. rw (get_or-append ds last 0 0 a.1) (a.0 (omega arith)), omega (arith, length-append ds last)))
      n n (omega arith)

  -- there is a first digit
  pub decimal_some : 0 < length (decimal n)
  decimal_some = first_digit.1

  -- and it is not 0, the byte 48, unless the number is 0
  pub decimal_first : 0 < n → 48 < get_or (decimal n) 0 0
  decimal_first = first_digit.0

pub decimal_zero : decimal 0 ≡ 48 ∷ []
unfolding decimal digits
decimal_zero = refl

-- ---- how many
pub length_small : (n : ℕ) → n < 10 → length (decimal n) ≡ 1
length_small n h = ap length (decimal_small n h)

pub length_large : (n : ℕ) → 10 ≤ n → length (decimal n) ≡ length (decimal (n / 10)) + 1
length_large n h = ap length (decimal_large n h) ∙ length-append (decimal (n / 10)) ((48 + n % 10) ∷ [])

-- a number below 10 ^ k has at most k digits
pub decimal_within : (k n : ℕ) → n < 10 ^ suc k → length (decimal n) ≤ suc k
decimal_within zero n h = omega (arith, length_small n (omega arith))
decimal_within (suc k) n h =
    T-cases (ltb n 10)
    (λ t. omega (arith, length_small n (ltb→lt n 10 t)))
    (λ t.
    let large : 10 ≤ n = nltb→le n 10 (not_T (ltb n 10) t) in
    let less : n / 10 < 10 ^ suc k = omega (arith, pow-suc 10 (suc k)) in
    omega (arith, length_large n large, decimal_within k (n / 10) less))

pub decimal_byte : (n : ℕ) → n < 256 → length (decimal n) ≤ 3
decimal_byte n h = decimal_within 2 n (omega arith)

pub decimal_word : (n : ℕ) → n < 2 ^ 64 → length (decimal n) ≤ 20
decimal_word n h = decimal_within 19 n (omega arith)
