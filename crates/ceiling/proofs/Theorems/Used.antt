-- The numbers of a layer memory that a ceiling allows, and those behind them. Assumes nothing.
use Rattle.std.specs.Prelude.{ℕ, zero, suc, ◌≤◌, ◌≡◌, refl, List, [], ◌∷◌, ◌++◌, ℤ, length, take, drop}
use Rattle.std.proofs.Common.{arith, ap, append-nil, length-take, take-append-drop, take_all}
use Rattle.std.proofs.Math.Option.{Option, none, some}
use Rattle.ceiling.specs.Ceiling.{first_of, behind_of}
use Rattle.ceiling.specs.Theorems.Used.{AtMost}

pub first_behind : (n : Option ℕ) (mem : List ℤ) → first_of n mem ++ behind_of n mem ≡ mem
unfolding first_of behind_of
first_behind none mem = append-nil mem
first_behind (some n) mem = take-append-drop n mem

-- a memory of at most so many numbers is used whole
pub first_whole : (n : Option ℕ) (mem : List ℤ) → AtMost n (length mem) → first_of n mem ≡ mem
unfolding first_of
first_whole none mem h = refl
first_whole (some n) mem h = take_all n mem h

pub behind_none : (n : Option ℕ) (mem : List ℤ) → AtMost n (length mem) → behind_of n mem ≡ []
unfolding behind_of
behind_none none mem h = refl
behind_none (some n) mem h = drop_all n mem h
  where
    drop_all : (i : ℕ) (xs : List ℤ) → length xs ≤ i → drop i xs ≡ []
    drop_all zero [] h = refl
    drop_all zero (x ∷ xs) h = absurd (omega arith)
    drop_all (suc i) [] h = refl
    drop_all (suc i) (x ∷ xs) h = drop_all i xs (omega arith)

-- as many numbers are used as there are and as the ceiling allows
pub first_room : (n : Option ℕ) (mem : List ℤ) {r : ℕ} → r ≤ length mem → AtMost n r → r ≤ length (first_of n mem)
unfolding first_of
first_room none mem h k = h
first_room (some n) mem h k = omega (arith, length-take n mem)

-- new numbers in the place of the first ones, as many as there were
front : (n : ℕ) (new mem : List ℤ) → length new ≡ length (take n mem) → (take n (new ++ drop n mem) ≡ new) × (drop n (new ++ drop n mem) ≡ drop n mem)
front zero [] mem e = (refl, refl)
front zero (x ∷ new) mem e = absurd (omega arith)
front (suc n) [] [] e = (refl, refl)
front (suc n) [] (y ∷ mem) e = absurd (omega arith)
front (suc n) (x ∷ new) [] e = absurd (omega arith)
front (suc n) (x ∷ new) (y ∷ mem) e =
    let later = front n new mem (omega arith) in (ap (λ (zs : List ℤ). x ∷ zs) later.0, later.1)

pub replaced :
    (n : Option ℕ) (new mem : List ℤ) → length new ≡ length (first_of n mem)
    → (first_of n (new ++ behind_of n mem) ≡ new) × (behind_of n (new ++ behind_of n mem) ≡ behind_of n mem)
unfolding first_of behind_of
replaced none new mem e = (append-nil new, refl)
replaced (some n) new mem e = front n new mem e
