-- The bytes of a state and their checks, 8 and 9.
-- Assumes nothing.
use Rattle.std.specs.Prelude.{ℕ, ◌+◌, ◌*◌, Bool, true, false, not, List, [], ◌∷◌, ◌++◌, eqb, leb, ℤ, nat_abs, length, get_or, take, drop}
use Rattle.std.proofs.Math.Option.{Option, none, some}
use Rattle.integer.specs.BigEndian.{signed, signed_bytes}
use Rattle.model.specs.declared.Refusal.{Refusal}
use Rattle.model.specs.Limits.{Limits}
use Rattle.model.specs.Lists.{first_from, tabulate}
use Rattle.model.specs.Move.{State}

-- "A state is P bytes (0 or 1), then one 4-byte value a written variable": where variable v stands, and its value
unfoldable pub value_offset : ℕ → ℕ → ℕ
value_offset props v = props + 4 * v

unfoldable pub state_value : ℕ → List ℕ → ℕ → ℤ
state_value props bs v = signed (take 4 (drop (value_offset props v) bs))

unfoldable pub state_of : ℕ → List ℕ → State
state_of props bs = record { has = λ p. eqb (get_or bs p 0) 1; val = state_value props bs }

-- "within ±1,000,000"
unfoldable pub value_in_range : Limits → ℤ → Bool
value_in_range L z = leb (nat_abs z) L.constant

unfoldable pub refused_value : ℕ → Option ℕ → Option Refusal
refused_value props none = none
refused_value props (some v) = some (record { number = 9; place = value_offset props v })

unfoldable pub refused_byte : Option ℕ → Option Refusal → Option Refusal
refused_byte none r = r
refused_byte (some p) r = some (record { number = 9; place = p })

-- "state | 8 | wrong length | 0", then "9 | byte or value out of range | its offset", the first such one
unfoldable pub state_refusal : Limits → ℕ → ℕ → List ℕ → Option Refusal
state_refusal L props vars bs =
    elim (eqb (length bs) (value_offset props vars)) [
      | true ↦
          refused_byte (first_from (λ p. not (leb (get_or bs p 0) 1)) 0 props)
          (refused_value props (first_from (λ v. not (value_in_range L (state_value props bs v))) 0 vars))
      | false ↦ some (record { number = 8; place = 0 })
    ]

unfoldable pub truth_byte : Bool → ℕ
truth_byte true = 1
truth_byte false = 0

unfoldable pub values_bytes : List ℤ → List ℕ
values_bytes [] = []
values_bytes (z ∷ zs) = signed_bytes 4 z ++ values_bytes zs

-- the bytes of a state
unfoldable pub state_bytes : ℕ → ℕ → State → List ℕ
state_bytes props vars s = tabulate (λ p. truth_byte (s.has p)) 0 props ++ values_bytes (tabulate s.val 0 vars)
