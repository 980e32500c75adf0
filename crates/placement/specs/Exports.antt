-- The answer as one 64-bit number and two further ones, for hosts in C (`Rattle.model.specs.Exports`): bits 32 to 63 the refusal's
-- number, 0 if accepted; bits 0 to 31 the end minute, 0 in a refusal. A list may have any length, so that the place of a refusal may need
-- more than 32 bits: it is a number of its own, and so is the length. Assumes nothing.
use Rattle.std.specs.Prelude.{ℕ, Result, Ok, Err}
use Rattle.model.specs.declared.Refusal.{Refusal}
use Rattle.model.specs.Exports.{refusal_code, apart}
use Rattle.placement.specs.declared.Placed.{Placed}

-- the refusal with another place
unfoldable pub placed_at : ℕ → Refusal → Refusal
placed_at p r = record { number = r.number; place = p }

unfoldable pub place_code : Result Placed Refusal → ℕ
place_code (Ok p) = p.end
place_code (Err r) = refusal_code (placed_at 0 r)

-- the length, which a refusal leaves as it was
unfoldable pub place_length : Result Placed Refusal → ℕ → ℕ
place_length (Ok p) old = p.length
place_length (Err r) old = old

-- the place, which an answer leaves as it was
unfoldable pub place_place : Result Placed Refusal → ℕ → ℕ
place_place (Ok p) old = old
place_place (Err r) old = r.place

-- the answer from the three numbers
unfoldable pub place_apart : ℕ → ℕ → ℕ → Result Placed Refusal
place_apart c n p = apart (λ end. Ok (record { end = end; length = n })) (λ r. Err (placed_at p r)) c
