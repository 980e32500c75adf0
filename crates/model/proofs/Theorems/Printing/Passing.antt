-- Reading on: which bytes are left at an offset, and that a command which passes every check of document 01's table "Where a
-- call turns back" takes the reading to the next command. Assumes nothing.
use Rattle.std.specs.Prelude.{ℕ, suc, ◌+◌, ◌<◌, ◌≡◌, true, false, not, ◌&&◌, List, ◌∷◌, ◌++◌, T, ltb, ℤ, nat_abs, length, get_or, take, drop}
use Rattle.std.proofs.Common.{add-zero, arith, sym, ap, ◌∙◌, length-drop, get_or-drop, drop-drop, take_at, drop_at}
use Rattle.integer.specs.BigEndian.{signed, signed_bytes, half}
use Rattle.integer.proofs.BigEndian.{length_signed_bytes, signed_signed_bytes}
use Rattle.integer.specs.Linear.{zlin, size_above, size_below}
use Rattle.model.specs.Limits.{Limits, paper}
use Rattle.model.specs.Command.{Command, in_place, after_term}
use Rattle.model.specs.Seen.{Seen, advance}
use Rattle.model.specs.Reading.{Wanted, head_wanted, leaves_open, wrong3}
use Rattle.model.specs.Theorems.Reading.Commands.{Passes}
use Rattle.model.proofs.Theorems.Reading.Commands.{read_command_passes}
use Rattle.model.proofs.Theorems.Reading.Reads.{verdict_from, verdict_more}
use Rattle.model.proofs.Theorems.Laws.Booleans.{not-false, and_right}
use Rattle.model.specs.Theorems.Printing.Passing.{Left, SmallLimits}

module _ {t : List ℕ} {at : ℕ} where
  pub left_length : {c : ℕ} {rest : List ℕ} → Left t at (c ∷ rest) → at + suc (length rest) ≡ length t
  left_length {c} {rest} h =
      let e : length (drop at t) ≡ suc (length rest) = ap length h.left in
      omega (arith, length-drop at t)

  pub left_byte : {rest : List ℕ} → Left t at rest → (i : ℕ) → get_or t (at + i) 0 ≡ get_or rest i 0
  left_byte h i = sym (get_or-drop at t i 0) ∙ ap (λ (r : List ℕ). get_or r i 0) h.left

  pub left_skip : {rest : List ℕ} → Left t at rest → (n : ℕ) → Left t (at + n) (drop n rest)
  left_skip h n = record { left = sym (drop-drop n at t) ∙ ap (drop n) h.left }

  pub left_after : {n : ℕ} (xs ys : List ℕ) → Left t at (xs ++ ys) → length xs ≡ n → Left t (at + n) ys
  left_after {n} xs ys h e = record { left = (left_skip h n).left ∙ drop_at xs ys n e }

  pub left_code : {c : ℕ} {rest : List ℕ} → Left t at (c ∷ rest) → get_or t at 0 ≡ c
  left_code h = rw (add-zero at) at (left_byte h 0)

  -- a signed number that was printed is read back
  pub left_number :
      (n : ℕ) (z : ℤ) (rest : List ℕ)
      → Left t at (signed_bytes n z ++ rest)
      → 0 < n
      → nat_abs z < half n
      → signed (take n (drop at t)) ≡ z
  left_number n z rest h p s =
      rw (h.left, take_at (signed_bytes n z) rest n (length_signed_bytes n z))
      (signed_signed_bytes n z p (size_below z (half n) (omega arith)) (omega (zlin, size_above z (nat_abs z) (omega arith))))

pub paper_small : SmallLimits paper
unfolding paper
paper_small = omega arith

-- ---- a command that passes
-- 3: not "unknown, misplaced, wrong head for the call, terms left open"
pub well_placed :
    (w : Wanted) (s : Seen) (c : Command)
    → in_place s.place c ≡ true
    → head_wanted w c ≡ true
    → leaves_open s c ≡ false
    → T (not (wrong3 w s c))
unfolding wrong3
well_placed w s c place wanted closes = rw (place, wanted, closes) tt

-- "Terms are left open where a command other than 57, 43 or 46 follows a term"
pub may_follow : (s : Seen) (c : Command) → after_term c ≡ true → leaves_open s c ≡ false
unfolding leaves_open
may_follow s c e = rw e (not-false (ltb 0 (length s.terms) && false) (and_right (ltb 0 (length s.terms)) false))

-- A command that passes every check takes the reading to what it leaves seen.
pub passed :
    {L : Limits} {w : Wanted} {t : List ℕ} {s : Seen} {c : Command}
    → Passes L w t s c
    → verdict_from L w t s ≡ verdict_from L w t (advance t s c)
passed {L} {w} {t} {s} p = verdict_more L w t s (read_command_passes L w t s p)
