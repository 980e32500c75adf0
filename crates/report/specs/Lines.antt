-- The lines of the listing, and the room that each takes at most. Assumes nothing.
use Rattle.std.specs.Prelude.{ℕ, ◌+◌, ◌^◌, ◌≤◌, ◌<◌, ◌≡◌, length}
use Rattle.std.proofs.Common.{arith, sym, ap, ◌∙◌}
use Rattle.std.proofs.Math.Path.{refl}
use mathlib.Core.List.{List, [], ◌++◌, append_assoc}
use Rattle.std.proofs.Math.ListN.{length-append}
use Rattle.model.proofs.Theorems.Printing.Decimals.{decimal_byte, decimal_word}
use Rattle.model.specs.declared.Refusal.{Refusal}
use Rattle.model.specs.Listing.{decimal, plan_word, layers_word, no_plan_word, refusal_word, place_word, space, newline, refusal_text}

-- a word, a number and the line's end
unfoldable pub line_text : List ℕ → ℕ → List ℕ
line_text word n = word ++ decimal n ++ newline

-- the same with a word and a number before it
unfoldable pub pair_text : List ℕ → ℕ → List ℕ → ℕ → List ℕ
pair_text first a second b = first ++ decimal a ++ second ++ decimal b ++ newline

module _ (word : List ℕ) (n : ℕ) where
  pub length_line : length (line_text word n) ≡ length word + length (decimal n) + 1
  unfolding line_text newline
  length_line = rw (length-append (word ++ decimal n) newline, length-append word (decimal n)) refl

module _ (first : List ℕ) (a : ℕ) (second : List ℕ) (b : ℕ) where
  pub pair_line : first ++ decimal a ++ line_text second b ≡ pair_text first a second b
  unfolding line_text pair_text
  pair_line = simp append_assoc

  pub length_pair : length (pair_text first a second b) ≡ length first + length (decimal a) + length (line_text second b)
  length_pair =
      ap length (sym pair_line)
      ∙ rw (length-append (first ++ decimal a) (line_text second b), length-append first (decimal a)) refl

-- "plan 3 layers 2": "records and layers"
unfoldable pub plan_line : ℕ → ℕ → List ℕ
plan_line records layers = pair_text plan_word records layers_word layers

-- "no plan layers" and the layers
unfoldable pub no_plan_text : ℕ → List ℕ
no_plan_text layers = line_text no_plan_word layers

-- "0 2": "move and count"
unfoldable pub record_line : ℕ → ℕ → List ℕ
record_line move count = pair_text [] move space count

-- ---- the room that a line takes: a 64-bit number has at most 20 digits

pub line_room : (word : List ℕ) (n : ℕ) → n < 2 ^ 64 → length (line_text word n) ≤ length word + 21
line_room word n h = omega (arith, length_line word n, decimal_word n h)

module _ (first : List ℕ) (a : ℕ) (second : List ℕ) (b : ℕ) (small : b < 2 ^ 64) where
  pub pair_room : a < 2 ^ 64 → length (pair_text first a second b) ≤ length first + length second + 41
  pair_room h = omega (arith, length_pair first a second b, decimal_word a h, line_room second b small)

  -- and a byte at most 3
  pub byte_room : a < 256 → length (pair_text first a second b) ≤ length first + length second + 24
  byte_room h = omega (arith, length_pair first a second b, decimal_byte a h, line_room second b small)

pub record_room : (move count : ℕ) → move < 256 → count < 2 ^ 64 → length (record_line move count) ≤ 25
unfolding record_line space
record_room move count h k = byte_room [] move space count k h

pub plan_room : (records layers : ℕ) → records < 2 ^ 64 → layers < 2 ^ 64 → length (plan_line records layers) ≤ 54
unfolding plan_line plan_word layers_word
plan_room records layers h k = pair_room plan_word records layers_word layers k h

pub no_plan_room : (layers : ℕ) → layers < 2 ^ 64 → length (no_plan_text layers) ≤ 36
unfolding no_plan_text no_plan_word layers_word
no_plan_room layers h = line_room no_plan_word layers h

pub refusal_room : (r : Refusal) → r.number < 2 ^ 64 → r.place < 2 ^ 64 → length (refusal_text r) ≤ 56
unfolding refusal_text refusal_word place_word pair_text
refusal_room r h k = pair_room refusal_word r.number place_word r.place k h
