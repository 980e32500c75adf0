-- The block reader's answer from its part, number and place.
-- Assumes nothing.
use Rattle.std.specs.Prelude.{ℕ, ◌+◌, ◌*◌, ◌^◌, ◌≤◌, ◌≡◌, true, false, List, eqb, length, take}
use Rattle.std.proofs.Math.Path.{refl}
use Rattle.std.proofs.Common.{◌∙◌, ne_eqb}
use Rattle.std.proofs.Math.Option.{Option, none, some}
use native.Mathlib.Omega.{arith}
use Rattle.integer.specs.Store.{put}
use Rattle.model.specs.declared.Refusal.{Refusal}
use Rattle.model.specs.Limits.{last_number}
use Rattle.model.specs.Calls.{refusal_number, refusal_place}
use Rattle.model.specs.Exports.{refusal_code, write_code, block_answer, block_copy}
use Rattle.model.specs.Theorems.Reading.Places.{Small, IfSome}
use Rattle.model.specs.Theorems.Sizes.Answers.{place_limit}
use Rattle.model.proofs.Theorems.Printing.Outputs.{put_first}

-- number 0 is no refusal
unfoldable pub part_code : ℕ → ℕ → ℕ → ℕ
part_code len number place = elim (eqb number 0) [ true ↦ len | false ↦ number * 2 ^ 32 + place ]

-- what a block reader hands back, a part that is `whole` and the number and place of a refusal r, as one number
module _ (r : Option Refusal) (is-small : IfSome (Small place_limit) r) {n p : ℕ} (en : n ≡ refusal_number r) (ep : p ≡ refusal_place r) where
  pub block_fits : (n ≤ last_number) × (p ≤ place_limit)
  unfolding refusal_number refusal_place
  block_fits = rw (en, ep) (go r is-small)
    where
      go : (q : Option Refusal) → IfSome (Small place_limit) q → (refusal_number q ≤ last_number) × (refusal_place q ≤ place_limit)
      go none small = (omega arith, omega arith)
      go (some q) small = (small.number, small.place)

  pub block_answer_lem : (whole : List ℕ) {part : List ℕ} → part ≡ whole → part_code (length part) n p ≡ write_code (block_answer whole r)
  unfolding part_code refusal_number refusal_place block_answer write_code refusal_code
  block_answer_lem whole e = rw (e, en, ep) (go r is-small)
    where
      go : (q : Option Refusal) → IfSome (Small place_limit) q → part_code (length whole) (refusal_number q) (refusal_place q) ≡ write_code (block_answer whole q)
      go none small = refl
      go (some q) small = rw (ne_eqb q.number 0 (λ z. omega (arith, small.positive)), part_code) refl

-- as much of the part as fits is copied
pub block_copied : (whole out : List ℕ) {part new : List ℕ} → part ≡ whole → new ≡ put out 0 (take (length out) part) → new ≡ block_copy whole out
unfolding block_copy
block_copied whole out e copied = rw e at copied ∙ put_first out (take (length out) whole)
