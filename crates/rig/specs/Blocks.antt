-- The block reader's part and refusal, as the call under a ceiling. Assumes nothing.
use Rattle.std.specs.Prelude.{ℕ, ◌≡◌, List, []}
use Rattle.std.proofs.Math.Path.{sym, ap, subst}
use Rattle.std.proofs.Common.{◌∙◌}
use Rattle.std.specs.Borrow.{Bor}
use Rattle.model.specs.declared.Refusal.{Refusal}
use Rattle.model.specs.Limits.{paper}
use Rattle.model.specs.Calls.{block_part, block_start, block_refusal, refusal_number, refusal_place}
use Rattle.ceiling.specs.Ceiling.{Ceiling, block_part_under, block_start_under, block_refusal_under}
use Rattle.ceiling.proofs.Theorems.Calls.{SameReading, TurnedReading}
use Rattle.reader.specs.Parts.{LiesAt}

module _ (C : Ceiling) (table part : Bor (List ℕ)) (b number place : ℕ) where
  -- the part and the refusal that the reader hands back, under the ceiling
  abbrev Handed : Type 0
  Handed =
      (part.now ≡ block_part_under C paper table.now b)
      × (number ≡ refusal_number (block_refusal_under C paper table.now b))
      × (place ≡ refusal_place (block_refusal_under C paper table.now b))
      × LiesAt table (block_start_under C paper table.now b) part

  pub same_block :
      SameReading C paper table.now
      → (part.now ≡ block_part paper table.now b)
      × (number ≡ refusal_number (block_refusal paper table.now b))
      × (place ≡ refusal_place (block_refusal paper table.now b))
      × LiesAt table (block_start paper table.now b) part
      → Handed
  same_block same h = (
    h.0 ∙ sym (same.part b),
    h.1 ∙ ap refusal_number (sym (same.refusal b)),
    h.2 ∙ ap refusal_place (sym (same.refusal b)),
    subst (λ (n : ℕ). LiesAt table n part) (sym (same.start b)) h.3,
  )

  pub no_block :
      (r : Refusal) → TurnedReading C paper table.now r → part.now ≡ [] → number ≡ r.number → place ≡ r.place → LiesAt table 0 part → Handed
  unfolding refusal_number refusal_place
  no_block r back none number_is place_is lies = (
    none ∙ sym (back.part b),
    number_is ∙ ap refusal_number (sym (back.refusal b)),
    place_is ∙ ap refusal_place (sym (back.refusal b)),
    subst (λ (n : ℕ). LiesAt table n part) (sym (back.start b)) lies,
  )
