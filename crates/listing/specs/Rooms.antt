-- The listing program's buffers, and that what it prints is the definition's text.
-- Assumes nothing.
use Rattle.std.specs.Prelude.{ℕ, ◌≤◌, ◌≡◌, ℤ, length, take, drop, Ok, Err}
use Rattle.std.proofs.Math.Path.{sym, ap}
use Rattle.std.proofs.Common.{subst, ◌∙◌, arith}
use mathlib.Core.List.{List, []}
use Rattle.std.proofs.Math.Seq.{take-append_seam}
use Rattle.model.specs.declared.Refusal.{Refusal}
use Rattle.model.specs.Limits.{paper}
use Rattle.model.specs.Memory.{overwrite}
use Rattle.model.specs.Calls.{Output, on_output, prepared, normalised, normalise_answer, normalise_out, plan_answer, plan_out}
use Rattle.model.specs.Listing.{listing, listing_layers, listing_bytes, refusal_text, answer_text, ready_text}
use Rattle.model.proofs.Theorems.Printing.Outputs.{length_overwrite}
use Rattle.model.proofs.Theorems.Campaigns.Demand2.{written_hands, refused_turns}
use Rattle.report.specs.Answer.{Lists, Printable, Printed}
use Rattle.report.specs.Plans.{planned_records, text_length, plan_lists, plan_text, plan_printable, refused_printable}

-- "layer memory has 8,192 numbers, the plan 64,000 bytes"
pub record Rooms (normal_form : List ℕ) (layers : List ℤ) (plan text : List ℕ) : Type 0 where
  pub normal_length_lem : length normal_form ≡ 64_000
  pub layers_length : length layers ≡ 8_192
  pub plan_length : length plan ≡ 64_000
  pub text_length_holds : length text ≡ 160_056

-- the text that was printed, at the start of the buffer
abbrev pub Prints : List ℕ → List ℕ → ℕ → List ℕ → Type 0
Prints t bs n new = (take n new ≡ listing paper t bs) × (n ≤ length new)

pub printed_is : (t bs : List ℕ) {old text new : List ℕ} {n : ℕ} → Printed old text new n → text ≡ listing paper t bs → Prints t bs n new
unfolding overwrite
printed_is t bs {old} {text} {new} {n} p e = (
  subst (λ (m : ℕ). take m new ≡ text) (sym p.size) (ap (take (length text)) p.is ∙ take-append_seam text (drop (length text) old)) ∙ e,
  omega (arith, p.size, p.fits, ap length p.is ∙ length_overwrite text old p.fits),
)

-- what is listed once normalise has written or turned back
output_text : List ℕ → Output → List ℕ
output_text bs o = on_output o (λ nb. ready_text paper (prepared paper nb bs)) (λ r. refusal_text r)

module _ {normal_form : List ℕ} {layers : List ℤ} {plan text : List ℕ} (rooms : Rooms normal_form layers plan text) (t bs : List ℕ) where
  layers_are : length layers ≡ listing_layers
  unfolding listing_layers
  layers_are = rooms.layers_length

  plan_is : length plan ≡ listing_bytes
  unfolding listing_bytes
  plan_is = rooms.plan_length

  text_is : length text ≡ text_length
  unfolding text_length
  text_is = rooms.text_length_holds

  listing_is : {o : Output} → normalised paper t (length normal_form) ≡ o → output_text bs o ≡ listing paper t bs
  unfolding listing listing_bytes output_text
  listing_is e = sym (ap (output_text bs) (ap (normalised paper t) (sym rooms.normal_length_lem) ∙ e))

  -- normalise turns back
  pub refused_room : (r : Refusal) → Printable (Err r) plan text
  refused_room r = refused_printable r plan text text_is

  pub refused_text : (r : Refusal) → normalise_answer paper t normal_form ≡ Err r → answer_text (Err r) [] ≡ listing paper t bs
  unfolding answer_text output_text on_output
  refused_text r e = listing_is (refused_turns t normal_form r e)

  -- normalise writes n bytes, and plan is given those
  module _ (part : List ℕ) {after : List ℕ} (is : after ≡ plan_out paper part bs layers plan) where
    pub planned_room : Printable (plan_answer paper part bs layers plan) after text
    planned_room = rw is (plan_printable part bs layers plan layers_are plan_is text text_is)

    pub planned_lists : Lists (plan_answer paper part bs layers plan) after (planned_records (prepared paper part bs))
    planned_lists = rw is (plan_lists part bs layers plan layers_are plan_is)

  pub planned_text :
      (n : ℕ) (part : List ℕ)
      → normalise_answer paper t normal_form ≡ Ok n
      → part ≡ take n (normalise_out paper t normal_form)
      → answer_text (plan_answer paper part bs layers plan) (planned_records (prepared paper part bs)) ≡ listing paper t bs
  unfolding output_text on_output
  planned_text n part e f =
      let h = written_hands t normal_form n e in
      plan_text part bs layers plan layers_are plan_is
      ∙ ap (λ (nb : List ℕ). ready_text paper (prepared paper nb bs)) (f ∙ h.part)
      ∙ listing_is h.is
