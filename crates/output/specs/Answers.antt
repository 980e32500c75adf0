-- The answer of a call that writes bytes, with what its output holds afterwards. Assumes nothing.
use Rattle.std.specs.Prelude.{ℕ, ◌≤◌, ◌<◌, ◌≡◌, refl, Bool, true, false, List, ltb, length, Result, Ok, Err}
use Rattle.std.proofs.Common.{zero-add, arith, subst, ◌∙◌, ltb-true, ltb-false}
use Rattle.std.proofs.Math.Path.{sym, ap}
use Rattle.model.specs.declared.Refusal.{Refusal}
use Rattle.model.specs.Memory.{overwrite}
use Rattle.model.specs.Calls.{Output, writes, turns, fitted, write_answer, output_after}
use Rattle.model.proofs.Theorems.Printing.Outputs.{fitted_whole, fitted_short}
use Rattle.output.specs.Writing.{Written, written_first}

-- o is what the call writes, or why it turns back, 13 apart
pub record Answered (o : Output) (old new : List ℕ) (r : Result ℕ Refusal) : Type 0 where
  pub answer : r ≡ write_answer (fitted (length old) o)
  pub output : new ≡ output_after (fitted (length old) o) old

pub answered_same : {o p : Output} {old new : List ℕ} {r : Result ℕ Refusal} → Answered o old new r → o ≡ p → Answered p old new r
answered_same {old = old} {new} {r} a e = subst (λ (x : Output). Answered x old new r) e a

-- the call turns back
pub answered_refused : {o : Output} (old : List ℕ) {q : Refusal} → o ≡ turns q → Answered o old old (Err q)
unfolding fitted write_answer output_after
answered_refused old {q} e = answered_same {o = turns q} {old = old} (record { answer = refl; output = refl }) (sym e)

-- the bytes are written, or the output is too short for them
module _ {old bs : List ℕ} {n : ℕ} (e : n ≡ length bs) where
  pub answered_short : length old < n → Answered (writes bs) old old (Err (record { number = 13; place = 0 }))
  unfolding write_answer output_after
  answered_short h =
      let o : turns (record { number = 13; place = 0 }) ≡ fitted (length old) (writes bs) = sym (fitted_short (length old) bs (omega arith)) in
      record { answer = ap write_answer o; output = ap (λ (x : Output). output_after x old) o }

  pub answered_whole : n ≤ length old → {new : List ℕ} → new ≡ overwrite bs old → Answered (writes bs) old new (Ok n)
  unfolding write_answer output_after
  answered_whole h f =
      let o : writes bs ≡ fitted (length old) (writes bs) = sym (fitted_whole (length old) bs (omega arith)) in
      record { answer = ap Ok e ∙ ap write_answer o; output = f ∙ ap (λ (x : Output). output_after x old) o }

-- the same by a test of the lengths
module _ {old bs : List ℕ} {b : Bool} (test : b ≡ ltb (length old) (length bs)) where
  pub answered_thirteen : b ≡ true → Answered (writes bs) old old (Err (record { number = 13; place = 0 }))
  answered_thirteen e = answered_short refl (ltb-true (length old) (length bs) (sym test ∙ e))

  pub answered_put : b ≡ false → {new : List ℕ} {n : ℕ} → Written old 0 bs new n → Answered (writes bs) old new (Ok n)
  answered_put e w =
      let size = w.behind ∙ zero-add (length bs) in
      let fits = ltb-false (length old) (length bs) (sym test ∙ e) in
      answered_whole size (omega (arith, size, fits)) (written_first w (omega (arith, size, fits)))
