-- What stands in a lent memory whose start was written over, and when an output is too short (13). Assumes nothing.
use Rattle.std.specs.Prelude.{ℕ, ◌+◌, ◌-◌, ◌≤◌, ◌<◌, ◌≡◌, ltb, get_or, take, drop, Result, Ok, Err}
use Rattle.std.proofs.Common.{zero-add, sym, ◌∙◌, subst, lt-ltb, le-ltb, ltb→lt, nltb→le, get_or-append-add}
use native.Mathlib.Omega.{arith}
use Rattle.std.proofs.Math.Path.{refl, ap}
use mathlib.Core.List.{List, ◌++◌}
use Rattle.std.proofs.Math.Dec.{not_T}
use Rattle.std.proofs.Math.ListN.{length, length-append, length-drop, get_or-append}
use Rattle.std.proofs.Math.Seq.{get_or-drop, take-append_seam, drop-append_seam}
use Rattle.integer.specs.Store.{put}
use Rattle.model.specs.Memory.{overwrite, Built}
use Rattle.model.specs.Task.{Task}
use Rattle.model.specs.Move.{State}
use Rattle.model.specs.declared.Refusal.{Refusal}
use Rattle.model.specs.declared.PlanAnswer.{PlanAnswer}
use Rattle.model.specs.Calls.{Output, writes, turns, on_output, fitted, write_answer, output_after, record_bytes, plan_records, planned, plan_fitted}
use Rattle.model.proofs.Theorems.Laws.Booleans.{T-cases}

-- ---- written over the start

module _ {A : Type 0} (new old : List A) where
  pub length_overwrite : length new ≤ length old → length (overwrite new old) ≡ length old
  unfolding overwrite
  length_overwrite h = length-append new (drop (length new) old) ∙ omega (arith, length-drop (length new) old)

  -- once more changes nothing
  pub overwrite_again : overwrite new (overwrite new old) ≡ overwrite new old
  unfolding overwrite
  overwrite_again = ap (λ (l : List A). new ++ l) (drop-append_seam new (drop (length new) old))

  module _ (d : A) where
    pub overwrite_at : (i : ℕ) → i < length new → get_or (overwrite new old) i d ≡ get_or new i d
    unfolding overwrite
    overwrite_at i h = get_or-append new (drop (length new) old) d i h

    pub overwrite_past : (i : ℕ) → length new ≤ i → get_or (overwrite new old) i d ≡ get_or old i d
    unfolding overwrite
    overwrite_past i h =
        let e : i ≡ length new + (i - length new) = omega arith in
        rw e
        (get_or-append-add new (drop (length new) old) (i - length new) d ∙ get_or-drop (length new) old (i - length new) d)

-- bytes stored from place 0 on
pub put_first : (old bs : List ℕ) → put old 0 bs ≡ overwrite bs old
unfolding overwrite put
put_first old bs = rw (zero-add (length bs)) refl

-- ---- "13 | output shorter than the result | 0"
module _ (size : ℕ) (bs : List ℕ) where
  pub fitted_whole : length bs ≤ size → fitted size (writes bs) ≡ writes bs
  unfolding fitted
  fitted_whole h = rw (le-ltb size (length bs) h, fitted) refl

  pub fitted_short : size < length bs → fitted size (writes bs) ≡ turns (record { number = 13; place = 0 })
  unfolding fitted
  fitted_short h = rw (lt-ltb size (length bs) h, fitted) refl

  -- what holds in both cases holds
  pub fitted_cases :
      (P : Output → Type 0)
      → (length bs ≤ size → P (writes bs))
      → (size < length bs → P (turns (record { number = 13; place = 0 })))
      → P (fitted size (writes bs))
  fitted_cases P whole short =
      T-cases (ltb size (length bs))
      (λ t. let h : size < length bs = ltb→lt size (length bs) t in subst P (sym (fitted_short h)) (short h))
      (λ t.
      let h : length bs ≤ size = nltb→le size (length bs) (not_T (ltb size (length bs)) t) in
      subst P (sym (fitted_whole h)) (whole h))

-- an output keeps its length
pub fitted_length : (out : List ℕ) (o : Output) → length (output_after (fitted (length out) o) out) ≡ length out
unfolding fitted output_after
fitted_length out (turns r) = refl
fitted_length out (writes bs) =
    fitted_cases (length out) bs (λ (o : Output). length (output_after o out) ≡ length out) (λ h. length_overwrite bs out h) (λ h. refl)

-- an answer of n bytes: what was written is the first n bytes of the output
pub written_part : (o : Output) (out : List ℕ) (n : ℕ) → write_answer o ≡ Ok n → o ≡ writes (take n (output_after o out))
unfolding write_answer output_after overwrite
written_part (turns r) out n e = cc
written_part (writes bs) out n e =
    let same : length bs ≡ n = cc in
    let rest = drop (length bs) out in
    ap writes (subst (λ (m : ℕ). bs ≡ take m (bs ++ rest)) same (sym (take-append_seam bs rest)))

pub written_inside : (o : Output) (out : List ℕ) (n : ℕ) → write_answer o ≡ Ok n → n ≤ length (output_after o out)
unfolding write_answer output_after overwrite
written_inside (turns r) out n e = let z : ◌≡◌ {A = ℕ} 0 1 = cc in absurd (omega arith)
written_inside (writes bs) out n e =
    let same : length bs ≡ n = cc in omega (arith, same, length-append bs (drop (length bs) out))

-- plan's answer
module _ (size : ℕ) (k : Task) (s : State) (b : Built) where
  abbrev bytes_of : List ℕ
  bytes_of = record_bytes (plan_records k s b)

  pub plan_whole : length bytes_of ≤ size → plan_fitted size k s b ≡ planned k s b
  unfolding plan_fitted on_output
  plan_whole h = rw (fitted_whole size bytes_of h) refl

  pub plan_short : size < length bytes_of → plan_fitted size k s b ≡ Err (record { number = 13; place = 0 })
  unfolding plan_fitted on_output
  plan_short h = rw (fitted_short size bytes_of h) refl

  pub plan_cases :
      (P : Result PlanAnswer Refusal → Type 0)
      → (length bytes_of ≤ size → P (planned k s b))
      → P (Err (record { number = 13; place = 0 }))
      → P (plan_fitted size k s b)
  unfolding plan_fitted on_output
  plan_cases P whole short =
      fitted_cases size bytes_of (λ (o : Output). P (on_output o (λ bs. planned k s b) (λ r. Err r))) whole (λ h. short)
