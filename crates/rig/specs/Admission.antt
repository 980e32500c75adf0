-- Which tables go on to the full call: what the test of the head and the checks of the table tell. Assumes nothing.
use Rattle.std.specs.Prelude.{ℕ, ◌≡◌, refl, Bool, true, false, not, List, Result, Ok, Err}
use Rattle.std.proofs.Common.{sym, subst, ◌∙◌}
use Rattle.std.proofs.Math.Path.{ap}
use Rattle.model.specs.declared.Refusal.{Refusal}
use Rattle.model.specs.declared.Head.{Head}
use Rattle.model.specs.Limits.{paper}
use Rattle.model.specs.Reading.{Verdict, accepted, refused, Wanted, reading}
use Rattle.ceiling.specs.Ceiling as ceilings
use Rattle.ceiling.specs.Theorems.Calls.{Beneath}
use Rattle.ceiling.proofs.Theorems.Calls.{seventeen_exactly}
use Rattle.table.specs.Answer.{Outlined, answer_accepted, answer_refused}
use Rattle.ceiling.specs.declared.Ceiling.{Ceiling}
use Rattle.ceiling.specs.Heads.{ceiling_of, IsBeyond}

-- 17 does not turn the table away; or why it is turned away, by 17 or an earlier check
abbrev pub Admits : Ceiling → Wanted → List ℕ → Result (Unit {0}) Refusal → Type 0
Admits c w t (Ok u) = Beneath (ceiling_of c) (reading paper w t)
Admits c w t (Err r) = ceilings.reading_under (ceiling_of c) paper w t ≡ refused r

not_not : (b : Bool) → not (not b) ≡ b
not_not true = refl
not_not false = refl

module _ (c : Ceiling) (w : Wanted) (t : List ℕ) where
  pub not_beyond_admits : {b : Bool} → IsBeyond c t b → not b ≡ true → Beneath (ceiling_of c) (reading paper w t)
  not_beyond_admits {b} is e = go (reading paper w t) refl
    where
      go : (v : Verdict) → reading paper w t ≡ v → Beneath (ceiling_of c) v
      go (accepted k) read_is = sym (is w k read_is) ∙ sym (not_not b) ∙ ap not e
      go (refused r) read_is = tt

  pub beyond_refused :
      {b : Bool} {r : Result Head Refusal} {marks : List ℕ} {h : Head} → IsBeyond c t b → not b ≡ false
      → Outlined t (reading paper w t) r marks → r ≡ Ok h
      → ceilings.reading_under (ceiling_of c) paper w t ≡ refused (record { number = 17; place = 0 })
  beyond_refused {b} {h = h} is e o head-is =
      let a = answer_accepted (reading paper w t) h (sym o.answer ∙ head-is) in
      (seventeen_exactly (ceiling_of c) paper w t).1
      (record { table = a.table; read = a.is; head = sym (is w a.table a.is) ∙ sym (not_not b) ∙ ap not e })

  pub table_refused :
      {r : Result Head Refusal} {marks : List ℕ} {q : Refusal} → Outlined t (reading paper w t) r marks → r ≡ Err q
      → ceilings.reading_under (ceiling_of c) paper w t ≡ refused q
  unfolding ceilings.reading_under ceilings.under
  table_refused {q = q} o e = ap (ceilings.under (ceiling_of c)) (answer_refused (reading paper w t) q (sym o.answer ∙ e))

  -- by what was answered
  pub admitted : {a : Result (Unit {0}) Refusal} {u : Unit {0}} → Admits c w t a → a ≡ Ok u → Beneath (ceiling_of c) (reading paper w t)
  admitted h e = subst (Admits c w t) e h

  pub turned : {a : Result (Unit {0}) Refusal} {r : Refusal} → Admits c w t a → a ≡ Err r → ceilings.reading_under (ceiling_of c) paper w t ≡ refused r
  turned h e = subst (Admits c w t) e h
