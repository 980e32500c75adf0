-- The full ceiling refuses nothing that document 01 accepts, and leaves every memory whole: under it each call is the call of document 01.
-- Assumes nothing.
use Rattle.std.specs.Prelude.{ℕ, ◌≤◌, ◌≡◌, refl, false, List, ltb, ℤ}
use Rattle.std.proofs.Common.{arith, nltb→le, le-ltb}
use Rattle.std.proofs.Math.Dec.{not_T}
use Rattle.model.specs.Limits.{paper}
use Rattle.model.specs.Task.{Form, written, normal}
use Rattle.model.specs.Seen.{Head}
use Rattle.model.specs.Reading.{Verdict, accepted, refused, Wanted, only, both, reading}
use Rattle.ceiling.specs.Ceiling.{Ceiling, full, most_vars, beyond}
use Rattle.model.specs.Theorems.Reading.WellFormed.{TaskOk, VarsOk}
use Rattle.model.proofs.Theorems.Laws.Booleans.{or_left, or_right, false_not}
use Rattle.model.proofs.Theorems.Reading.Accepted.{reading_ok, reading_head}
use Rattle.ceiling.specs.Theorems.Calls.{Beneath}
use Rattle.ceiling.proofs.Theorems.Calls.{SameReading, same_reading, SameWriting, same_writing, WholePlanning, whole_planning}

-- a head is not beyond a ceiling exactly if its counts are within
pub not_beyond : (C : Ceiling) (h : Head) → h.moves ≤ C.moves → h.vars ≤ most_vars C h.form → beyond C h ≡ false
unfolding beyond
not_beyond C h moves vars = rw (le-ltb C.moves h.moves moves, le-ltb (most_vars C h.form) h.vars vars) refl

pub beneath_counts : (C : Ceiling) (h : Head) → beyond C h ≡ false → (h.moves ≤ C.moves) × (h.vars ≤ most_vars C h.form)
unfolding beyond
beneath_counts C h e =
    let a = ltb C.moves h.moves in
    let b = ltb (most_vars C h.form) h.vars in (
      nltb→le C.moves h.moves (not_T a (λ more. false_not e (or_left a b more))),
      nltb→le (most_vars C h.form) h.vars (not_T b (λ more. false_not e (or_right a b more))),
    )

vars_within : (f : Form) (n : ℕ) → VarsOk paper f n → n ≤ most_vars full f
unfolding paper most_vars full
vars_within written n h = h
vars_within normal n h = h.0

pub full_refuses_none : (w : Wanted) (t : List ℕ) → Beneath full (reading paper w t)
unfolding full paper
full_refuses_none w t = go (reading paper w t) refl
  where
    go : (v : Verdict) → reading paper w t ≡ v → Beneath full v
    go (accepted k) e =
        let ok : TaskOk paper k.header.form k.task = reading_ok paper w t e in
        let counts = reading_head paper w t e in
        not_beyond full k.header (omega (arith, ok.moves, counts.2))
        (omega (arith, vars_within k.header.form k.task.vars ok.vars, counts.1))
    go (refused r) e = tt

pub record FullIsNone (t : List ℕ) : Type 0 where
  pub reading : SameReading full paper t
  pub writing : SameWriting full paper t
  pub planning : (bs : List ℕ) (mem : List ℤ) → WholePlanning full paper t bs mem

pub full_is_none : (t : List ℕ) → FullIsNone t
unfolding full
full_is_none t =
    record {
      reading = same_reading full paper t (full_refuses_none both t);
      writing = same_writing full paper t (full_refuses_none (only written) t);
      planning = λ bs mem. whole_planning full paper t (full_refuses_none (only normal) t) bs mem tt;
    }
