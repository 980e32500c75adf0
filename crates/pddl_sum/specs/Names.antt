-- Names of the PDDL text, and the texts of numbers one behind the other: how they are written one by one. Assumes nothing.
use Rattle.std.specs.Prelude.{ℕ, zero, suc, ◌+◌, ◌-◌, ◌≤◌, ◌<◌, ◌≡◌, refl, List, [], ◌++◌}
use Rattle.std.proofs.Common.{add-one, sym, ap, ap₂, ◌∙◌}
use native.Mathlib.Omega.{arith}
use Rattle.model.specs.Ascii.{ascii}
use Rattle.model.specs.Listing.{decimal}
use Rattle.output.specs.Writing.{Written, Room, Writing, writing_start, writing_rest, writing_room, writing_step, writing_end}

-- a name: what opens it, its number and a closing bracket
unfoldable pub name_text : List ℕ → ℕ → List ℕ
name_text word n = word ++ decimal n ++ ascii ")"

-- ---- one behind the other

-- the texts of the n numbers from i on
unfoldable pub each : (ℕ → List ℕ) → ℕ → ℕ → List ℕ
each f i zero = []
each f i (suc n) = f i ++ each f (suc i) n

pub each_same : {f g : ℕ → List ℕ} → ((j : ℕ) → f j ≡ g j) → (i n : ℕ) → each f i n ≡ each g i n
unfolding each
each_same e i zero = refl
each_same e i (suc n) = ap₂ ◌++◌ (e i) (each_same e (suc i) n)

-- ---- one by one: those before i are written

pub record EachWriting (f : ℕ → List ℕ) (n i : ℕ) (old : List ℕ) (at : ℕ) (new : List ℕ) (to : ℕ) : Type 0 where
  pub within : i ≤ n
  pub writing : Writing old at (each f 0 n) new to (each f i (n - i))

pub each_start : (f : ℕ → List ℕ) (n : ℕ) (old : List ℕ) (at : ℕ) → EachWriting f n 0 old at old at
each_start f n old at =
    let e : n - 0 ≡ n = omega arith in
    record { within = omega arith; writing = rw e (writing_start old at (each f 0 n)) }

each_next : (f : ℕ → List ℕ) (n i : ℕ) → i < n → each f i (n - i) ≡ f i ++ each f (i + 1) (n - (i + 1))
unfolding each
each_next f n i h =
    let e : n - i ≡ suc (n - (i + 1)) = omega arith in
    ap (each f i) e ∙ ap (λ (j : ℕ). f i ++ each f j (n - (i + 1))) (sym (add-one i))

module _ {f : ℕ → List ℕ} {n i : ℕ} {old : List ℕ} {at : ℕ} {new : List ℕ} {to : ℕ} (p : EachWriting f n i old at new to) where
  pub each_room : i < n → Room at (each f 0 n) → Room to (f i)
  each_room h r = writing_room (f i) (each f (i + 1) (n - (i + 1))) (writing_rest p.writing (each_next f n i h)) r

  pub each_step : i < n → {next : List ℕ} {on : ℕ} → Written new to (f i) next on → EachWriting f n (i + 1) old at next on
  each_step h w = record { within = omega arith; writing = writing_step (writing_rest p.writing (each_next f n i h)) w }

  pub each_end : n ≤ i → Written old at (each f 0 n) new to
  unfolding each
  each_end h = let e : n - i ≡ 0 = omega arith in writing_end (writing_rest p.writing (ap (each f i) e))

-- ---- declarations

-- n names, each behind `word`, behind what opens their list; nothing where there are none
unfoldable pub declared : List ℕ → List ℕ → ℕ → List ℕ
declared open-list word zero = []
declared open-list word (suc n) = open-list ++ each (name_text word) 0 (suc n) ++ ascii ")"

-- by their number
pub declared_none : (open-list word : List ℕ) {n : ℕ} → n ≡ 0 → declared open-list word n ≡ []
unfolding declared
declared_none open-list word e = ap (declared open-list word) e

pub declared_some : (open-list word : List ℕ) (n : ℕ) → (n ≡ 0 → ⊥) → declared open-list word n ≡ open-list ++ each (name_text word) 0 n ++ ascii ")"
unfolding declared
declared_some open-list word zero h = absurd (h refl)
declared_some open-list word (suc n) h = refl
