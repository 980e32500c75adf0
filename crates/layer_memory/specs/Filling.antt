-- A list of which the first n elements are written anew: entries cleared and noted, a row of values stored.
-- Assumes nothing.
use Rattle.std.specs.Prelude.{ℕ, ◌+◌, ◌≤◌, ◌<◌, ◌≡◌, Bool, ◌&&◌, List, ◌++◌, ◌-◌, drop, ℤ, pos, negsuc, length, get_or, set}
use Rattle.std.proofs.Common.{arith, sym, ◌∙◌, subst, length-set, get_or-set_same, get_or-set_other, length-append, length-drop}
use Rattle.std.proofs.lemmas.List.{get_or-append_right, get_or-drop}
use Rattle.std.proofs.Math.ListN.{get_or-append}
use Rattle.std.proofs.Math.Path.{refl, ap}
use Rattle.std.proofs.Math.Bool.{true, false, cond}
use Rattle.std.specs.Int.Signed.{lt_z}
use Rattle.model.proofs.Theorems.Laws.Searching.{below_suc}
use Rattle.model.specs.Theorems.Layers.Entries.{noted}

-- the first n elements are g's, the others are as they were; d stands for what is past the end
pub record Filled {A : Type 0} (d : A) (g : ℕ → A) (n : ℕ) (old new : List A) : Type 0 where
  pub same_length : length new ≡ length old
  pub done : (i : ℕ) → i < n → get_or new i d ≡ g i
  pub kept : (i : ℕ) → n ≤ i → get_or new i d ≡ get_or old i d

module _ {A : Type 0} {d : A} {g : ℕ → A} {old : List A} where
  pub filled_none : Filled d g 0 old old
  filled_none = record { same_length = refl; done = λ i h. absurd (omega arith); kept = λ i h. refl }

  pub filled_step : {new : List A} {i : ℕ} → i < length old → Filled d g i old new → {x : A} → x ≡ g i → Filled d g (i + 1) old (set new i x)
  filled_step {new} {i} room f {x} e =
      record {
        same_length = length-set new i x ∙ f.same_length;
        done =
            λ j h.
            below_suc j i (omega arith)
            (λ below. get_or-set_other new i j x d (λ q. omega arith) ∙ f.done j below)
            (λ q. subst (λ (m : ℕ). get_or (set new i x) m d ≡ g m) (sym q) (get_or-set_same new i x d (omega (arith, f.same_length)) ∙ e));
        kept = λ j h. get_or-set_other new i j x d (λ q. omega arith) ∙ f.kept j (omega arith);
      }

  -- the first n written at once
  pub filled_front : (part : List A) {n : ℕ} → n ≤ length old → length part ≡ n → ((i : ℕ) → i < n → get_or part i d ≡ g i) → Filled d g n old (part ++ drop n old)
  filled_front part {n} h k f =
      record {
        same_length = omega (arith, length-append part (drop n old), length-drop n old);
        done = λ i b. get_or-append part (drop n old) d i (omega arith) ∙ f i b;
        kept = λ i b. let e : n + (i - n) ≡ i = omega arith in get_or-append_right part (drop n old) n i d k b ∙ get_or-drop n old (i - n) d ∙ ap (λ (j : ℕ). get_or old j d) e;
      }

  pub filled_end : {new : List A} {i n : ℕ} → i ≤ n → n ≤ i → Filled d g i old new → Filled d g n old new
  filled_end {new} {i} {n} h k f = let e : i ≡ n = omega arith in subst (λ (m : ℕ). Filled d g m old new) e f

-- "never is −1"
unfoldable pub cleared : ℕ → ℤ
cleared i = negsuc 0

-- entries after one more layer, t, that has what is marked
unfoldable pub noted_at : List ℤ → List Bool → ℕ → ℕ → ℤ
noted_at old marked t i = noted (get_or old i (pos 0)) (get_or marked i false) t

-- the numbers of a row
unfoldable pub row_at : List ℤ → ℕ → ℤ
row_at row i = get_or row i (pos 0)

-- an entry is filled, was filled before, or is not marked
module _ (e : ℤ) (b : Bool) (t : ℕ) where
  pub noted_fills : b ≡ true → lt_z e (pos 0) ≡ true → pos t ≡ noted e b t
  unfolding noted
  noted_fills h k = rw (h, k) refl

  pub noted_full : lt_z e (pos 0) ≡ false → e ≡ noted e b t
  unfolding noted
  noted_full k = rw k refl

  pub noted_unmarked : b ≡ false → e ≡ noted e b t
  unfolding noted
  noted_unmarked h = rw h (go (lt_z e (pos 0)))
    where
      go : (x : Bool) → e ≡ cond (x && false) (pos t) e
      go true = refl
      go false = refl
