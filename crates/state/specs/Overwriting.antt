-- Tables written over the start of a list: `overwrite (tabulate f 0 n) old`. One more entry is one store; what each element is.
-- Assumes nothing.
use Prim.Native.Nat.{ℕ, zero, suc, ◌+◌, ◌≤◌, ◌<◌}
use Rattle.std.proofs.Common.{add-zero, zero-add, suc-add, arith, ◌∙◌, drop-cons}
use Rattle.std.proofs.Math.Nat.{add-suc}
use Rattle.std.proofs.Math.Numerals.{add-one}
use Rattle.std.specs.Prelude.{◌≡◌, length, get_or}
use Rattle.std.proofs.Math.Path.{refl, sym, ap}
use mathlib.Core.List.{List, [], ◌∷◌, ◌++◌, append_assoc}
use Rattle.std.proofs.Math.ListN.{set, drop, length-append}
use Rattle.std.proofs.Math.Seq.{set_at}
use Rattle.integer.specs.Store.{put, put_append}
use Rattle.model.specs.Lists.{tabulate}
use Rattle.model.specs.Memory.{overwrite}
use Rattle.model.proofs.Theorems.Laws.Searching.{length_tabulate, get_d_tabulate}
use Rattle.model.proofs.Theorems.Printing.Outputs.{overwrite_at, overwrite_past, length_overwrite, put_first}

-- ---- tables

module _ {A : Type 0} (f : ℕ → A) where
  -- the last entry apart
  pub tabulate_last : (i n : ℕ) → tabulate f i (suc n) ≡ tabulate f i n ++ (f (i + n) ∷ [])
  unfolding tabulate
  tabulate_last i zero = rw (add-zero i) refl
  tabulate_last i (suc n) =
      ap (λ (l : List A). f i ∷ l) (tabulate_last (suc i) n ∙ rw (suc-add i n, add-suc i n) refl)

-- ---- tables written over the start of a list

module _ {A : Type 0} (f : ℕ → A) (old : List A) where
  -- the entry for j, and an element past the table
  pub written_at : (n j : ℕ) (d : A) → j < n → get_or (overwrite (tabulate f 0 n) old) j d ≡ f j
  written_at n j d h =
      overwrite_at (tabulate f 0 n) old d j (omega (arith, length_tabulate f 0 n))
      ∙ get_d_tabulate f 0 n j d h
      ∙ ap f (omega arith)

  pub written_past : (n j : ℕ) (d : A) → n ≤ j → get_or (overwrite (tabulate f 0 n) old) j d ≡ get_or old j d
  written_past n j d h = overwrite_past (tabulate f 0 n) old d j (omega (arith, length_tabulate f 0 n))

  pub length_written : (n : ℕ) → n ≤ length old → length (overwrite (tabulate f 0 n) old) ≡ length old
  length_written n h = length_overwrite (tabulate f 0 n) old (omega (arith, length_tabulate f 0 n))

  -- no entry, and one more
  pub written_none : old ≡ overwrite (tabulate f 0 0) old
  unfolding overwrite tabulate
  written_none = refl

  pub written_next :
      (n : ℕ)
      → n < length old
      → set (overwrite (tabulate f 0 n) old) n (f n) ≡ overwrite (tabulate f 0 (n + 1)) old
  unfolding overwrite
  written_next n h =
      let new = tabulate f 0 n in
      let z : f (0 + n) ≡ f n = ap f (omega arith) in
      let r = drop (suc n) old in
      rw (add-one n, tabulate_last f 0 n, z, length-append new (f n ∷ []), length_tabulate f 0 n, add-one n)
      (ap (λ (l : List A). set (new ++ l) n (f n)) (drop-cons old n (f n) h)
      ∙ set_at new (get_or old n (f n)) r (f n) n (length_tabulate f 0 n)
      ∙ sym (append_assoc new (f n ∷ []) r))

-- a store behind what was written
pub overwrite_put :
    (bs cs old : List ℕ) (at : ℕ)
    → length bs ≡ at
    → at ≤ length old
    → put (overwrite bs old) at cs ≡ overwrite (bs ++ cs) old
overwrite_put bs cs old at e h =
    ap (λ (l : List ℕ). put l at cs) (sym (put_first old bs))
    ∙ ap (λ (n : ℕ). put (put old 0 bs) n cs) (sym (zero-add (length bs) ∙ e))
    ∙ put_append old 0 bs cs (omega arith)
    ∙ put_first old (bs ++ cs)
