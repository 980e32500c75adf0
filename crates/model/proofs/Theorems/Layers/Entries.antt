-- Entries of layer memory: how one more layer changes an entry, and what an entry says of a layer.
-- Assumes nothing.
use Rattle.std.specs.Prelude.{ℕ, suc, ◌+◌, ◌≤◌, ◌<◌, ◌≡◌, Bool, true, false, ◌&&◌, T, leb, ltb, negsuc}
use Rattle.std.proofs.Math.Path.{refl, sym, ap}
use Rattle.std.proofs.Common.{subst, ◌∙◌, arith, ltb→lt, leb→le, le→leb, nltb→le}
use Rattle.std.proofs.Math.Option.{Option, none, some}
use Rattle.std.proofs.Math.Dec.{not_T, nleb→lt}
use Rattle.std.proofs.Math.IntN.{pos}
use Rattle.std.specs.Int.Signed.{le_z}
use Rattle.integer.specs.Linear.{le_lt_z, pos_mono}
use Rattle.model.specs.Lists.{first_from}
use Rattle.model.specs.Memory.{entry}
use Rattle.model.proofs.Theorems.Laws.Booleans.{true_t, not-false, false_not, T-cases, T-equal, and_right, and_both}
use Rattle.model.proofs.Theorems.Laws.Searching.{first_from_cases}
use Rattle.model.specs.Theorems.Layers.Entries.{noted}

module _ (f : ℕ → Bool) where
  same_first : (i j : ℕ) → T (f i) → T (f j) → ((u : ℕ) → u < i → T (f u) → ⊥) → ((u : ℕ) → u < j → T (f u) → ⊥) → i ≡ j
  same_first i j hi hj before-i before-j =
      T-cases (ltb i j) (λ less. absurd (before-j i (ltb→lt i j less) hi))
      (λ not_less.
      T-cases (ltb j i) (λ more. absurd (before-i j (ltb→lt j i more) hj))
      (λ not_more.
      let a : j ≤ i = nltb→le i j (not_T (ltb i j) not_less) in
      let b : i ≤ j = nltb→le j i (not_T (ltb j i) not_more) in
      omega arith))

  pub first_found : (n j : ℕ) → j < n → T (f j) → ((u : ℕ) → u < j → T (f u) → ⊥) → first_from f 0 n ≡ some j
  first_found n j h t before =
      first_from_cases f (λ (o : Option ℕ). o ≡ some j) 0 n
      (λ i low high ti before-i. ap some (same_first i j ti t (λ u. before-i u (omega arith)) before))
      (λ never. absurd (never j (omega arith) (omega arith) t))

  pub first_missing : (n : ℕ) → ((u : ℕ) → u < n → T (f u) → ⊥) → first_from f 0 n ≡ none
  first_missing n never =
      first_from_cases f (λ (o : Option ℕ). o ≡ none) 0 n
      (λ i low high ti before-i. absurd (never i (omega arith) ti)) (λ None-passes. refl)

  -- the entry of n + 1 layers from that of n
  pub entry_next : (n : ℕ) → entry (first_from f 0 (suc n)) ≡ noted (entry (first_from f 0 n)) (f n) n
  unfolding entry noted
  entry_next n =
      first_from_cases f (λ (o : Option ℕ). entry (first_from f 0 (suc n)) ≡ noted (entry o) (f n) n) 0 n
      (λ i low high ti before-i.
      ap entry (first_found (suc n) i (omega arith) ti (λ u h. before-i u (omega arith) h))
      ∙ sym (filled i))
      (λ never. go never (f n) refl)
    where
      filled : (i : ℕ) → noted (pos i) (f n) n ≡ pos i
      filled i = rw (le_lt_z {a = pos i} {b = pos 0} (pos_mono (omega arith))) refl

      go :
          ((u : ℕ) → 0 ≤ u → u < 0 + n → T (f u) → ⊥)
          → (b : Bool)
          → f n ≡ b
          → entry (first_from f 0 (suc n)) ≡ noted (negsuc 0) b n
      go never true e = ap entry (first_found (suc n) n (omega arith) (true_t e) (λ u h. never u (omega arith) (omega arith)))
      go never false e =
          ap entry
          (first_missing (suc n) (λ u h t.
          T-cases (ltb u n) (λ less. never u (omega arith) (omega (arith, ltb→lt u n less)) t)
          (λ not_less.
          let k : n ≤ u = nltb→le u n (not_T (ltb u n) not_less) in
          let same : u ≡ n = omega arith in
          false_not e (subst (λ (x : ℕ). T (f x)) same t))))

  -- what has been had once is had from then on: then an entry tells each layer
  pub entry_says :
      ((t u : ℕ) → t ≤ u → T (f t) → T (f u))
      → (n t : ℕ)
      → t < n
      → f t ≡ (le_z (pos 0) (entry (first_from f 0 n)) && le_z (entry (first_from f 0 n)) (pos t))
  unfolding entry
  entry_says mono n t h =
      first_from_cases f (λ (o : Option ℕ). f t ≡ (le_z (pos 0) (entry o) && le_z (entry o) (pos t))) 0 n
      (λ i low high ti before-i.
      T-equal (f t) (le_z (pos 0) (pos i) && le_z (pos i) (pos t))
      (λ had.
      and_both (leb 0 i) (leb i t) (le→leb 0 i (omega arith))
      (T-cases (leb i t) (λ k. k)
      (λ later. absurd (before-i t (omega arith) (omega (arith, nleb→lt i t (not_T (leb i t) later))) had))))
      (λ both. mono i t (leb→le i t (and_right (leb 0 i) (leb i t) both)) ti))
      (λ never. not-false (f t) (λ had. never t (omega arith) (omega arith) had))
