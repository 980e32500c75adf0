-- The offsets of the blocks and of the end, kept in an array. Assumes nothing.
use Rattle.std.specs.Prelude.{ℕ, suc, ◌+◌, ◌≤◌, ◌<◌, ◌≡◌, List, [], ◌∷◌, ◌++◌, length, get_or, set}
use Rattle.std.proofs.Common.{arith, sym, ◌∙◌, length-set, length-append, get_or-set_same, get_or-set_other}
use Rattle.std.proofs.Math.ListN.{get_or-append}
use Rattle.std.proofs.Math.Seq.{get_or-append_seam}
use Rattle.model.proofs.Theorems.Laws.Searching.{below_suc}

-- the array holds these marks, which rise and lie before `at`
pub record Marks (at : ℕ) (ms : List ℕ) (a : List ℕ) : Type 0 where
  pub size : length a ≡ 66
  pub same : (b : ℕ) → b < length ms → get_or a b 0 ≡ get_or ms b 0
  pub before : (b : ℕ) → b < length ms → get_or ms b 0 < at
  pub rising : (b : ℕ) → suc b < length ms → get_or ms b 0 < get_or ms (suc b) 0

pub marks_none : (at : ℕ) (a : List ℕ) → length a ≡ 66 → Marks at [] a
marks_none at a e =
    record {
      size = e;
      same = λ b h. absurd (omega arith);
      before = λ b h. absurd (omega arith);
      rising = λ b h. absurd (omega arith);
    }

module _ {at : ℕ} {ms a : List ℕ} (h : Marks at ms a) where
  pub marks_later : (to : ℕ) → at ≤ to → Marks to ms a
  marks_later to l =
      record {
        size = h.size;
        same = h.same;
        before = λ b k. omega (arith, h.before b k);
        rising = h.rising;
      }

  snoc_old : (b : ℕ) → b < length ms → get_or (ms ++ (at ∷ [])) b 0 ≡ get_or ms b 0
  snoc_old b k = get_or-append ms (at ∷ []) 0 b k

  snoc_new : (b : ℕ) → b ≡ length ms → get_or (ms ++ (at ∷ [])) b 0 ≡ at
  snoc_new b e = rw e (get_or-append_seam ms at [] 0)

  size_snoc : length (ms ++ (at ∷ [])) ≡ suc (length ms)
  size_snoc = length-append ms (at ∷ []) ∙ omega arith

  pub marks_more : (n : ℕ) → n ≡ length ms → n < 66 → Marks (at + 1) (ms ++ (at ∷ [])) (set a n at)
  marks_more n e l =
      record {
        size = length-set a n at ∙ h.size;
        same = λ b k. below_suc b (length ms) (omega (arith, size_snoc))
            (λ i. get_or-set_other a n b at 0 (λ f. omega arith) ∙ h.same b i ∙ sym (snoc_old b i))
            (λ f. let g : b ≡ n = omega arith in rw (snoc_new b f, g) (get_or-set_same a n at 0 (omega (arith, h.size))));
        before = λ b k. below_suc b (length ms) (omega (arith, size_snoc))
            (λ i. rw (snoc_old b i) (omega (arith, h.before b i)))
            (λ f. rw (snoc_new b f) (omega arith));
        rising = λ b k. below_suc (suc b) (length ms) (omega (arith, size_snoc))
            (λ i. rw (snoc_old (suc b) i, snoc_old b (omega arith)) (h.rising b i))
            (λ f. rw (snoc_new (suc b) f, snoc_old b (omega arith)) (h.before b (omega arith)));
      }
