-- Printed terms, items and blocks read back: the reading passes all their commands and has seen them. Assumes nothing.
use Rattle.std.specs.Prelude.{ℕ, ◌+◌, ◌≤◌, ◌<◌, ◌≡◌, Bool, true, not, T, leb, ltb}
use Rattle.std.proofs.Common.{add-zero, arith, ◌∙◌, T_not, lt→ltb}
use Rattle.std.proofs.Math.Path.{refl}
use mathlib.Core.List.{List, [], ◌∷◌, ◌++◌, append-nil, append_assoc}
use Rattle.std.proofs.Math.Option.{some}
use Rattle.std.proofs.Math.Dec.{not_T, leb→le}
use Rattle.std.proofs.Math.ListN.{length, length-append}
use Rattle.integer.specs.BigEndian.{signed_bytes, half}
use Rattle.integer.proofs.BigEndian.{length_signed_bytes}
use Rattle.model.specs.Limits.{Limits}
use Rattle.model.specs.Lists.{all, any}
use Rattle.model.specs.Task.{Term, Item, Block, clashes, terms_of}
use Rattle.model.specs.Command.{Command, term, code_of, width, term_bytes, item_bytes, items_bytes, Place, in_place, after_term}
use Rattle.model.specs.Seen.{Head, Seen, byte_after, number_after, term_at, item_at, with_term, with_item, advance}
use Rattle.model.specs.Reading.{Verdict, Wanted, head_wanted, wrong6, wrong5, operands, wrong16}
use Rattle.model.specs.Theorems.Reading.WellFormed.{All, Rising, TermOk, SumOk, ItemOk, Once}
use Rattle.model.proofs.Theorems.Laws.Booleans.{T_true, not-false, or_left, or_right}
use Rattle.model.proofs.Theorems.Laws.Listed.{All-append}
use Rattle.model.proofs.Theorems.Laws.Searching.{All-map, All-all}
use Rattle.model.proofs.Theorems.Reading.Reads.{verdict_from}
use Rattle.model.specs.Theorems.Printing.Passing.{Left, SmallLimits}
use Rattle.model.proofs.Theorems.Printing.Passing.{left_length, left_byte, left_code, left_skip, left_after, left_number, well_placed, may_follow, passed}
use Rattle.model.proofs.Theorems.Printing.Operands.{weight_range, weight_size}
use Rattle.model.specs.Theorems.Printing.Items.{item_command, item_operands}
use Rattle.model.proofs.Theorems.Printing.Items.{length_terms, item_parts, length_item, item_wanted, item_counted, item_width, item_closes, item_fresh, item_advance, item_back, item_ranges, item_sum, item_lively}
use Rattle.model.specs.Theorems.Printing.Blocks.{Apart, within}

-- ---- what stands before against what stands behind

module _ {A : Type 0} (R : A → A → Type 0) where
  -- each of the first list against each of the second
  abbrev pub Before : List A → List A → Type 0
  Before us ts = All (λ y. All (λ x. R x y) us) ts

  pub before_none : (ts : List A) → Before [] ts
  before_none [] = tt
  before_none (y ∷ ts) = (tt, before_none ts)

  before_next : (us : List A) (u : A) (ts : List A) → Before us ts → All (R u) ts → Before (us ++ (u ∷ [])) ts
  before_next us u [] a r = tt
  before_next us u (y ∷ ts) a r = (All-append (λ x. R x y) us (u ∷ []) a.0 (r.0, tt), before_next us u ts a.1 r.1)

none_passes : (f : Item → Bool) (b : Block) → (T (any f b) → ⊥) → All (λ i. T (f i) → ⊥) b
unfolding any
none_passes f [] n = tt
none_passes f (i ∷ b) n = (λ t. n (or_left (f i) (any f b) t), none_passes f b (λ t. n (or_right (f i) (any f b) t)))

no_clash : (f : Item → Bool) (b : Block) → All (λ i. T (f i) → ⊥) b → T (not (any f b))
unfolding any
no_clash f [] a = tt
no_clash f (i ∷ b) a = rw (not-false (f i) a.0) (no_clash f b a.1)

abbrev Lower : Term → Term → Type 0
Lower x y = x.var < y.var

module _ (L : Limits) (w : Wanted) (t : List ℕ) (small : SmallLimits L)
    (p : Place) (inside : in_place p term ≡ true) (h : Head) (ms : List Block) (marks : List ℕ)
  where
    -- the verdict, from an offset in the block on, with items and open terms seen
    abbrev from : ℕ → Block → List Term → Verdict
    from at b us = verdict_from L w t (within p h ms marks at b us)

    read_term :
        (at : ℕ) (b : Block) (us : List Term) (u : Term) (rest : List ℕ)
        → Left t at (code_of term ∷ u.var ∷ (signed_bytes 2 u.weight ++ rest))
        → TermOk L h.form h.vars u
        → All (λ x. Lower x u) us
        → length us < L.terms
        → from at b us ≡ from (at + 4) b (us ++ (u ∷ []))
    unfolding advance with_term term_at byte_after number_after width after_term operands wrong5 wrong6 wrong16 head_wanted half
    read_term at b us u rest here ok rising room =
        passed {c = term}
        (record {
          code = left_code here;
          placed = well_placed w s term inside refl (may_follow s term refl);
          uncut = omega (arith, left_length here, length-append (signed_bytes 2 u.weight) rest, length_signed_bytes 2 u.weight);
          counted = tt;
          lively = tt;
          ranged = (
            rw var_read (lt→ltb u.var h.vars ok.var),
            (rw weight_read (weight_range L h.form u.weight ok.weight), tt),
          );
          fresh =
              rw (var_read, lower_all)
              (not_T (leb L.terms (length us)) (λ full. omega (arith, leb→le L.terms (length us) full)));
        })
        ∙ rw (var_read, weight_read) refl
      where
        s : Seen
        s = within p h ms marks at b us

        var_read : byte_after t s 1 ≡ u.var
        var_read = left_byte here 1

        weight_read : number_after 2 t s 2 ≡ u.weight
        weight_read =
            left_number 2 u.weight rest (left_skip here 2) (omega arith)
            (omega (arith, weight_size L h.form u.weight ok.weight, small.weight))

        lower_all : all (λ x. ltb x.var u.var) us ≡ true
        lower_all =
            T_true (all (λ x. ltb x.var u.var) us)
            (All-all (λ (x : Term). ltb x.var u.var) us (All-map us (λ x. lt→ltb x.var u.var) rising))

    read_terms :
        (ts : List Term) (at : ℕ) (b : Block) (us : List Term) (rest : List ℕ)
        → Left t at (term_bytes ts ++ rest)
        → All (TermOk L h.form h.vars) ts
        → Rising ts
        → Before Lower us ts
        → length us + length ts ≤ L.terms
        → from at b us ≡ from (at + length (term_bytes ts)) b (us ++ ts)
    unfolding term_bytes
    read_terms [] at b us rest here ok rising before room = rw (add-zero at, append-nil us) refl
    read_terms (u ∷ ts) at b us rest here ok rising before room =
        read_term at b us u (term_bytes ts ++ rest) here' ok.0 before.0 (omega arith)
        ∙ read_terms ts (at + 4) b (us ++ (u ∷ [])) rest behind ok.1 rising.1
        (before_next Lower us u ts before.1 rising.0) (omega (arith, length-append us (u ∷ [])))
        ∙ rw (append_assoc us (u ∷ []) ts, place) refl
      where
        here' : Left t at (code_of term ∷ u.var ∷ (signed_bytes 2 u.weight ++ (term_bytes ts ++ rest)))
        here' = rw (append_assoc (signed_bytes 2 u.weight) (term_bytes ts) rest) at here

        behind : Left t (at + 4) (term_bytes ts ++ rest)
        behind =
            left_after (code_of term ∷ u.var ∷ signed_bytes 2 u.weight) (term_bytes ts ++ rest) here'
            (omega (arith, length_signed_bytes 2 u.weight))

        place : at + 4 + length (term_bytes ts) ≡ at + length (term_bytes (u ∷ ts))
        place = omega (arith, length_terms ts, length_terms (u ∷ ts))

    read_item :
        (i : Item) (at : ℕ) (b : Block) (rest : List ℕ)
        → Left t at (item_bytes i ++ rest)
        → in_place p (item_command i) ≡ true
        → ItemOk L h.form h.props h.vars i
        → T (not (any (λ j. clashes j i) b))
        → from at b [] ≡ from (at + length (item_bytes i)) (b ++ (i ∷ [])) []
    unfolding with_item
    read_item i at b rest here place ok apart =
        read_terms (terms_of i) at b [] (code_of c ∷ (item_operands i ++ rest)) at_terms sum.terms sum.rising
        (before_none Lower (terms_of i)) (omega (arith, sum.few))
        ∙ passed {c = c}
        (record {
          code = left_code at_command;
          placed = well_placed w s c place (item_wanted w i) (item_closes s i refl);
          uncut = omega (arith, left_length at_command, length-append (item_operands i) rest, item_width i);
          counted = item_counted s i;
          lively = item_lively w s i;
          ranged = item_ranges small s rest i at_command ok;
          fresh = item_fresh L t s i back apart;
        })
        ∙ rw (item_advance t s i, back, behind) refl
      where
        c : Command
        c = item_command i

        sum : SumOk L h.form h.vars (terms_of i)
        sum = item_sum L h.form h.props h.vars i ok

        s : Seen
        s = within p h ms marks (at + length (term_bytes (terms_of i))) b (terms_of i)

        at_terms : Left t at (term_bytes (terms_of i) ++ (code_of c ∷ (item_operands i ++ rest)))
        at_terms = rw (item_parts i, append_assoc (term_bytes (terms_of i)) (code_of c ∷ item_operands i) rest) at here

        at_command : Left t s.at (code_of c ∷ (item_operands i ++ rest))
        at_command = left_after (term_bytes (terms_of i)) (code_of c ∷ (item_operands i ++ rest)) at_terms refl

        back : item_at t s c ≡ some i
        back = item_back small s rest i at_command refl ok

        behind : s.at + width c ≡ at + length (item_bytes i)
        behind = omega (arith, length_terms (terms_of i), length_item i)

    -- From where the items of a block stand printed, the reading goes on behind them, with these items seen.
    pub read_items :
        (is : Block) (at : ℕ) (b : Block) (rest : List ℕ)
        → Left t at (items_bytes is ++ rest)
        → All (λ i. in_place p (item_command i) ≡ true) is
        → All (ItemOk L h.form h.props h.vars) is
        → Once is
        → Before Apart b is
        → from at b [] ≡ from (at + length (items_bytes is)) (b ++ is) []
    unfolding items_bytes
    read_items [] at b rest here places ok once apart = rw (add-zero at, append-nil b) refl
    read_items (i ∷ is) at b rest here places ok once apart =
        read_item i at b (items_bytes is ++ rest) here' places.0 ok.0 (no_clash (λ j. clashes j i) b apart.0)
        ∙ read_items is (at + length (item_bytes i)) (b ++ (i ∷ [])) rest
        (left_after (item_bytes i) (items_bytes is ++ rest) here' refl) places.1 ok.1 once.1
        (before_next Apart b i is apart.1 (none_passes (clashes i) is (T_not (any (clashes i) is) once.0)))
        ∙ rw (append_assoc b (i ∷ []) is, place) refl
      where
        here' : Left t at (item_bytes i ++ (items_bytes is ++ rest))
        here' = rw (append_assoc (item_bytes i) (items_bytes is) rest) at here

        place : at + length (item_bytes i) + length (items_bytes is) ≡ at + length (items_bytes (i ∷ is))
        place = omega (arith, length-append (item_bytes i) (items_bytes is))
