-- One command further: past a term. Assumes nothing.
use Rattle.std.specs.Prelude.{ℕ, ◌+◌, ◌*◌, ◌-◌, ◌≤◌, ◌<◌, ◌≡◌, Bool, ◌&&◌, List, [], ◌∷◌, ◌++◌, leb, ℤ, nat_abs, take, drop}
use Rattle.std.proofs.Common.{arith, ◌∙◌, leb→le, le→leb, ltb→lt, lt→ltb, length-append, leb-false, leb-true}
use Rattle.std.proofs.Math.Numerals.{add-one}
use Rattle.std.proofs.Math.Path.{refl, sym, ap, ap₂, subst}
use Rattle.std.proofs.Math.Bool.{true, false, ◌||◌, not}
use Rattle.std.proofs.Math.Dec.{eqb, ltb}
use Rattle.std.proofs.Math.ListN.{get_or}
use Rattle.integer.specs.BigEndian.{signed}
use Rattle.model.specs.Limits.{paper}
use Rattle.model.specs.Lists.{all, any, any_below}
use Rattle.model.specs.Task.{Term, kept}
use Rattle.model.specs.Command.{term, width, in_place}
use Rattle.model.specs.Seen.{Seen, byte_after, number_after, term_at, with_term, advance}
use Rattle.model.proofs.Theorems.Laws.Booleans.{T-equal, and_right, and_both}
use Rattle.model.proofs.Theorems.Laws.Searching.{below_suc}
use Rattle.model.proofs.Theorems.Reading.Commands.{width_positive}
use Rattle.cursor.specs.declared.Cursor.{Cursor}
use Rattle.cursor.specs.State.{term_cursor, source_at, Valid, repeated, Passed}
use Rattle.cursor.proofs.Passing.{term_range}
use Rattle.advance.specs.Stamps.{or-false, or_assoc}
use Rattle.advance.specs.Edges.{weightless, source_is}
use Rattle.advance.specs.Marks.{marks_later}
use Rattle.advance.specs.Tracks.{head_of, open_from, Tracks}
use Rattle.advance.specs.Steps.{Advanced, impossible, elsewhere}

all_snoc : {A : Type 0} (f : A → Bool) (xs : List A) (x : A) → all f (xs ++ (x ∷ [])) ≡ (all f xs && f x)
unfolding all
all_snoc f [] x = go (f x)
  where
    go : (b : Bool) → (b && true) ≡ b
    go true = refl
    go false = refl
all_snoc f (y ∷ xs) x = ap (λ (b : Bool). f y && b) (all_snoc f xs x) ∙ go (f y) (all f xs) (f x)
  where
    go : (a b d : Bool) → (a && (b && d)) ≡ (a && b && d)
    go true b d = refl
    go false b d = refl

-- one term more among those that are kept
any_kept_snoc :
    (f : Term → Bool) (ts : List Term) (t : Term)
    → any f (kept (ts ++ (t ∷ []))) ≡ (any f (kept ts) || (not (eqb (nat_abs t.weight) 0) && f t))
unfolding any kept
any_kept_snoc f [] t = go (eqb (nat_abs t.weight) 0)
  where
    go : (b : Bool) → any f (elim b [ true ↦ [] | false ↦ t ∷ [] ]) ≡ (not b && f t)
    go true = refl
    go false = or-false (f t)
any_kept_snoc f (u ∷ ts) t = go (eqb (nat_abs u.weight) 0) (any_kept_snoc f ts t)
  where
    rest : List Term
    rest = kept (ts ++ (t ∷ []))

    last : Bool
    last = not (eqb (nat_abs t.weight) 0) && f t

    go :
        (b : Bool) → any f rest ≡ (any f (kept ts) || last)
        → any f (elim b [ true ↦ rest | false ↦ u ∷ rest ]) ≡ (any f (elim b [ true ↦ kept ts | false ↦ u ∷ kept ts ]) || last)
    go true ih = ih
    go false ih = ap (λ (b : Bool). f u || b) ih ∙ sym (or_assoc (f u) (any f (kept ts)) last)

-- rising: what may follow next, and then x
next_after : (next x y : ℕ) → next ≤ x → (leb next y && ltb x y) ≡ leb (x + 1) y
next_after next x y h =
    T-equal (leb next y && ltb x y) (leb (x + 1) y)
    (λ t. le→leb (x + 1) y (omega (arith, ltb→lt x y (and_right (leb next y) (ltb x y) t))))
    (λ t. and_both (leb next y) (ltb x y) (le→leb next y (omega (arith, leb→le (x + 1) y t))) (lt→ltb x y (omega (arith, leb→le (x + 1) y t))))

module _ {t : List ℕ} {c : Cursor} (v : Valid t c) where
  -- check 5 of a term: it rises, and there are fewer than eight
  term_fresh : {nd ch af : List ℕ} → Passed t c nd ch af term → (c.next ≤ get_or t (c.at + 1) 0) × (c.terms < 8)
  unfolding repeated paper
  term_fresh k = go (leb c.next (get_or t (c.at + 1) 0)) (leb 8 c.terms) (leb-true _ _) (leb-false _ _) k.fresh
    where
      go : (a b : Bool) → (a ≡ true → c.next ≤ get_or t (c.at + 1) 0) → (b ≡ false → c.terms < 8) → (not a || b) ≡ false → (c.next ≤ get_or t (c.at + 1) 0) × (c.terms < 8)
      go true true f g e = impossible (sym e)
      go true false f g e = (f refl, g refl)
      go false b f g e = impossible (sym e)

  same_from : (p : ℕ) → open_from (term_cursor c p) ≡ open_from c
  unfolding term_cursor width
  same_from p = omega (arith, v.behind)

  term_valid : {nd ch af : List ℕ} (p : ℕ) → Passed t c nd ch af term → p ≡ get_or t (c.at + 1) 0 → Valid t (term_cursor c p)
  unfolding term_cursor width
  term_valid p k e =
      record {
        inside = k.uncut;
        props = v.props;
        vars = v.vars;
        moves = v.moves;
        stage = v.stage;
        few = omega (arith, (term_fresh k).1);
        behind = omega (arith, v.behind);
        sources = λ i l. below_suc i c.terms (omega arith)
            (λ m. subst (λ (x : ℕ). get_or t x 0 < 32) (shift i) (v.sources i m))
            (λ m. subst (λ (x : ℕ). get_or t x 0 < 32) (last i m) (omega (arith, term_range t c k.ranged, v.vars)));
        numbered = v.numbered;
        blocks = omega (arith, v.blocks);
      }
    where
      shift : (i : ℕ) → source_at c i ≡ c.at + 4 - 4 * (c.terms + 1) + 4 * i + 1
      shift i = omega (arith, v.behind)

      last : (i : ℕ) → i ≡ c.terms → c.at + 1 ≡ c.at + 4 - 4 * (c.terms + 1) + 4 * i + 1
      last i m = omega (arith, v.behind)

  term_tracks : {nd ch af : List ℕ} {es : List Bool} {mk : List ℕ} (p : ℕ) (s : Seen) → Passed t c nd ch af term → p ≡ get_or t (c.at + 1) 0 → Tracks t c nd ch af es mk s → (z : ℤ) → z ≡ signed (take 2 (drop (c.at + 2) t)) → Tracks t (term_cursor c p) nd ch af es mk (with_term s (record { var = p; weight = z }))
  unfolding term_cursor with_term head_of width
  term_tracks p s k e h z weight =
      record {
        at = ap (λ (x : ℕ). x + 4) h.at;
        place = h.place;
        header = h.header;
        opens = h.opens;
        closes = h.closes;
        terms = ap (λ (x : ℕ). x + 1) h.terms ∙ sym (length-append s.terms (record { var = p; weight = z } ∷ []) ∙ omega arith);
        rising = λ x. all_snoc (λ (u : Term). ltb u.var x) s.terms (record { var = p; weight = z }) ∙ ap (λ (b : Bool). b && ltb p x) (h.rising x) ∙ next_after c.next p x (omega (arith, (term_fresh k).0));
        sources = λ u. any_kept_snoc (λ (x : Term). eqb x.var u) s.terms (record { var = p; weight = z }) ∙ ap₂ ◌||◌ (h.sources u) (here u) ∙ (rw (same_from p, add-one c.terms) (unfold any_below in refl));
        active = h.active;
        needed = h.needed;
        changed = h.changed;
        affected = h.affected;
        edges = h.edges;
        marked = h.marked;
        marks = marks_later h.marks (c.at + 4) (omega arith);
        begins = λ f. absurd (elsewhere h term (unfold in_place in refl) k.placed f);
      }
    where
      spot : c.at ≡ open_from c + 4 * c.terms
      spot = omega (arith, v.behind)

      here : (u : ℕ) → (not (eqb (nat_abs z) 0) && eqb p u) ≡ source_is t (open_from c) u c.terms
      here u =
          unfold source_is weightless in
          (rw (weight, e) (ap (λ (x : ℕ). not (eqb (nat_abs (signed (take 2 (drop (x + 2) t)))) 0) && eqb (get_or t (x + 1) 0) u) spot))

  pub advance_term :
      {nd ch af : List ℕ} {es : List Bool} {mk : List ℕ} (p : ℕ) {r : Cursor} → Passed t c nd ch af term → p ≡ get_or t (c.at + 1) 0 → r ≡ term_cursor c p
      → Advanced t c term nd ch af es mk r nd ch af es mk
  unfolding advance term_at byte_after
  advance_term {nd} {ch} {af} {es} {mk} p k e f =
      rw f
      (record {
        valid = term_valid p k e;
        moved = unfold term_cursor in omega (arith, width_positive term);
        tracks = λ s h.
            subst (λ (x : ℕ). Tracks t (term_cursor c p) nd ch af es mk (with_term s (record { var = x; weight = number_after 2 t s 2 }))) (e ∙ ap (λ (x : ℕ). get_or t (x + 1) 0) h.at) (term_tracks p s k e h (number_after 2 t s 2) (unfold number_after in ap (λ (x : ℕ). signed (take 2 (drop (x + 2) t))) (sym h.at)));
      })
