-- The edges of := effects as they are drawn into the table of tests, effect by effect. Assumes nothing.
use Prim.Native.Nat.{ℕ, zero, suc, ◌+◌, ◌*◌, ◌<◌}
use Rattle.std.proofs.Common.{arith, ◌∙◌, eqb→eq, length-set, get_or-set_same, get_or-set_other}
use Rattle.std.specs.Prelude.{◌≡◌, Bool, ◌&&◌, ◌||◌, not, T, eqb, nat_abs, length, set, take, drop, replicate}
use Rattle.std.proofs.Math.Path.{refl, sym, ap}
use Rattle.std.proofs.Math.Bool.{true, false}
use mathlib.Core.List.{List, [], ◌∷◌, ◌++◌}
use Rattle.std.proofs.Math.Dec.{eqb_refl}
use Rattle.std.proofs.Math.ListN.{get_or}
use Rattle.std.proofs.lemmas.List.{length-replicate, get_or-replicate}
use Rattle.integer.specs.BigEndian.{signed}
use Rattle.model.specs.Command.{Place, start, preamble, in_move, in_goal, finished}
use Rattle.model.specs.Lists.{any, any_below}
use Rattle.model.specs.Task.{Item, Block}
use Rattle.model.specs.Circle.{item_edge}
use Rattle.model.specs.Seen.{closed}
use Rattle.model.proofs.Theorems.Laws.Booleans.{T-cases, T_true, and_left, and_right, and_both}
use Rattle.circle.specs.Walks.{table_edge}
use Rattle.advance.specs.Stamps.{or-false, or-true, or_assoc, any_snoc}

-- the table holds the edges of these moves
pub record Drawn (ms : List Block) (es : List Bool) : Type 0 where
  pub size : length es ≡ 1024
  pub same : (u v : ℕ) → u < 32 → v < 32 → table_edge es u v ≡ any (λ (m : Block). any (item_edge u v) m) ms

pub drawn_none : Drawn [] (replicate 1024 false)
unfolding table_edge any
drawn_none =
    record { size = length-replicate 1024 false; same = λ u v h k. get_or-replicate 1024 (u * 32 + v) false false (omega arith) }

-- ---- the edges of one effect: from the variables of the n terms from `from` on to v

-- whether the term at offset `at` has weight 0
unfoldable pub weightless : List ℕ → ℕ → Bool
weightless t at = eqb (nat_abs (signed (take 2 (drop (at + 2) t)))) 0

-- the edge of one term: "It makes no := edge"
unfoldable pub draw_term : List ℕ → ℕ → ℕ → List Bool → List Bool
draw_term t at v es = elim (weightless t at) [ true ↦ es | false ↦ set es (get_or t (at + 1) 0 * 32 + v) true ]

module _ (t : List ℕ) (at v : ℕ) (es : List Bool) where
  pub draw_weightless : weightless t at ≡ true → es ≡ draw_term t at v es
  unfolding draw_term
  draw_weightless e = rw (draw_term, e) refl

  pub draw_weight : weightless t at ≡ false → set es (get_or t (at + 1) 0 * 32 + v) true ≡ draw_term t at v es
  unfolding draw_term
  draw_weight e = rw (draw_term, e) refl

unfoldable pub draw : List ℕ → ℕ → ℕ → ℕ → List Bool → List Bool
draw t from v zero es = es
draw t from v (suc n) es = draw_term t (from + 4 * n) v (draw t from v n es)

unfoldable pub source_is : List ℕ → ℕ → ℕ → ℕ → Bool
source_is t from u i = not (weightless t (from + 4 * i)) && eqb (get_or t (from + 4 * i + 1) 0) u

pub length_draw : (t : List ℕ) (from v n : ℕ) (es : List Bool) → length (draw t from v n es) ≡ length es
unfolding draw draw_term
length_draw t from v zero es = refl
length_draw t from v (suc n) es = last (weightless t (from + 4 * n)) (length_draw t from v n es)
  where
    before : List Bool
    before = draw t from v n es

    edge : ℕ
    edge = get_or t (from + 4 * n + 1) 0 * 32 + v

    last : (b : Bool) → length before ≡ length es → length {A = Bool} (elim b [ true ↦ before | false ↦ set before edge true ]) ≡ length es
    last true ih = ih
    last false ih = length-set before edge true ∙ ih

module _ (t : List ℕ) (from v : ℕ) (es : List Bool) (size : length es ≡ 1024) (hv : v < 32) where
  pub draw_at :
      (n : ℕ) → ((i : ℕ) → i < n → get_or t (from + 4 * i + 1) 0 < 32) → (u w : ℕ) → u < 32 → w < 32
      → table_edge (draw t from v n es) u w ≡ (table_edge es u w || (eqb v w && any_below (source_is t from u) n))
  unfolding draw draw_term any_below source_is table_edge
  draw_at zero hs u w hu hw = sym (ap (λ (b : Bool). table_edge es u w || b) (none (eqb v w)) ∙ or-false (table_edge es u w))
    where
      none : (a : Bool) → (a && false) ≡ false
      none true = refl
      none false = refl
  draw_at (suc n) hs u w hu hw = last (weightless t (from + 4 * n)) (draw_at n (λ i l. hs i (omega arith)) u w hu hw)
    where
      x : ℕ
      x = get_or t (from + 4 * n + 1) 0

      before : List Bool
      before = draw t from v n es

      seen : Bool
      seen = any_below (λ i. not (weightless t (from + 4 * i)) && eqb (get_or t (from + 4 * i + 1) 0) u) n

      inside : x * 32 + v < length before
      inside = omega (arith, length_draw t from v n es, size, hs n (omega arith))

      hit : T (eqb v w) → T (eqb x u) → get_or (set before (x * 32 + v) true) (u * 32 + w) false ≡ (get_or es (u * 32 + w) false || (eqb v w && (seen || eqb x u)))
      hit a b =
          let spot : u * 32 + w ≡ x * 32 + v = omega (arith, eqb→eq v w a, eqb→eq x u b) in
          rw (spot, get_or-set_same before (x * 32 + v) true false inside, T_true (eqb v w) a, T_true (eqb x u) b, or-true seen)
          (sym (or-true (get_or es (x * 32 + v) false)))

      apart : (T (eqb v w && eqb x u) → ⊥) → u * 32 + w ≡ x * 32 + v → ⊥
      apart h e =
          let a : u ≡ x = omega arith in
          let b : w ≡ v = omega arith in
          h (rw (a, b) (and_both (eqb v v) (eqb x x) (eqb_refl v) (eqb_refl x)))

      drop_last : (a b c : Bool) → (T (a && c) → ⊥) → (a && b) ≡ (a && (b || c))
      drop_last true b true h = absurd (h tt)
      drop_last true b false h = sym (or-false b)
      drop_last false b c h = refl

      miss :
          (T (eqb v w && eqb x u) → ⊥)
          → get_or before (u * 32 + w) false ≡ (get_or es (u * 32 + w) false || (eqb v w && seen))
          → get_or (set before (x * 32 + v) true) (u * 32 + w) false ≡ (get_or es (u * 32 + w) false || (eqb v w && (seen || eqb x u)))
      miss h ih =
          rw (get_or-set_other before (x * 32 + v) (u * 32 + w) true false (apart h))
          (ih ∙ ap (λ (b : Bool). get_or es (u * 32 + w) false || b) (drop_last (eqb v w) seen (eqb x u) h))

      last :
          (b : Bool)
          → get_or before (u * 32 + w) false ≡ (get_or es (u * 32 + w) false || (eqb v w && seen))
          → get_or (elim b [ true ↦ before | false ↦ set before (x * 32 + v) true ]) (u * 32 + w) false
          ≡ (get_or es (u * 32 + w) false || (eqb v w && (seen || (not b && eqb x u))))
      last true ih = ih ∙ ap (λ (b : Bool). get_or es (u * 32 + w) false || (eqb v w && b)) (sym (or-false seen))
      last false ih =
          T-cases (eqb v w && eqb x u) (λ h. hit (and_left (eqb v w) (eqb x u) h) (and_right (eqb v w) (eqb x u) h))
          (λ h. miss h ih)

-- the edges of an effect of this kind: := alone draws them
unfoldable pub draw_kind : ℕ → List ℕ → ℕ → ℕ → ℕ → List Bool → List Bool
draw_kind zero t from v n es = draw t from v n es
draw_kind (suc q) t from v n es = es

pub draw_other : (q : ℕ) (t : List ℕ) (from v n : ℕ) (es : List Bool) → 0 < q → es ≡ draw_kind q t from v n es
unfolding draw_kind
draw_other zero t from v n es h = absurd (omega arith)
draw_other (suc q) t from v n es h = refl

pub draw_assign : (q : ℕ) (t : List ℕ) (from v n : ℕ) (es : List Bool) → q ≡ 0 → draw t from v n es ≡ draw_kind q t from v n es
unfolding draw_kind
draw_assign q t from v n es h = rw h refl

-- ---- the moves as they stand closed

module _ (f : Item → Bool) where
  pub closed_new : (p : Place) (ms : List Block) (b : Block) → any (λ (m : Block). any f m) (closed in_move (closed p ms b) []) ≡ any (λ (m : Block). any f m) (closed p ms b)
  unfolding any
  closed_new p ms b = unfold closed in (any_snoc (λ (m : Block). any f m) (closed p ms b) [] ∙ or-false (any (λ (m : Block). any f m) (closed p ms b)))

  pub closed_more : (ms : List Block) (b : Block) (i : Item) → any (λ (m : Block). any f m) (closed in_move ms (b ++ (i ∷ []))) ≡ (any (λ (m : Block). any f m) (closed in_move ms b) || f i)
  unfolding closed
  closed_more ms b i =
      any_snoc (λ (m : Block). any f m) ms (b ++ (i ∷ []))
      ∙ ap (λ (x : Bool). any (λ (m : Block). any f m) ms || x) (any_snoc f b i)
      ∙ sym (ap (λ (x : Bool). x || f i) (any_snoc (λ (m : Block). any f m) ms b) ∙ or_assoc (any (λ (m : Block). any f m) ms) (any f b) (f i))

  pub closed_other : (p : Place) (ms : List Block) (b : Block) (i : Item) → f i ≡ false → any (λ (m : Block). any f m) (closed p ms (b ++ (i ∷ []))) ≡ any (λ (m : Block). any f m) (closed p ms b)
  closed_other start ms b i e = unfold closed in refl
  closed_other preamble ms b i e = unfold closed in refl
  closed_other in_move ms b i e = closed_more ms b i ∙ ap (λ (x : Bool). any (λ (m : Block). any f m) (closed in_move ms b) || x) e ∙ or-false (any (λ (m : Block). any f m) (closed in_move ms b))
  closed_other in_goal ms b i e = unfold closed in refl
  closed_other finished ms b i e = unfold closed in refl
