-- Sums over the values of a state and over the values of a layer, term by term, and the sizes of what is added up.
-- Assumes nothing.
use Rattle.std.specs.Prelude.{ℕ, zero, suc, ◌+◌, ◌*◌, ◌-◌, ◌^◌, ◌≤◌, ◌<◌, ◌≡◌, refl, Bool, true, false, ◌&&◌, ℤ, pos, negsuc, nat_abs, ◌+ℤ◌, ◌*ℤ◌, ◌≤ℤ◌, length, get_or}
use Rattle.std.proofs.Common.{arith, ap₂, ◌∙◌, subst}
use Rattle.std.proofs.Math.Path.{sym, ap}
use mathlib.Core.List.{List, [], ◌∷◌}
use Rattle.std.specs.Int.Signed.{le_z, lt_z, mag}
use Rattle.integer.specs.Linear.{zlin, nat_abs_split, lt_le_z, le_le_z, ≤_trans, ≡-≤, size_above, larger, larger_size, larger_is_left, larger_is_right, +_assoc, +-zero, zero-+}
use Rattle.model.specs.Limits.{paper, largest_value}
use Rattle.model.specs.Task.{Term, Comparison, at_least, above, at_most, below, equal}
use Rattle.model.specs.Command.{comparison_code}
use Rattle.model.specs.Move.{sum, compares}
use Rattle.model.specs.Layer.{Value, finite, unbounded, plus, times, layer_sum, reaches, highest}
use Rattle.model.specs.Memory.{encode, unbounded_mark}
use Rattle.model.proofs.Theorems.Laws.Booleans.{true_t, false_not}
use Rattle.block.specs.Items.{Ranges, Terms, TermAt, IsVariable, IsScaled, FirstOf, first_of, term_at, terms_place, term_var_small, terms_behind}

-- a sum has at most eight terms
pub few_terms : {k : Ranges} {part : List ℕ} {from n : ℕ} {ts : List Term} → Terms k part from n ts → n ≤ 8
unfolding paper
few_terms h = omega (arith, h.many, h.ok.few)

var_by : {k : Ranges} {part : List ℕ} {at m v : ℕ} {t : Term} {ts : List Term} → Terms k part at m (t ∷ ts) → IsVariable part at v → v ≡ t.var
var_by {k} {m} {t} {ts} h q = q.is k m t ts h

scaled_by : {k : Ranges} {part : List ℕ} {at m : ℕ} {x r : ℤ} {t : Term} {ts : List Term} → Terms k part at m (t ∷ ts) → IsScaled part at x r → r ≡ t.weight *ℤ x
scaled_by {k} {m} {t} {ts} h s = s.is k m t ts h

-- ---- over a state

-- the numbers are the values of the variables, none above 1,000,000,000,000 in size
pub record Row (vars : ℕ) (values : List ℤ) (f : ℕ → ℤ) : Type 0 where
  pub long : vars ≤ length values
  pub same : (v : ℕ) → v < vars → get_or values v (pos 0) ≡ f v
  pub size : (v : ℕ) → v < vars → nat_abs (f v) ≤ largest_value

-- some sum stands there, over some values
pub record Summable (part : List ℕ) (from n : ℕ) (values : List ℤ) : Type 0 where
  pub ranges : Ranges
  pub ts : List Term
  pub val : ℕ → ℤ
  pub terms : Terms ranges part from n ts
  pub row : Row ranges.vars values val

-- i of the n terms are added up to `acc`
pub record Adding (k : Ranges) (part : List ℕ) (from n : ℕ) (f : ℕ → ℤ) (ts : List Term) (i : ℕ) (acc : ℤ) : Type 0 where
  pub others : List Term
  pub terms : Terms k part (from + 4 * i) (n - i) others
  pub total : sum f ts ≡ acc +ℤ sum f others

pub adding_start : {k : Ranges} {part : List ℕ} {from n : ℕ} {ts : List Term} (f : ℕ → ℤ) → Terms k part from n ts → Adding k part from n f ts 0 (pos 0)
adding_start {k} {part} {from} {n} {ts} f h =
    record { others = ts; terms = terms_place h (omega arith) (omega arith); total = sym (zero-+ (sum f ts)) }

-- r is the sum, in every reading
pub record IsSum (part : List ℕ) (from n : ℕ) (values : List ℤ) (r : ℤ) : Type 0 where
  pub is : (k : Ranges) (ts : List Term) (f : ℕ → ℤ) → Terms k part from n ts → Row k.vars values f → r ≡ sum f ts
  pub small : nat_abs r ≤ 8_000_000_000_000_000

module _ {k : Ranges} {part : List ℕ} {from n : ℕ} {f : ℕ → ℤ} {ts : List Term} {i : ℕ} {acc : ℤ} (h : i < n) (a : Adding k part from n f ts i acc) where
  adding_first : FirstOf k part (from + 4 * i) (n - i) a.others
  adding_first = first_of a.terms (omega arith)

  pub adding_term : TermAt part (from + 4 * i)
  adding_term = term_at adding_first.terms

  module _ {values : List ℤ} {v : ℕ} (r : Row k.vars values f) (q : IsVariable part (from + 4 * i) v) where
    adding_var : v ≡ adding_first.first.var
    adding_var = var_by adding_first.terms q

    pub adding_room : v < length values
    adding_room = rw adding_var (omega (arith, r.long, term_var_small adding_first.terms))

    adding_value : get_or values v (pos 0) ≡ f adding_first.first.var
    adding_value = rw adding_var (r.same adding_first.first.var (term_var_small adding_first.terms))

    pub adding_small : nat_abs (get_or values v (pos 0)) ≤ largest_value
    adding_small = rw adding_value (r.size adding_first.first.var (term_var_small adding_first.terms))

    -- one term more
    pub adding_step : {more : ℤ} → IsScaled part (from + 4 * i) (get_or values v (pos 0)) more → Adding k part from n f ts (i + 1) (acc +ℤ more)
    unfolding sum
    adding_step {more} s =
        let g = adding_first in
        record {
          others = g.others;
          terms = terms_place (terms_behind g.terms (n - (i + 1)) (omega arith)) (omega arith) refl;
          total =
              a.total
              ∙ ap (λ (l : List Term). acc +ℤ sum f l) g.is
              ∙ ap (λ (z : ℤ). acc +ℤ (z +ℤ sum f g.others))
              (sym (scaled_by g.terms s ∙ ap (λ (z : ℤ). g.first.weight *ℤ z) adding_value))
              ∙ sym (+_assoc acc more (sum f g.others));
        }

pub adding_end : {k : Ranges} {part : List ℕ} {from n : ℕ} {f : ℕ → ℤ} {ts : List Term} {i : ℕ} {acc : ℤ} → n ≤ i → Adding k part from n f ts i acc → acc ≡ sum f ts
unfolding sum
adding_end {n} {f} {i} {acc} h a = sym (a.total ∙ none a.others (omega (arith, a.terms.many)))
  where
    none : (l : List Term) → length l ≡ 0 → acc +ℤ sum f l ≡ acc
    none [] e = +-zero acc
    none (t ∷ l) e = absurd (omega arith)

-- r is the sum and the constant `base`, in every reading
pub record IsValue (part : List ℕ) (from n : ℕ) (base : ℤ) (values : List ℤ) (r : ℤ) : Type 0 where
  pub is : (k : Ranges) (ts : List Term) (f : ℕ → ℤ) → Terms k part from n ts → Row k.vars values f → r ≡ sum f ts +ℤ base
  pub small : nat_abs r ≤ 8_000_000_001_000_000

pub value_of :
    {part : List ℕ} {from n : ℕ} {base s r : ℤ} {values : List ℤ}
    → IsSum part from n values s
    → r ≡ s +ℤ base
    → nat_abs r ≤ 8_000_000_001_000_000
    → IsValue part from n base values r
value_of {base} q e h = record { is = λ k ts f g w. e ∙ ap (λ (z : ℤ). z +ℤ base) (q.is k ts f g w); small = h }

-- ---- over a layer

-- a whole number of at most that size, or unbounded
abbrev pub Sized : ℕ → Value → Type 0
Sized b (finite z) = nat_abs z ≤ b
Sized b unbounded = Unit {0}

-- z stands for the value x in layer memory
pub record Encoded (b : ℕ) (x : Value) (z : ℤ) : Type 0 where
  pub is : z ≡ encode x
  pub size : Sized b x

-- the numbers are the values of the variables in a layer
pub record LayerRow (vars : ℕ) (layer : List ℤ) (f : ℕ → Value) : Type 0 where
  pub long : vars ≤ length layer
  pub each : (v : ℕ) → v < vars → Encoded largest_value (f v) (get_or layer v (pos 0))

pub sized_more : (b c : ℕ) (x : Value) → b ≤ c → Sized b x → Sized c x
sized_more b c (finite z) h s = omega arith
sized_more b c unbounded h s = tt

-- is it the mark for unbounded, 2 ^ 63 − 1
unfoldable pub is_mark : ℤ → Bool
is_mark z = le_z (pos unbounded_mark) z

mark_itself : is_mark (pos unbounded_mark) ≡ true
unfolding is_mark
mark_itself = refl

below_mark : (b : ℕ) (z : ℤ) → b < unbounded_mark → nat_abs z ≤ b → is_mark z ≡ false
unfolding is_mark
below_mark b z h s = lt_le_z {a = pos unbounded_mark} {b = z} (omega (zlin, nat_abs_split z))

clash : {X : Type 0} {t : Bool} → t ≡ true → t ≡ false → X
clash p q = absurd (false_not q (true_t p))

pub mark_yes : {b : ℕ} {x : Value} {z : ℤ} → b < unbounded_mark → Encoded b x z → is_mark z ≡ true → x ≡ unbounded
unfolding encode
mark_yes {b} {x} {z} h e m = go x e.is e.size
  where
    go : (y : Value) → z ≡ encode y → Sized b y → y ≡ unbounded
    go (finite u) p s = clash m (ap is_mark p ∙ below_mark b u h s)
    go unbounded p s = refl

pub mark_no : {b : ℕ} {x : Value} {z : ℤ} → Encoded b x z → is_mark z ≡ false → x ≡ finite z
unfolding encode
mark_no {b} {x} {z} e m = go x e.is
  where
    go : (y : Value) → z ≡ encode y → y ≡ finite z
    go (finite u) p = ap finite (sym p)
    go unbounded p = clash (ap is_mark p ∙ mark_itself) m

pub encoded_more : {b c : ℕ} {x : Value} {z : ℤ} → b ≤ c → Encoded b x z → Encoded c x z
encoded_more {b} {c} {x} h e = record { is = e.is; size = sized_more b c x h e.size }

-- a small number is below the mark
encoded_below : {b : ℕ} {x : Value} {z : ℤ} → b ≤ unbounded_mark → Encoded b x z → z ≤ℤ pos unbounded_mark
unfolding encode
encoded_below {b} {x} {z} h e = go x e.is e.size
  where
    go : (y : Value) → z ≡ encode y → Sized b y → z ≤ℤ pos unbounded_mark
    go (finite u) p s = ≤_trans (≡-≤ p) (size_above u unbounded_mark (omega arith))
    go unbounded p s = ≡-≤ p

-- the higher of two values is the larger of their numbers
pub encoded_highest :
    {b : ℕ} {x y : Value} {z w : ℤ}
    → b ≤ unbounded_mark
    → Encoded b x z
    → Encoded b y w
    → Encoded b (highest x y) (larger z w)
unfolding highest encode
encoded_highest {b} {x} {y} {z} {w} h e f = go x y e.is e.size f.is f.size (encoded_below h e) (encoded_below h f)
  where
    go :
        (u v : Value)
        → z ≡ encode u
        → Sized b u
        → w ≡ encode v
        → Sized b v
        → z ≤ℤ pos unbounded_mark
        → w ≤ℤ pos unbounded_mark
        → Encoded b (highest u v) (larger z w)
    go (finite m) (finite n) p s q t l r = record { is = ap₂ larger p q; size = larger_size m n b s t }
    go (finite m) unbounded p s q t l r = record { is = larger_is_right (≤_trans l (≡-≤ (sym q))) ∙ q; size = tt }
    go unbounded v p s q t l r = record { is = larger_is_left (≤_trans r (≡-≤ (sym p))) ∙ p; size = tt }

-- ---- a sum over a layer, term by term

-- some sum stands there, over some layer
pub record LayerSummable (part : List ℕ) (from n : ℕ) (layer : List ℤ) : Type 0 where
  pub ranges : Ranges
  pub ts : List Term
  pub val : ℕ → Value
  pub terms : Terms ranges part from n ts
  pub row : LayerRow ranges.vars layer val

-- r is the sum, in every reading
pub record IsLayerSum (part : List ℕ) (from n : ℕ) (layer : List ℤ) (r : ℤ) : Type 0 where
  pub is : (k : Ranges) (ts : List Term) (f : ℕ → Value) → Terms k part from n ts → LayerRow k.vars layer f → Encoded 8_000_000_000_000_000 (layer_sum f ts) r

-- i of the n terms, all of them finite, are added up to `acc`
pub record LayerAdding (k : Ranges) (part : List ℕ) (from n : ℕ) (f : ℕ → Value) (ts : List Term) (i : ℕ) (acc : ℤ) : Type 0 where
  pub others : List Term
  pub terms : Terms k part (from + 4 * i) (n - i) others
  pub total : layer_sum f ts ≡ plus (finite acc) (layer_sum f others)

plus_zero : (x : Value) → x ≡ plus (finite (pos 0)) x
unfolding plus
plus_zero (finite z) = ap finite (sym (zero-+ z))
plus_zero unbounded = refl

plus_assoc : (a b : ℤ) (x : Value) → plus (finite a) (plus (finite b) x) ≡ plus (finite (a +ℤ b)) x
unfolding plus
plus_assoc a b (finite z) = ap finite (sym (+_assoc a b z))
plus_assoc a b unbounded = refl

pub layer_start : {k : Ranges} {part : List ℕ} {from n : ℕ} {ts : List Term} (f : ℕ → Value) → Terms k part from n ts → LayerAdding k part from n f ts 0 (pos 0)
layer_start {ts} f h = record { others = ts; terms = terms_place h (omega arith) (omega arith); total = plus_zero (layer_sum f ts) }

module _ {k : Ranges} {part : List ℕ} {from n : ℕ} {f : ℕ → Value} {ts : List Term} {i : ℕ} {acc : ℤ} (h : i < n) (a : LayerAdding k part from n f ts i acc) where
  layer_first : FirstOf k part (from + 4 * i) (n - i) a.others
  layer_first = first_of a.terms (omega arith)

  pub layer_term : TermAt part (from + 4 * i)
  layer_term = term_at layer_first.terms

  module _ {layer : List ℤ} {v : ℕ} (r : LayerRow k.vars layer f) (q : IsVariable part (from + 4 * i) v) where
    layer_var : v ≡ layer_first.first.var
    layer_var = var_by layer_first.terms q

    pub layer_room : v < length layer
    layer_room = rw layer_var (omega (arith, r.long, term_var_small layer_first.terms))

    layer_value : Encoded largest_value (f layer_first.first.var) (get_or layer v (pos 0))
    layer_value = rw layer_var (r.each layer_first.first.var (term_var_small layer_first.terms))

    -- a term that is unbounded makes the sum unbounded
    pub layer_stop : is_mark (get_or layer v (pos 0)) ≡ true → layer_sum f ts ≡ unbounded
    unfolding layer_sum plus times
    layer_stop m =
        let g = layer_first in
        a.total
        ∙ ap (λ (l : List Term). plus (finite acc) (layer_sum f l)) g.is
        ∙ ap (λ (x : Value). plus (finite acc) (plus (times g.first.weight x) (layer_sum f g.others))) (mark_yes (omega arith) layer_value m)

    module _ (m : is_mark (get_or layer v (pos 0)) ≡ false) where
      layer_number : f layer_first.first.var ≡ finite (get_or layer v (pos 0))
      layer_number = mark_no layer_value m

      pub layer_small : nat_abs (get_or layer v (pos 0)) ≤ largest_value
      layer_small = subst (Sized largest_value) layer_number layer_value.size

      -- one term more
      pub layer_step : {more : ℤ} → IsScaled part (from + 4 * i) (get_or layer v (pos 0)) more → LayerAdding k part from n f ts (i + 1) (acc +ℤ more)
      unfolding layer_sum times
      layer_step {more} s =
          let g = layer_first in
          record {
            others = g.others;
            terms = terms_place (terms_behind g.terms (n - (i + 1)) (omega arith)) (omega arith) refl;
            total =
                a.total
                ∙ ap (λ (l : List Term). plus (finite acc) (layer_sum f l)) g.is
                ∙ ap (λ (x : Value). plus (finite acc) (plus (times g.first.weight x) (layer_sum f g.others))) layer_number
                ∙ ap (λ (z : ℤ). plus (finite acc) (plus (finite z) (layer_sum f g.others))) (sym (scaled_by g.terms s))
                ∙ plus_assoc acc more (layer_sum f g.others);
          }

layer_total : {k : Ranges} {part : List ℕ} {from n : ℕ} {f : ℕ → Value} {ts : List Term} {i : ℕ} {acc : ℤ} → n ≤ i → LayerAdding k part from n f ts i acc → layer_sum f ts ≡ finite acc
unfolding layer_sum plus
layer_total {n} {f} {i} {acc} h a = a.total ∙ none a.others (omega (arith, a.terms.many))
  where
    none : (l : List Term) → length l ≡ 0 → plus (finite acc) (layer_sum f l) ≡ finite acc
    none [] e = ap finite (+-zero acc)
    none (t ∷ l) e = absurd (omega arith)

pub encoded_finite : (b : ℕ) {x : Value} {z : ℤ} → x ≡ finite z → nat_abs z ≤ b → Encoded b x z
unfolding encode
encoded_finite b {x} {z} e h = rw e (record { is = refl; size = h })

pub encoded_unbounded : (b : ℕ) {x : Value} → x ≡ unbounded → Encoded b x (pos unbounded_mark)
unfolding encode
encoded_unbounded b e = rw e (record { is = refl; size = tt })

pub layer_end :
    {k : Ranges} {part : List ℕ} {from n : ℕ} {f : ℕ → Value} {ts : List Term} {i : ℕ} {acc : ℤ}
    → n ≤ i
    → nat_abs acc ≤ 8_000_000_000_000_000
    → LayerAdding k part from n f ts i acc
    → Encoded 8_000_000_000_000_000 (layer_sum f ts) acc
layer_end h s a = encoded_finite 8_000_000_000_000_000 (layer_total h a) s

-- r is the sum and the constant `base`, in every reading
pub record IsLayerValue (part : List ℕ) (from n : ℕ) (base : ℤ) (layer : List ℤ) (r : ℤ) : Type 0 where
  pub is : (k : Ranges) (ts : List Term) (f : ℕ → Value) → Terms k part from n ts → LayerRow k.vars layer f → Encoded 8_000_000_001_000_000 (plus (layer_sum f ts) (finite base)) r

-- an unbounded sum stays so
pub layer_value_stop :
    {part : List ℕ} {from n : ℕ} (base : ℤ) {s : ℤ} {layer : List ℤ}
    → IsLayerSum part from n layer s
    → is_mark s ≡ true
    → IsLayerValue part from n base layer (pos unbounded_mark)
unfolding plus
layer_value_stop base q m =
    record {
      is =
          λ k ts f h w.
          encoded_unbounded 8_000_000_001_000_000
          (ap (λ (x : Value). plus x (finite base)) (mark_yes (omega arith) (q.is k ts f h w) m));
    }

pub layer_value_of :
    {part : List ℕ} {from n : ℕ} {base s r : ℤ} {layer : List ℤ}
    → IsLayerSum part from n layer s
    → is_mark s ≡ false
    → r ≡ s +ℤ base
    → nat_abs r ≤ 8_000_000_001_000_000
    → IsLayerValue part from n base layer r
unfolding plus
layer_value_of {base} q m e b =
    record {
      is =
          λ k ts f h w.
          encoded_finite 8_000_000_001_000_000
          (ap (λ (x : Value). plus x (finite base)) (mark_no (q.is k ts f h w) m) ∙ ap finite (sym e))
          b;
    }

-- a sum that is no mark is small
pub layer_sum_small :
    {part : List ℕ} {from n : ℕ} {s : ℤ} {layer : List ℤ}
    → LayerSummable part from n layer
    → IsLayerSum part from n layer s
    → is_mark s ≡ false
    → nat_abs s ≤ 8_000_000_000_000_000
layer_sum_small p q m =
    let e = q.is p.ranges p.ts p.val p.terms p.row in
    subst (Sized 8_000_000_000_000_000) (mark_no e m) e.size

-- ---- conditions

-- no 64-bit number is above the mark
below_top : (c : ℤ) → mag c < 2 ^ 63 → le_z c (pos unbounded_mark) ≡ true
below_top (pos n) h = le_le_z {a = pos n} {b = pos unbounded_mark} (omega zlin)
below_top (negsuc n) h = refl

-- "unbounded and above every number": a number in layer memory is compared as it stands
pub reaches_encoded : (x : Value) {z : ℤ} (c : ℤ) → z ≡ encode x → mag c < 2 ^ 63 → le_z c z ≡ reaches x c
unfolding encode reaches
reaches_encoded (finite u) c e h = ap (le_z c) e
reaches_encoded unbounded c e h = ap (le_z c) e ∙ below_top c h

-- the comparison by its number
unfoldable pub compares_by : ℕ → ℤ → ℤ → Bool
compares_by zero s c = le_z c s
compares_by (suc zero) s c = lt_z c s
compares_by (suc (suc zero)) s c = le_z s c
compares_by (suc (suc (suc zero))) s c = lt_z s c
compares_by (suc (suc (suc (suc n)))) s c = le_z c s && le_z s c

coded : (o : Comparison) (s c : ℤ) → compares_by (comparison_code o) s c ≡ compares o s c
unfolding compares_by comparison_code compares
coded at_least s c = refl
coded above s c = refl
coded at_most s c = refl
coded below s c = refl
coded equal s c = refl

pub compares_code : (o : Comparison) (n : ℕ) (s c : ℤ) → comparison_code o ≡ n → compares_by n s c ≡ compares o s c
compares_code o n s c e = ap (λ (m : ℕ). compares_by m s c) (sym e) ∙ coded o s c
