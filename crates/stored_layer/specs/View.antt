-- A layer as it stands in layer memory: its propositions and usable moves from the entries, its values, and the low values beside
-- the state's. Assumes nothing.
use Rattle.std.specs.Prelude.{ℕ, ◌+◌, ◌*◌, ◌≤◌, ◌<◌, ◌≡◌, refl, Bool, true, false, cond, ◌&&◌, List, ◌++◌, ℤ, pos, nat_abs, set}
use native.Mathlib.Omega.{arith}
use Rattle.std.proofs.Math.Path.{sym, ap}
use Rattle.std.proofs.Common.{◌∙◌, subst, length-set, get_or-set_same, get_or-set_other, length-append, length-drop}
use Rattle.std.specs.Int.Signed.{le_z}
use Rattle.std.proofs.Math.ListN.{length, get_or, drop, get_or-append}
use Rattle.model.specs.Limits.{paper, largest_value}
use Rattle.model.specs.Task.{normal, Task}
use Rattle.model.specs.Move.{State, move_at}
use Rattle.model.specs.Layer.{Value, finite, unbounded, Layer, usable, layer, layer_of, layer_at}
use Rattle.model.specs.Memory.{encode, prop_entry, move_entry, unbounded_mark}
use Rattle.model.specs.Plan.{low_value, low}
use Rattle.model.proofs.Theorems.Laws.Searching.{below_suc}
use Rattle.model.proofs.Theorems.Layers.Order.{usable_mono}
use Rattle.model.specs.Theorems.Reading.WellFormed.{TaskOk}
use Rattle.model.proofs.Theorems.Layers.NextLayer.{layer_mono, move_ok}
use Rattle.model.proofs.Theorems.Layers.Entries.{entry_says}
use Rattle.model.specs.Theorems.Layers.Memories.{Holds}
use Rattle.model.proofs.Theorems.Sizes.Bounds.{between_size}
use Rattle.model.specs.Theorems.Sizes.States.{SmallState}
use Rattle.model.specs.Theorems.Sizes.Layers.{SmallLayer, FiniteBetween}
use Rattle.block.specs.Sums.{Row, LayerRow, Encoded, Sized, is_mark, mark_yes, mark_no}

-- ---- arrays that are filled from their start

-- of so many elements the first n are g's
pub record Filled {A : Type 0} (d : A) (g : ℕ → A) (n size : ℕ) (l : List A) : Type 0 where
  pub long : length l ≡ size
  pub done : (i : ℕ) → i < n → get_or l i d ≡ g i

module _ {A : Type 0} {d : A} {g : ℕ → A} {size : ℕ} where
  pub filled_none : {l : List A} → length l ≡ size → Filled d g 0 size l
  filled_none e = record { long = e; done = λ i h. absurd (omega arith) }

  pub filled_step : {l : List A} {i : ℕ} {x : A} → i < size → Filled d g i size l → x ≡ g i → Filled d g (i + 1) size (set l i x)
  filled_step {l} {i} {x} room f e =
      record {
        long = length-set l i x ∙ f.long;
        done =
            λ j h.
            below_suc j i (omega arith)
            (λ below. get_or-set_other l i j x d (λ q. omega arith) ∙ f.done j below)
            (λ q. subst (λ (m : ℕ). get_or (set l i x) m d ≡ g m) (sym q) (get_or-set_same l i x d (omega (arith, f.long)) ∙ e));
      }

  -- a copy into the first n
  pub filled_front : (l s : List A) {n : ℕ} → length l ≡ size → n ≤ size → length s ≡ n → ((i : ℕ) → i < n → get_or s i d ≡ g i) → Filled d g n size (s ++ drop n l)
  filled_front l s {n} e h k f =
      record {
        long = omega (arith, length-append s (drop n l), length-drop n l);
        done = λ i b. get_or-append s (drop n l) d i (omega arith) ∙ f i b;
      }

  pub filled_end : {l : List A} {i n : ℕ} → i ≤ n → n ≤ i → Filled d g i size l → Filled d g n size l
  filled_end {l} {i} {n} h k f = let e : i ≡ n = omega arith in subst (λ (m : ℕ). Filled d g m size l) e f

-- ---- entries

-- the entry says that layer t has it
unfoldable pub held_by : ℤ → ℕ → Bool
held_by e t = le_z (pos 0) e && le_z e (pos t)

unfoldable pub held_at : List ℤ → ℕ → ℕ → ℕ → Bool
held_at mem from t i = held_by (get_or mem (from + i) (pos 0)) t

-- ---- rows

-- the numbers of the memory from a place on
unfoldable pub number_at : List ℤ → ℕ → ℕ → ℤ
number_at mem from i = get_or mem (from + i) (pos 0)

-- "layer values for finite and state values for other unbounded ones"
unfoldable pub low_by : ℤ → ℤ → ℤ
low_by x y = cond (is_mark x) y x

unfoldable pub low_at : List ℤ → List ℤ → ℕ → ℤ
low_at row start v = low_by (get_or row v (pos 0)) (get_or start v (pos 0))

pub low_mark : (x y : ℤ) → is_mark x ≡ true → y ≡ low_by x y
unfolding low_by
low_mark x y e = rw e refl

pub low_number : (x y : ℤ) → is_mark x ≡ false → x ≡ low_by x y
unfolding low_by
low_number x y e = rw e refl

low_encoded : {b : ℕ} (x : Value) {z : ℤ} (y : ℤ) → b < unbounded_mark → Encoded b x z → (t : Bool) → is_mark z ≡ t → low_by z y ≡ low_value x y
unfolding low_by low_value
low_encoded x {z} y h e true m = rw (m, mark_yes h e m) refl
low_encoded x {z} y h e false m = rw (m, mark_no e m) refl

-- ---- a layer of the memory

module _ {k : Task} {s : State} (ok : TaskOk paper normal k) {n steps : ℕ} {old mem : List ℤ} (held : Holds k s n steps old mem) where
  pub view_has : {t : ℕ} → t < n → (p : ℕ) → p < k.props → held_at mem 0 t p ≡ (layer_at k s t).has p
  unfolding held_at held_by layer_at prop_entry
  view_has {t} h p i =
      let place : 0 + p ≡ p = omega arith in
      ap (λ (e : ℤ). held_by e t) (ap (λ (j : ℕ). get_or mem j (pos 0)) place ∙ held.prop p i)
      ∙ sym (entry_says (λ u. (layer k.moves s u).has p) (λ u w le. (layer_mono k.moves s {t = u} {u = w} le).has p) n t h)

  pub view_used : {t : ℕ} → t < steps → (b : ℕ) → b < length k.moves → held_at mem k.props t b ≡ usable (layer_at k s t) (move_at k b)
  unfolding held_at held_by layer_at move_entry move_at
  view_used {t} h b i =
      ap (λ (e : ℤ). held_by e t) (held.move b i)
      ∙ sym (entry_says (λ u. usable (layer k.moves s u) (move_at k b)) (λ u w le. usable_mono (move_ok ok b i) (layer_mono k.moves s {t = u} {u = w} le)) steps t h)

  module _ {t : ℕ} (h : t < n) (small : SmallLayer k.vars (layer_at k s t)) where
    sized : (x : Value) → FiniteBetween 1_000_000 largest_value x → Sized largest_value x
    sized (finite z) i = between_size largest_value (omega arith) (omega arith) i.if_finite
    sized unbounded i = tt

    pub view_row : {row : List ℤ} → k.vars ≤ length row → ((v : ℕ) → v < k.vars → get_or row v (pos 0) ≡ number_at mem (k.props + length k.moves + k.vars * t) v) → LayerRow k.vars row (layer_at k s t).val
    unfolding number_at
    view_row {row} long same =
        record {
          long = long;
          each =
              λ v i.
              let place : k.props + length k.moves + k.vars * t + v ≡ k.props + length k.moves + (k.vars * t + v) = omega arith in
              record {
                is = same v i ∙ ap (λ (j : ℕ). get_or mem j (pos 0)) place ∙ held.value t v h i;
                size = sized ((layer_at k s t).val v) (small.values v i);
              };
        }

-- layer 0 is the state
pub start_row : {vars : ℕ} {s : State} {row : List ℤ} → SmallState vars s → LayerRow vars row (layer_of s).val → Row vars row s.val
unfolding layer_of encode
start_row small r = record { long = r.long; same = λ v i. (r.each v i).is; size = λ v i. omega (arith, small.values v i) }

pub low_row :
    {vars : ℕ} (l : Layer) (s : State) {row start lows : List ℤ}
    → SmallState vars s
    → LayerRow vars row l.val
    → Row vars start s.val
    → vars ≤ length lows
    → ((v : ℕ) → v < vars → get_or lows v (pos 0) ≡ low_at row start v)
    → Row vars lows (low l s)
unfolding low low_value low_at
low_row l s {row} {start} small r b long each =
    record {
      long = long;
      same = λ v i. each v i ∙ ap (low_by (get_or row v (pos 0))) (b.same v i) ∙ low_encoded (l.val v) (s.val v) (omega arith) (r.each v i) (is_mark (get_or row v (pos 0))) refl;
      size = λ v i. low_size (l.val v) (s.val v) (r.each v i).size (omega (arith, small.values v i));
    }
  where
    low_size : (x : Value) (y : ℤ) → Sized largest_value x → nat_abs y ≤ largest_value → nat_abs (low_value x y) ≤ largest_value
    low_size (finite z) y h i = h
    low_size unbounded y h i = i
