-- Whole blocks: a walk over the items that are left, what a block's conditions say of a state and of a layer, and its effect on a
-- variable. Assumes nothing.
use Rattle.std.specs.Prelude.{ℕ, ◌≤◌, ◌<◌, ◌≡◌, Bool, true, false, ◌&&◌, ◌||◌, List, [], ◌∷◌, ℤ, nat_abs, ◌+ℤ◌, length, get_or}
use Rattle.std.proofs.Common.{arith, ◌∙◌, eq-eqb, ne_eqb}
use Rattle.std.proofs.Math.Path.{refl, sym, ap, subst}
use Rattle.std.proofs.Math.Option.{some}
use Rattle.model.specs.Lists.{all, any}
use Rattle.model.specs.Task.{Term, Comparison, Condition, Effect, Item, need, add, delete, condition, effect, Block, effect_on}
use Rattle.model.specs.Command.{comparison_code}
use Rattle.model.specs.Move.{State, sum, compares, holds, applicable, value}
use Rattle.model.specs.Layer.{Value, finite, Layer, plus, layer_sum, reaches, holds_in, usable, layer_value}
use Rattle.block.specs.Items.{Ranges, Left, left_end, Terms, Followed, ConditionIs, EffectIs, Found, behind, Moves, Next, next_ahead, bound_small, base_small}
use Rattle.block.specs.Sums.{Row, Summable, LayerRow, Encoded, LayerSummable, IsValue, IsLayerValue}
use Rattle.block.specs.declared.ItemAt.{ItemAt}
use Rattle.block.specs.declared.ItemAt.TheVariants.{Need, Add, Delete, Condition as ConditionAt, Effect as EffectAt, End}

-- ---- a walk over the items of a part

-- at the offset, what g says of the items that are left is `whole`
pub record Reading {X : Type 0} (k : Ranges) (part : List ℕ) (whole : X) (g : Block → X) (at : ℕ) : Type 0 where
  pub rest : Block
  pub left : Left k part at rest
  pub same : whole ≡ g rest

pub reading_start : {X : Type 0} {k : Ranges} {part : List ℕ} {at : ℕ} {b : Block} (g : Block → X) → Left k part at b → Reading k part (g b) g at
reading_start {b} g l = record { rest = b; left = l; same = refl }

module _ {X : Type 0} {k : Ranges} {part : List ℕ} {whole : X} {g : Block → X} {at : ℕ} (r : Reading k part whole g at) where
  -- the first item is passed
  pub reading_next : {after : ℕ} {i : Item} (h : Block → X) → Followed k part after r.rest i → ((o : Block) → g (i ∷ o) ≡ h o) → Reading k part whole h after
  reading_next h f e = record { rest = f.others; left = f.left; same = r.same ∙ ap g f.is ∙ e f.others }

  -- what the whole is at an item that decides it
  pub reading_stop : {after : ℕ} {i : Item} {x : X} → Followed k part after r.rest i → ((o : Block) → g (i ∷ o) ≡ x) → x ≡ whole
  reading_stop f e = sym (r.same ∙ ap g f.is ∙ e f.others)

  -- what the whole is at the end
  pub reading_end : {x : X} → r.rest ≡ [] → g [] ≡ x → x ≡ whole
  reading_end n e = sym (r.same ∙ ap g n ∙ e)

-- the next item, once its case is known
pub next_is : {part : List ℕ} {at : ℕ} {r x : ItemAt} → Next part at r → r ≡ x → Next part at x
next_is {part} {at} n e = subst (Next part at) e n

-- The walk over a whole block, in every reading of the part: g is a question about the block, asked over whatever `over` says
-- that the caller's memories hold (a state, a layer). At the offset, the items that are left give its answer.
pub record Walk {I X : Type 0} (part : List ℕ) (over : Ranges → I → Type 0) (g : I → Block → X) (at : ℕ) : Type 0 where
  pub within : at ≤ length part
  pub reading : (k : Ranges) (b : Block) (s : I) → Left k part 1 b → over k s → Reading k part (g s b) (g s) at

-- the item at the offset does not change the answer
abbrev pub Passing : {I X : Type 0} → List ℕ → (Ranges → I → Type 0) → (I → Block → X) → ItemAt → Type 0
Passing {I} part over g (Need p after) = (k : Ranges) (s : I) → over k s → p < k.props → (o : Block) → g s (need p ∷ o) ≡ g s o
Passing {I} part over g (Add p after) = (k : Ranges) (s : I) → over k s → p < k.props → (o : Block) → g s (add p ∷ o) ≡ g s o
Passing {I} part over g (Delete p after) = (k : Ranges) (s : I) → over k s → p < k.props → (o : Block) → g s (delete p ∷ o) ≡ g s o
Passing {I} part over g (ConditionAt q z from n after) = (k : Ranges) (s : I) (c : Condition) → over k s → ConditionIs k part q z from n c → (o : Block) → g s (condition c ∷ o) ≡ g s o
Passing {I} part over g (EffectAt kd v z from n after) = (k : Ranges) (s : I) (e : Effect) → over k s → e.var ≡ v → EffectIs k part kd z from n e → (o : Block) → g s (effect e ∷ o) ≡ g s o
Passing part over g End = Unit {0}

-- it decides the answer
abbrev pub Deciding : {I X : Type 0} → List ℕ → (Ranges → I → Type 0) → (I → Block → X) → X → ItemAt → Type 0
Deciding {I} part over g x (Need p after) = (k : Ranges) (s : I) → over k s → p < k.props → (o : Block) → g s (need p ∷ o) ≡ x
Deciding {I} part over g x (Add p after) = (k : Ranges) (s : I) → over k s → p < k.props → (o : Block) → g s (add p ∷ o) ≡ x
Deciding {I} part over g x (Delete p after) = (k : Ranges) (s : I) → over k s → p < k.props → (o : Block) → g s (delete p ∷ o) ≡ x
Deciding {I} part over g x (ConditionAt q z from n after) = (k : Ranges) (s : I) (c : Condition) → over k s → ConditionIs k part q z from n c → (o : Block) → g s (condition c ∷ o) ≡ x
Deciding {I} part over g x (EffectAt kd v z from n after) = (k : Ranges) (s : I) (e : Effect) → over k s → e.var ≡ v → EffectIs k part kd z from n e → (o : Block) → g s (effect e ∷ o) ≡ x
Deciding {I} part over g x End = (s : I) → g s [] ≡ x

module _ {I X : Type 0} {part : List ℕ} (over : Ranges → I → Type 0) (g : I → Block → X) where
  pub walk_start : 1 ≤ length part → Walk part over g 1
  walk_start h = record { within = h; reading = λ k b s l o. reading_start (g s) l }

  module _ {at : ℕ} (w : Walk part over g at) where
    pub walk_found :
        {x : ItemAt} (k : Ranges) (b : Block) (s : I) (l : Left k part 1 b) (o : over k s)
        → Next part at x
        → Found k part (w.reading k b s l o).rest x
    walk_found k b s l o t = let r = w.reading k b s l o in t.found k r.rest r.left

    pub walk_next : {x : ItemAt} → at < length part → Next part at x → Passing part over g x → Walk part over g (behind x)
    unfolding behind
    walk_next {x} lt t q =
        record { within = (next_ahead lt t).1; reading = λ k b s l o. go x t.moves q k b s l o (walk_found k b s l o t) }
      where
        go :
            (y : ItemAt)
            → Moves at (length part) y
            → Passing part over g y
            → (k : Ranges) (b : Block) (s : I) (l : Left k part 1 b) (o : over k s)
            → Found k part (w.reading k b s l o).rest y
            → Reading k part (g s b) (g s) (behind y)
        go (Need p after) m h k b s l o f = reading_next (w.reading k b s l o) (g s) f (h k s o f.ok)
        go (Add p after) m h k b s l o f = reading_next (w.reading k b s l o) (g s) f (h k s o f.ok)
        go (Delete p after) m h k b s l o f = reading_next (w.reading k b s l o) (g s) f (h k s o f.ok)
        go (ConditionAt c z from n after) m h k b s l o f =
            reading_next (w.reading k b s l o) (g s) f.followed (h k s f.it o f.is)
        go (EffectAt kd v z from n after) m h k b s l o f =
            reading_next (w.reading k b s l o) (g s) f.followed (h k s f.it o f.var f.is)
        go End m h k b s l o f = absurd (omega arith)

    pub walk_stop :
        {x : ItemAt} {y : X}
        → Next part at x
        → Deciding part over g y x
        → (k : Ranges) (b : Block) (s : I)
        → Left k part 1 b
        → over k s
        → y ≡ g s b
    walk_stop {x} {y} t q k b s l o = go x q (walk_found k b s l o t)
      where
        r : Reading k part (g s b) (g s) at
        r = w.reading k b s l o

        go : (u : ItemAt) → Deciding part over g y u → Found k part r.rest u → y ≡ g s b
        go (Need p after) h f = reading_stop r f (h k s o f.ok)
        go (Add p after) h f = reading_stop r f (h k s o f.ok)
        go (Delete p after) h f = reading_stop r f (h k s o f.ok)
        go (ConditionAt c z from n after) h f = reading_stop r f.followed (h k s f.it o f.is)
        go (EffectAt kd v z from n after) h f = reading_stop r f.followed (h k s f.it o f.var f.is)
        go End h f = reading_end r f (h s)

-- at the part's end no item is left
pub walk_done :
    {I X : Type 0} {part : List ℕ} (over : Ranges → I → Type 0) (g : I → Block → X) {at : ℕ}
    → Walk part over g at
    → length part ≤ at
    → {x : X}
    → ((s : I) → g s [] ≡ x)
    → (k : Ranges) (b : Block) (s : I)
    → Left k part 1 b
    → over k s
    → x ≡ g s b
walk_done over g w h e k b s l o = let r = w.reading k b s l o in reading_end r (left_end h r.left) (e s)

-- ---- how the questions about a block go by its first item

module _ {A : Type 0} (f : A → Bool) where
  pub all_true : {x : A} → f x ≡ true → (xs : List A) → all f (x ∷ xs) ≡ all f xs
  unfolding all
  all_true e xs = ap (λ (t : Bool). t && all f xs) e

  pub all_false : {x : A} → f x ≡ false → (xs : List A) → all f (x ∷ xs) ≡ false
  unfolding all
  all_false e xs = ap (λ (t : Bool). t && all f xs) e

  pub any_true : {x : A} → f x ≡ true → (xs : List A) → any f (x ∷ xs) ≡ true
  unfolding any
  any_true e xs = ap (λ (t : Bool). t || any f xs) e

  pub any_false : {x : A} → f x ≡ false → (xs : List A) → any f (x ∷ xs) ≡ any f xs
  unfolding any
  any_false e xs = ap (λ (t : Bool). t || any f xs) e

-- ---- a block over a state

-- a state's propositions, and the values of its variables
pub record StateRow (k : Ranges) (flags : List Bool) (values : List ℤ) (s : State) : Type 0 where
  pub long : k.props ≤ length flags
  pub has : (p : ℕ) → p < k.props → get_or flags p false ≡ s.has p
  pub row : Row k.vars values s.val

-- some block stands behind the part's first byte, over some state
pub record Testable (part : List ℕ) (flags : List Bool) (values : List ℤ) : Type 0 where
  pub ranges : Ranges
  pub block : Block
  pub over : State
  pub left : Left ranges part 1 block
  pub row : StateRow ranges flags values over

-- t says whether the sum compares so, in every reading
pub record IsTest (part : List ℕ) (o : ℕ) (c : ℤ) (from n : ℕ) (values : List ℤ) (t : Bool) : Type 0 where
  pub is : (k : Ranges) (ts : List Term) (f : ℕ → ℤ) (p : Comparison) → Terms k part from n ts → Row k.vars values f → comparison_code p ≡ o → t ≡ compares p (sum f ts) c

-- t says whether the block's conditions hold, in every reading
pub record IsApplicable (part : List ℕ) (flags : List Bool) (values : List ℤ) (t : Bool) : Type 0 where
  pub is : (k : Ranges) (b : Block) (s : State) → Left k part 1 b → StateRow k flags values s → t ≡ applicable s b

-- a condition's and an effect's constant are small
pub condition_bound :
    {k : Ranges} {part : List ℕ} {o : ℕ} {z : ℤ} {from n : ℕ} {c : Condition}
    → ConditionIs k part o z from n c
    → nat_abs z ≤ 1_000_001
condition_bound {k} {c} g = subst (λ (z : ℤ). nat_abs z ≤ 1_000_001) g.bound (bound_small k.form c.bound g.ok.bound)

pub effect_base :
    {k : Ranges} {part : List ℕ} {kd : ℕ} {z : ℤ} {from n : ℕ} {e : Effect}
    → EffectIs k part kd z from n e
    → nat_abs z ≤ 1_000_000
effect_base g = subst (λ (z : ℤ). nat_abs z ≤ 1_000_000) g.base (base_small g.ok)

pub summable :
    {k : Ranges} {part : List ℕ} {from n : ℕ} {ts : List Term} {values : List ℤ} {f : ℕ → ℤ}
    → Terms k part from n ts
    → Row k.vars values f
    → Summable part from n values
summable {k} {ts} {f} h w = record { ranges = k; ts = ts; val = f; terms = h; row = w }

module _ (s : State) {k : Ranges} {part : List ℕ} {from n : ℕ} {values : List ℤ} (w : Row k.vars values s.val) where
  pub condition_test :
      {o : ℕ} {z : ℤ} {c : Condition} {t : Bool}
      → ConditionIs k part o z from n c
      → IsTest part o z from n values t
      → holds s (condition c) ≡ t
  unfolding holds
  condition_test {c} g q =
      ap (compares c.comparison (sum s.val c.terms)) g.bound
      ∙ sym (q.is k c.terms s.val c.comparison g.terms w g.comparison)

  pub effect_value :
      {kd : ℕ} {z r : ℤ} {e : Effect}
      → EffectIs k part kd z from n e
      → IsValue part from n z values r
      → r ≡ value s e
  unfolding value
  effect_value {e} g q =
      q.is k e.terms s.val g.terms w ∙ ap (λ (z : ℤ). sum s.val e.terms +ℤ z) (sym g.base)

-- ---- a block over a layer

-- a layer's propositions, and the values of its variables
pub record LayerState (k : Ranges) (flags : List Bool) (layer : List ℤ) (l : Layer) : Type 0 where
  pub long : k.props ≤ length flags
  pub has : (p : ℕ) → p < k.props → get_or flags p false ≡ l.has p
  pub row : LayerRow k.vars layer l.val

pub record LayerTestable (part : List ℕ) (flags : List Bool) (layer : List ℤ) : Type 0 where
  pub ranges : Ranges
  pub block : Block
  pub over : Layer
  pub left : Left ranges part 1 block
  pub row : LayerState ranges flags layer over

pub record IsLayerTest (part : List ℕ) (c : ℤ) (from n : ℕ) (layer : List ℤ) (t : Bool) : Type 0 where
  pub is : (k : Ranges) (ts : List Term) (f : ℕ → Value) → Terms k part from n ts → LayerRow k.vars layer f → t ≡ reaches (layer_sum f ts) c

pub record IsUsable (part : List ℕ) (flags : List Bool) (layer : List ℤ) (t : Bool) : Type 0 where
  pub is : (k : Ranges) (b : Block) (l : Layer) → Left k part 1 b → LayerState k flags layer l → t ≡ usable l b

pub layer_summable :
    {k : Ranges} {part : List ℕ} {from n : ℕ} {ts : List Term} {layer : List ℤ} {f : ℕ → Value}
    → Terms k part from n ts
    → LayerRow k.vars layer f
    → LayerSummable part from n layer
layer_summable {k} {ts} {f} h w = record { ranges = k; ts = ts; val = f; terms = h; row = w }

module _ (l : Layer) {k : Ranges} {part : List ℕ} {from n : ℕ} {layer : List ℤ} (w : LayerRow k.vars layer l.val) where
  pub layer_condition_test :
      {o : ℕ} {z : ℤ} {c : Condition} {t : Bool}
      → ConditionIs k part o z from n c
      → IsLayerTest part z from n layer t
      → holds_in l (condition c) ≡ t
  unfolding holds_in
  layer_condition_test {c} g q =
      ap (reaches (layer_sum l.val c.terms)) g.bound ∙ sym (q.is k c.terms l.val g.terms w)

  pub layer_effect_value :
      {kd : ℕ} {z r : ℤ} {e : Effect}
      → EffectIs k part kd z from n e
      → IsLayerValue part from n z layer r
      → Encoded 8_000_000_001_000_000 (layer_value l e) r
  unfolding layer_value
  layer_effect_value {r} {e} g q =
      subst (λ (z : ℤ). Encoded 8_000_000_001_000_000 (plus (layer_sum l.val e.terms) (finite z)) r) (sym g.base)
      (q.is k e.terms l.val g.terms w)

-- ---- the block's effect on a variable

module _ (v : ℕ) (e : Effect) where
  pub effect_on_here : e.var ≡ v → (b : Block) → effect_on v (effect e ∷ b) ≡ some e
  unfolding effect_on
  effect_on_here p b = rw (eq-eqb e.var v p, effect_on) refl

  pub effect_on_other : (e.var ≡ v → ⊥) → (b : Block) → effect_on v (effect e ∷ b) ≡ effect_on v b
  unfolding effect_on
  effect_on_other p b = rw (ne_eqb e.var v p, effect_on) refl
