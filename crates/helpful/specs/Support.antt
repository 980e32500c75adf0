-- What a block supports: a proposition that is wanted and that the layer lacks, or a target that the layer does not reach. Assumes nothing.
use Rattle.std.specs.Prelude.{ℕ, ◌≤◌, ◌<◌, ◌≡◌, Bool, true, false, ◌&&◌, List, ℤ, pos, length}
use Rattle.std.proofs.Common.{arith, ◌∙◌}
use Rattle.std.proofs.Math.Path.{sym, ap, ap₂}
use Rattle.std.proofs.Math.Bool.{not}
use Rattle.std.proofs.Math.ListN.{get_or}
use Rattle.model.specs.Lists.{any}
use Rattle.model.specs.Task.{Effect, add, effect, Block}
use Rattle.model.specs.Layer.{Layer, reaches, layer_value}
use Rattle.model.specs.Memory.{encode}
use Rattle.model.specs.Plan.{Target, Wants, demand, achieves, reaches_new, supports}
use Rattle.block.specs.Items.{Ranges, Left, EffectIs}
use Rattle.block.specs.Sums.{LayerRow}
use Rattle.stored_layer.specs.View.{held_by}
use Rattle.targets.specs.Encoding.{code, holding, SmallTarget, Encodes, is_free, free_yes, free_no}
use Rattle.taking.specs.Descending.{SmallTargets}

-- ---- an effect

-- the arguments are an effect of some block, and the row of some layer
pub record Testable (part : List ℕ) (kd : ℕ) (base : ℤ) (from n : ℕ) (row : List ℤ) : Type 0 where
  pub ranges : Ranges
  pub it : Effect
  pub over : Layer
  pub effect : EffectIs ranges part kd base from n it
  pub values : LayerRow ranges.vars row over.val

pub record ReachesNew (part : List ℕ) (kd : ℕ) (base : ℤ) (from n : ℕ) (row : List ℤ) (old target : ℤ) (r : Bool) : Type 0 where
  pub is :
      (k : Ranges) (e : Effect) (l : Layer) (t : Target)
      → EffectIs k part kd base from n e
      → LayerRow k.vars row l.val
      → old ≡ encode (l.val e.var)
      → target ≡ code t
      → SmallTarget t
      → r ≡ reaches_new l t e

module _ (l : Layer) (t : Target) (e : Effect) {target : ℤ} (is : target ≡ code t) where
  -- no target
  pub new_free : SmallTarget t → is_free target ≡ true → false ≡ reaches_new l t e
  unfolding reaches_new
  new_free small h = ap (λ (x : Target). reaches_new l x e) (sym (free_yes t is small h))

  module _ (h : is_free target ≡ false) where
    there : reaches_new l t e ≡ (not (reaches (l.val e.var) target) && reaches (layer_value l e) (demand e.kind target))
    unfolding reaches_new achieves
    there = ap (λ (x : Target). reaches_new l x e) (free_no t is h)

    -- the layer reaches it
    pub new_had : reaches (l.val e.var) target ≡ true → false ≡ reaches_new l t e
    new_had r = sym (there ∙ ap (λ (x : Bool). not x && reaches (layer_value l e) (demand e.kind target)) r)

    -- it does not: the effect's value decides
    pub new_tested : {b : Bool} → reaches (l.val e.var) target ≡ false → b ≡ reaches (layer_value l e) (demand e.kind target) → b ≡ reaches_new l t e
    new_tested r q = q ∙ sym (there ∙ ap (λ (x : Bool). not x && reaches (layer_value l e) (demand e.kind target)) r)

-- ---- a block

-- layer 0, from the entries of a memory and its row, and the wants of layer 1
pub record Scene (k : Ranges) (wanted : List Bool) (targets layers row : List ℤ) (s : Layer × Wants) : Type 0 where
  pub long : k.props ≤ length layers
  pub has : (p : ℕ) → p < k.props → held_by (get_or layers p (pos 0)) 0 ≡ s.0.has p
  pub values : LayerRow k.vars row s.0.val
  pub wants : Encodes k.props k.vars (holding wanted targets) s.1
  pub small : SmallTargets s.1

-- what is asked of the items
abbrev pub supporting : Layer × Wants → Block → Bool
supporting s b = any (supports s.0 s.1) b

pub record Supportable (part : List ℕ) (wanted : List Bool) (targets layers row : List ℤ) : Type 0 where
  pub ranges : Ranges
  pub block : Block
  pub over : Layer × Wants
  pub left : Left ranges part 1 block
  pub scene : Scene ranges wanted targets layers row over

pub record Supports (part : List ℕ) (wanted : List Bool) (targets layers row : List ℤ) (r : Bool) : Type 0 where
  pub is : (k : Ranges) (b : Block) (s : Layer × Wants) → Left k part 1 b → Scene k wanted targets layers row s → r ≡ supporting s b

module _ {k : Ranges} {wanted : List Bool} {targets layers row : List ℤ} {s : Layer × Wants} (x : Scene k wanted targets layers row s) where
  pub wanted_room : {p : ℕ} → p < k.props → p < 120
  wanted_room h = omega (arith, x.wants.few_props)

  pub has_room : {p : ℕ} → p < k.props → p < length layers
  has_room h = omega (arith, x.long)

  pub target_room : {v : ℕ} → v < k.vars → v < 32
  target_room h = omega (arith, x.wants.few_vars)

  pub row_room : {v : ℕ} → v < k.vars → v < length row
  row_room h = omega (arith, x.values.long)

  -- an item 2B
  pub prop_supports : {p : ℕ} {had : Bool} → p < k.props → had ≡ held_by (get_or layers p (pos 0)) 0 → supports s.0 s.1 (add p) ≡ (get_or wanted p false && not had)
  unfolding supports
  prop_supports {p} h e = ap₂ (λ (a b : Bool). a && not b) (sym (x.wants.prop p h)) (sym (e ∙ x.has p h))

  -- an item 46
  pub effect_supports :
      {part : List ℕ} {kd v : ℕ} {base : ℤ} {from n : ℕ} {e : Effect} {r : Bool}
      → e.var ≡ v
      → EffectIs k part kd base from n e
      → ReachesNew part kd base from n row (get_or row v (pos 0)) (get_or targets v (pos 0)) r
      → supports s.0 s.1 (effect e) ≡ r
  unfolding supports
  effect_supports {e = e} at-v is q =
      let lt = is.ok.var in
      sym (q.is k e s.0 (s.1.target e.var) is x.values
      (ap (λ (i : ℕ). get_or row i (pos 0)) (sym at-v) ∙ (x.values.each e.var lt).is)
      (ap (λ (i : ℕ). get_or targets i (pos 0)) (sym at-v) ∙ x.wants.target e.var lt)
      (x.small.each e.var))
