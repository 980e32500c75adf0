-- "what layer t−1 already has is carried down": of the wants in the arrays, those that the layer has. Assumes nothing.
use Rattle.std.specs.Prelude.{ℕ, ◌+◌, ◌≤◌, ◌<◌, ◌≡◌, refl, Bool, true, false, cond, ◌&&◌, List, ℤ, pos, length, get_or, set}
use Rattle.std.proofs.Common.{arith, ap, ap₂, ◌∙◌, subst, get_or-set_other}
use Rattle.model.specs.Layer.{Value, Layer, reaches}
use Rattle.model.specs.Plan.{Target, free, least, Wants, carried_target, carried}
use Rattle.block.specs.Sums.{LayerRow}
use Rattle.targets.specs.declared.Targets.{Targets}
use Rattle.targets.specs.Encoding.{lowest, code, holding, Encodes}
use Rattle.stored_layer.specs.View.{Filled, filled_none, filled_step}

-- ---- an array whose elements are changed from its start

-- the first n elements are what f makes of them, the others are as they were
pub record Mapped {A : Type 0} (d : A) (f : ℕ → A → A) (n : ℕ) (old new : List A) : Type 0 where
  pub filled : Filled d (λ (i : ℕ). f i (get_or old i d)) n (length old) new
  pub rest : (i : ℕ) → n ≤ i → get_or new i d ≡ get_or old i d

module _ {A : Type 0} {d : A} {f : ℕ → A → A} {old : List A} where
  pub mapped_none : Mapped d f 0 old old
  mapped_none = record { filled = filled_none refl; rest = λ i h. refl }

  pub mapped_step : {new : List A} {i : ℕ} {x : A} → i < length old → Mapped d f i old new → x ≡ f i (get_or new i d) → Mapped d f (i + 1) old (set new i x)
  mapped_step {new} {i} {x} room m e =
      record {
        filled = filled_step room m.filled (e ∙ ap (f i) (m.rest i (omega arith)));
        rest = λ j h. get_or-set_other new i j x d (λ q. omega arith) ∙ m.rest j (omega arith);
      }

  pub mapped_end : {new : List A} {i n : ℕ} → i ≤ n → n ≤ i → Mapped d f i old new → Mapped d f n old new
  mapped_end {new} {i} {n} h k m = let e : i ≡ n = omega arith in subst (λ (j : ℕ). Mapped d f j old new) e m

-- ---- propositions and targets that are kept

-- a wanted proposition that the layer has
unfoldable pub held_in : List Bool → ℕ → Bool → Bool
held_in has p wanted = wanted && get_or has p false

-- a target that the value reaches
unfoldable pub kept_by : Value → ℤ → ℤ
kept_by x z = cond (reaches x z) z lowest

unfoldable pub kept_at : (ℕ → Value) → ℕ → ℤ → ℤ
kept_at f v z = kept_by (f v) z

pub kept_reached : (x : Value) (z : ℤ) → reaches x z ≡ true → z ≡ kept_by x z
unfolding kept_by
kept_reached x z e = rw e refl

pub kept_low : (x : Value) (z : ℤ) → reaches x z ≡ false → lowest ≡ kept_by x z
unfolding kept_by
kept_low x z e = rw e refl

kept_code : (x : Value) (t : Target) → kept_by x (code t) ≡ code (carried_target x t)
unfolding kept_by code carried_target
kept_code x free = go (reaches x lowest)
  where
    go : (b : Bool) → cond b lowest lowest ≡ lowest
    go true = refl
    go false = refl
kept_code x (least z) = go (reaches x z)
  where
    go : (b : Bool) → cond b z lowest ≡ code (cond b (least z) free)
    go true = refl
    go false = refl

-- ---- the wants as a whole

-- some wants, and the layer below them, stand so in the arguments
pub record Carriable (props vars : ℕ) (has : List Bool) (row : List ℤ) (t : Targets) : Type 0 where
  pub wants : Wants
  pub over : Layer
  pub encoded : Encodes props vars t wants
  pub long : props ≤ length has
  pub has_is : (p : ℕ) → p < props → get_or has p false ≡ over.has p
  pub values : LayerRow vars row over.val

pub record Carried {props vars : ℕ} {has : List Bool} {row : List ℤ} {t : Targets} (x : Carriable props vars has row t) (r : Targets) : Type 0 where
  pub is : Encodes props vars r (carried x.over x.wants)

pub carries :
    {props vars : ℕ} {has : List Bool} {row : List ℤ} {t : Targets} (x : Carriable props vars has row t) {ps : List Bool} {ts : List ℤ}
    → Mapped false (held_in has) props t.props ps
    → Mapped (pos 0) (kept_at x.over.val) vars t.target ts
    → Carried x (holding ps ts)
unfolding carried held_in kept_at
carries x kept-props kept-targets =
    record {
      is = record {
        few_props = x.encoded.few_props;
        few_vars = x.encoded.few_vars;
        long_props = kept-props.filled.long ∙ x.encoded.long_props;
        long_target = kept-targets.filled.long ∙ x.encoded.long_target;
        prop = λ p h. kept-props.filled.done p h ∙ ap₂ ◌&&◌ (x.encoded.prop p h) (x.has_is p h);
        target =
            λ v h.
            kept-targets.filled.done v h ∙ ap (kept_by (x.over.val v)) (x.encoded.target v h)
            ∙ kept_code (x.over.val v) (x.wants.target v);
      };
    }
