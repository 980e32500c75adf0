-- Wants as facts: what each wanted proposition and each target has, what one want more adds, and when a layer, or a state seen as
-- a layer, meets the wants (document 01, "Plan"). Assumes nothing.
use Rattle.std.specs.Prelude.{ℕ, ℤ}
use Rattle.std.proofs.Math.Dec.{T}
use Rattle.model.specs.Move.{State}
use Rattle.model.specs.Layer.{Value, Layer, reaches, layer_of}
use Rattle.model.specs.Plan.{Target, free, least, Wants}
use Rattle.model.specs.Theorems.Layers.Order.{◌≼◌}

-- ---- each wanted proposition has P, each target on v has Q v

abbrev pub EachTarget : (ℤ → Type 0) → Target → Type 0
EachTarget Q free = Unit {0}
EachTarget Q (least z) = Q z

pub record Each (P : ℕ → Type 0) (Q : ℕ → ℤ → Type 0) (w : Wants) : Type 0 where
  pub props : (p : ℕ) → T (w.props p) → P p
  pub targets : (v : ℕ) → EachTarget (Q v) (w.target v)

-- ---- a layer, or a state seen as one, meets what is wanted
pub record Sat (w : Wants) (x : Layer) : Type 0 where
  pub each : Each (λ (p : ℕ). T (x.has p)) (λ (v : ℕ) (z : ℤ). T (reaches (x.val v) z)) w

-- a target that the value reaches
abbrev pub Reached : Value → Target → Type 0
Reached x = EachTarget (λ (z : ℤ). T (reaches x z))

-- ---- the order of states
-- y is at least as high as s: it has all propositions of s, and no value is smaller
pub record Above (s y : State) : Type 0 where
  pub order : layer_of s ≼ layer_of y
