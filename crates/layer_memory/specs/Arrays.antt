-- Arrays that hold a layer's propositions and values.
-- Assumes nothing.
use Rattle.std.specs.Prelude.{ℕ, ◌≤◌, ◌<◌, ◌≡◌, Bool, false, List, ℤ, pos, length, get_or}
use Rattle.std.proofs.Common.{arith, ◌∙◌, subst}
use Rattle.model.specs.Layer.{Value}
use Rattle.block.specs.Sums.{Encoded, LayerRow, encoded_more}

-- the first n truths are h's
pub record Truths (n : ℕ) (flags : List Bool) (h : ℕ → Bool) : Type 0 where
  pub long : n ≤ length flags
  pub same : (p : ℕ) → p < n → get_or flags p false ≡ h p

-- the first n numbers stand for the values of f, the finite ones of size b at most
pub record Values (b n : ℕ) (row : List ℤ) (f : ℕ → Value) : Type 0 where
  pub long : n ≤ length row
  pub each : (v : ℕ) → v < n → Encoded b (f v) (get_or row v (pos 0))

-- the size of an effect's finite value over a layer: eight terms of weight 1,000 over values up to 1,000,000,000,000, and a constant up
-- to 1,000,000. So large is a finite value of the next layer at most, before it is checked.
abbrev pub effect_size : ℕ
effect_size = 8_000_000_001_000_000

pub row_values : {n : ℕ} {row : List ℤ} {f : ℕ → Value} → LayerRow n row f → Values effect_size n row f
row_values r = record { long = r.long; each = λ v h. encoded_more (omega arith) (r.each v h) }

pub encoded_same : {b : ℕ} {x y : Value} {z : ℤ} → x ≡ y → Encoded b x z → Encoded b y z
encoded_same {b} {z} e k = subst (λ (x : Value). Encoded b x z) e k

-- only the places below the count matter
pub truths_same : {n : ℕ} {flags : List Bool} {h g : ℕ → Bool} → ((p : ℕ) → p < n → h p ≡ g p) → Truths n flags h → Truths n flags g
truths_same e t = record { long = t.long; same = λ p k. t.same p k ∙ e p k }

pub values_same : {b n : ℕ} {row : List ℤ} {f g : ℕ → Value} → ((v : ℕ) → v < n → f v ≡ g v) → Values b n row f → Values b n row g
values_same e t = record { long = t.long; each = λ v k. encoded_same (e v k) (t.each v k) }
