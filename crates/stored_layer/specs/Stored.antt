-- What is read back from a memory that holds layers (`StoredLayers`): the places are there, and the arrays then hold the layer.
-- Assumes nothing.
use Rattle.std.specs.Prelude.{ℕ, suc, ◌+◌, ◌*◌, ◌≤◌, ◌<◌, ◌≡◌, Bool, false, List, ℤ, pos, length, get_or}
use Rattle.std.proofs.Common.{mul-le-mul_left, mul-suc, arith, sym, ap, ◌∙◌, subst}
use Rattle.std.proofs.Math.Nat.{mul-zero}
use Rattle.model.specs.Limits.{paper}
use Rattle.model.specs.Task.{normal, Task}
use Rattle.model.specs.Move.{State}
use Rattle.model.specs.Layer.{layer, layer_at}
use Rattle.model.specs.Plan.{low}
use Rattle.model.proofs.Theorems.Sizes.Layers.{layer_small}
use Rattle.model.specs.Theorems.Sizes.Stored.{StoredLayers}
use Rattle.block.specs.Parts.{ranges_of}
use Rattle.block.specs.Sums.{Row, LayerRow}
use Rattle.block.specs.Blocks.{LayerState}
use Rattle.stored_layer.specs.View.{Filled, held_at, number_at, low_at, view_has, view_row, start_row, low_row}

module _ {k : Task} {s : State} {props vars moves m steps : ℕ} {layers : List ℤ} (x : StoredLayers k s props vars moves m steps layers) where
  pub stored_props : props ≤ 120
  unfolding paper
  stored_props = omega (arith, x.ok.props, x.props_is)

  pub stored_vars : vars ≤ 32
  unfolding paper
  stored_vars = omega (arith, x.ok.vars.0, x.vars_is)

  pub stored_moves : moves ≤ 64
  unfolding paper
  stored_moves = omega (arith, x.ok.moves, x.moves_is)

  -- the places of layer t
  pub stored_room : {t : ℕ} → t ≤ m → props + moves + vars * t + vars ≤ length layers
  stored_room {t} h =
      let step : suc t ≤ suc m = omega arith in
      let most : vars * suc t ≤ vars * suc m = mul-le-mul_left vars step in
      let enough : props + moves + vars * suc m ≤ length x.old =
      subst (λ (i : ℕ). props + moves + i * suc m ≤ length x.old) x.vars_is
      (subst (λ (i : ℕ). i + moves + k.vars * suc m ≤ length x.old) x.props_is
      (subst (λ (i : ℕ). k.props + i + k.vars * suc m ≤ length x.old) x.moves_is x.room)) in
      omega (arith, x.held.same_length, mul-suc vars t)

  pub stored_entries : props + moves ≤ length layers
  stored_entries = omega (arith, stored_room {t = 0} (omega arith))

  module _ {t : ℕ} (h : t ≤ m) where
    pub stored_has :
        {has : List Bool} → Filled false (held_at layers 0 t) props 120 has → (p : ℕ) → p < k.props → get_or has p false ≡ (layer_at k s t).has p
    stored_has read p i = read.done p (omega (arith, x.props_is)) ∙ view_has x.ok x.held (omega arith) p i

    -- a row of the numbers that stand in layer t's place
    pub stored_values : {row : List ℤ} → vars ≤ length row → ((v : ℕ) → v < vars → get_or row v (pos 0) ≡ number_at layers (props + moves + vars * t) v) → LayerRow k.vars row (layer_at k s t).val
    stored_values long same =
        view_row x.ok x.held (omega arith) (layer_small k s t x.small (x.right t h))
        (omega (arith, x.vars_is))
        (λ v i. same v (omega (arith, x.vars_is)) ∙ place v)
      where
        place : (v : ℕ) → number_at layers (props + moves + vars * t) v ≡ number_at layers (k.props + length k.moves + k.vars * t) v
        place v =
            ap (λ (i : ℕ). number_at layers (i + moves + vars * t) v) (sym x.props_is)
            ∙ ap (λ (i : ℕ). number_at layers (k.props + i + vars * t) v) (sym x.moves_is)
            ∙ ap (λ (i : ℕ). number_at layers (k.props + length k.moves + i * t) v) (sym x.vars_is)

    module _ {row : List ℤ} (read : Filled (pos 0) (number_at layers (props + moves + vars * t)) vars 32 row) where
      pub stored_row : LayerRow k.vars row (layer_at k s t).val
      stored_row = stored_values (omega (arith, read.long, stored_vars)) read.done

      pub stored_low : {start lows : List ℤ} → Row k.vars start s.val → Filled (pos 0) (low_at row start) vars 32 lows → Row k.vars lows (low (layer_at k s t) s)
      stored_low b filled =
          low_row (layer_at k s t) s x.small stored_row b
          (omega (arith, filled.long, stored_vars, x.vars_is))
          (λ v i. filled.done v (omega (arith, x.vars_is)))

      -- both arrays hold layer t
      pub stored_state : {has : List Bool} → Filled false (held_at layers 0 t) props 120 has → LayerState (ranges_of normal k) has row (layer_at k s t)
      stored_state flags =
          record { long = omega (arith, flags.long, stored_props, x.props_is); has = stored_has flags; row = stored_row }

  -- "Layer 0 is the state."
  pub stored_start : {row : List ℤ} → Filled (pos 0) (number_at layers (props + moves)) vars 32 row → Row k.vars row s.val
  unfolding layer_at layer
  stored_start {row} read =
      let here : props + moves ≡ props + moves + vars * 0 = omega (arith, mul-zero vars) in
      start_row x.small (stored_row {t = 0} (omega arith) (subst (λ (i : ℕ). Filled (pos 0) (number_at layers i) vars 32 row) here read))
