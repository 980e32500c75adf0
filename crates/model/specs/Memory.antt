-- Layer memory (document 01, "Layers", its second paragraph), and the refusals 14 and 15.
-- Assumes nothing.
use Rattle.std.specs.Prelude.{ℕ, zero, suc, ◌+◌, ◌-◌, ◌*◌, ◌^◌, Bool, true, false, ◌||◌, List, [], ◌++◌, ltb, ℤ, pos, negsuc, length, drop}
use Rattle.std.proofs.Math.Option.{Option, none, some}
use Rattle.std.specs.Int.Signed.{lt_z}
use Rattle.model.specs.Limits.{Limits}
use Rattle.model.specs.Lists.{any_below, first_from, tabulate}
use Rattle.model.specs.Task.{Task}
use Rattle.model.specs.Move.{State, move_at}
use Rattle.model.specs.Layer.{Value, finite, unbounded, usable, layer_at, Outcome, reached, exhausted, reported, outcome}

-- "unbounded being 2^63 − 1"
abbrev pub unbounded_mark : ℕ
unbounded_mark = 2 ^ 63 - 1

unfoldable pub encode : Value → ℤ
encode (finite z) = z
encode unbounded = pos unbounded_mark

-- "the first layer .. never is −1"
unfoldable pub entry : Option ℕ → ℤ
entry none = negsuc 0
entry (some t) = pos t

-- "for each proposition the first layer that has it", of n layers
unfoldable pub prop_entry : Task → State → ℕ → ℕ → ℤ
prop_entry k s n p = entry (first_from (λ t. (layer_at k s t).has p) 0 n)

-- "for each move the first layer whose step used it", of n steps
unfoldable pub move_entry : Task → State → ℕ → ℕ → ℤ
move_entry k s n b = entry (first_from (λ t. usable (layer_at k s t) (move_at k b)) 0 n)

-- "then N values a layer"
unfoldable pub rows : Task → State → ℕ → List ℤ
rows k s zero = []
rows k s (suc n) = rows k s n ++ tabulate (λ v. encode ((layer_at k s n).val v)) 0 k.vars

-- what n stored layers and the entries of so many steps make
unfoldable pub layer_memory : Task → State → ℕ → ℕ → List ℤ
layer_memory k s n steps =
    tabulate (prop_entry k s n) 0 k.props ++ tabulate (move_entry k s steps) 0 (length k.moves) ++ rows k s n

-- what is written stands at the start; "Numbers past it keep their values"
unfoldable pub overwrite : {A : Type 0} → List A → List A → List A
overwrite new old = new ++ drop (length new) old

-- the numbers that the layers 0 to t take, with the entries
unfoldable pub room : Task → ℕ → ℕ
room k t = k.props + length k.moves + k.vars * (t + 1)

-- "15 | a finite value above 1,000,000,000,000"
unfoldable pub too_large : Limits → Value → Bool
too_large L (finite z) = lt_z (pos L.layer_value) z
too_large L unbounded = false

unfoldable pub wrong15 : Limits → Task → State → ℕ → Bool
wrong15 L k s t = any_below (λ v. too_large L ((layer_at k s t).val v)) k.vars

-- "14 | layer memory too short for it (layer 0 with the entries counts)"
unfoldable pub wrong14 : Task → ℕ → ℕ → Bool
wrong14 k size t = ltb size (room k t)

-- "each new layer": is layer t refused by 15 or 14
abbrev pub refuses : Limits → Task → State → ℕ → ℕ → Bool
refuses L k s size t = wrong15 L k s t || wrong14 k size t

-- how building layers in a memory of so many numbers ends
pub data Built : Type 0 where
  answered : Outcome → Built
  stopped : ℕ → ℕ → Built

unfoldable pub stop_number : Bool → ℕ
stop_number true = 15
stop_number false = 14

unfoldable pub stop_at : Limits → Task → State → Option ℕ → Outcome → Built
stop_at L k s none o = answered o
stop_at L k s (some t) o = stopped (stop_number (wrong15 L k s t)) t

-- the first layer up to the last one that is refused; layer by layer, in document 01's order: `Theorems.Layers.Building.build_unrolled`
unfoldable pub build : Limits → Task → State → ℕ → Built
build L k s size =
    let o = outcome k s in
    stop_at L k s (first_from (refuses L k s size) 0 (suc (reported o))) o

-- "the step that changes nothing counts, one ended by 14 or 15 does not"; "layer memory after 14 (place above 0) or 15 holds
-- every layer made before"
unfoldable pub built_memory : Task → State → Built → List ℤ
built_memory k s (answered (reached t)) = layer_memory k s (suc t) t
built_memory k s (answered (exhausted t)) = layer_memory k s (suc t) (suc t)
built_memory k s (stopped n zero) = []
built_memory k s (stopped n (suc t)) = layer_memory k s (suc t) t
