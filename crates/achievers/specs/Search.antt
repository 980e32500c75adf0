-- "try the moves usable in t−1 in rising order and take the first": the search for a move, from its part of the table.
-- Assumes nothing.
use Rattle.std.specs.Prelude.{ℕ, zero, suc, ◌+◌, ◌≤◌, ◌<◌, ◌≡◌, refl, Bool, true, false, ◌&&◌, ℤ, pos, nat_abs, length, get_or, Option, Some, None}
use Rattle.std.proofs.Common.{arith, ◌∙◌}
use Rattle.std.proofs.Math.Path.{sym, ap, subst}
use mathlib.Core.List.{List}
use Rattle.std.proofs.Math.Option.{none, some}
use Rattle.model.specs.Lists.{first_from}
use Rattle.model.specs.Task.{normal, Kind, assign, increase, decrease, Effect, adds, effect_on, Block, Task}
use Rattle.model.specs.Command.{kind_code}
use Rattle.model.specs.Move.{move_at}
use Rattle.model.specs.Layer.{Value, Layer, reaches, usable, layer_value}
use Rattle.model.specs.Memory.{encode}
use Rattle.model.specs.Plan.{adder, demand, achieves, achiever}
use Rattle.model.specs.Theorems.Laws.Searching.{Searched}
use Rattle.model.proofs.Theorems.Laws.Searching.{searched_next, searched_found, searched_all}
use Rattle.table.specs.Outlines.{part_at}
use Rattle.reader.specs.Parts.{PartIn}
use Rattle.block.specs.Parts.{ranges_of}
use Rattle.block.specs.Items.{Ranges, Left, left_end, EffectFound, EffectIs}
use Rattle.block.specs.Sums.{LayerRow, Encoded}
use Rattle.block.specs.Blocks.{Reading, reading_stop, reading_end, Walk, Passing, effect_on_here}
use Rattle.block.specs.declared.ItemAt.{ItemAt}
use Rattle.achievers.specs.declared.Achiever.{Achiever}

-- ---- the parts of the blocks

-- the part of each move and of the goal holds its items
pub record Parts (table marks : List ℕ) (k : Task) : Type 0 where
  pub inside : (b : ℕ) → b ≤ length k.moves → PartIn table marks b
  pub move : (b : ℕ) → b < length k.moves → Left (ranges_of normal k) (part_at table marks b) 1 (move_at k b)
  pub goal : Left (ranges_of normal k) (part_at table marks (length k.moves)) 1 k.goal

-- ---- the items of a move

-- nothing beside the part
abbrev pub Alone : Ranges → Unit {0} → Type 0
Alone k s = Unit {0}

-- the item does not change what g says
abbrev pub Skipped : {X : Type 0} → (Block → X) → List ℕ → ItemAt → Type 0
Skipped g part x = Passing part Alone (λ (s : Unit {0}). g) x

-- ---- which moves are usable

-- some task and some layer, in which the marked moves are usable, stand so in the arguments
pub record Searchable (table marks : List ℕ) (used : List Bool) (moves : ℕ) : Type 0 where
  pub task : Task
  pub over : Layer
  pub many : length task.moves ≡ moves
  pub long : moves ≤ length used
  pub parts : Parts table marks task
  pub used_is : (b : ℕ) → b < moves → get_or used b false ≡ usable over (move_at task b)

module _ {table marks : List ℕ} {used : List Bool} {moves : ℕ} (x : Searchable table marks used moves) where
  pub part_in : {b : ℕ} → b < moves → PartIn table marks b
  part_in {b} h = x.parts.inside b (omega (arith, x.many))

  pub part_left : {b : ℕ} → b < moves → Left (ranges_of normal x.task) (part_at table marks b) 1 (move_at x.task b)
  part_left {b} h = x.parts.move b (omega (arith, x.many))

  -- a usable move passes exactly if the second test does, one that is not usable fails
  pub passes : {b : ℕ} (t : Bool) → b < moves → get_or used b false ≡ true → (usable x.over (move_at x.task b) && t) ≡ t
  passes {b} t h e = ap (λ (u : Bool). u && t) (sym (x.used_is b h) ∙ e)

  pub fails : {b : ℕ} (t : Bool) → b < moves → get_or used b false ≡ false → (usable x.over (move_at x.task b) && t) ≡ false
  fails {b} t h e = ap (λ (u : Bool). u && t) (sym (x.used_is b h) ∙ e)

-- ---- "take the first that adds the proposition"

-- a move is usable and adds p
abbrev pub adds_at : Task → Layer → ℕ → ℕ → Bool
adds_at k l p b = usable l (move_at k b) && adds p (move_at k b)

pub record AdderIs (k : Task) (l : Layer) (p moves b : ℕ) : Type 0 where
  pub lt : b < moves
  pub is : adder k l p ≡ some b

abbrev pub IsAdder : Task → Layer → ℕ → ℕ → Option ℕ → Type 0
IsAdder k l p moves (Some b) = AdderIs k l p moves b
IsAdder k l p moves None = adder k l p ≡ none

module _ {table marks : List ℕ} {used : List Bool} {moves : ℕ} (x : Searchable table marks used moves) (p : ℕ) where
  pub adder_found : {b : ℕ} → Searched (adds_at x.task x.over p) moves b → b < moves → adds_at x.task x.over p b ≡ true → AdderIs x.task x.over p moves b
  unfolding adder
  adder_found {b} h lt e =
      record { lt = lt; is = ap (first_from (adds_at x.task x.over p) 0) x.many ∙ searched_found h lt e }

  pub adder_none : {b : ℕ} → Searched (adds_at x.task x.over p) moves b → moves ≤ b → adder x.task x.over p ≡ none
  unfolding adder
  adder_none h le = ap (first_from (adds_at x.task x.over p) 0) x.many ∙ searched_all h le

module _ {table marks : List ℕ} {used : List Bool} {moves : ℕ} (x : Searchable table marks used moves) {b : ℕ} (lt : b < moves) where
  -- the items of the move in its part
  pub move_left : {part : List ℕ} → part ≡ part_at table marks b → Left (ranges_of normal x.task) part 1 (move_at x.task b)
  move_left e = subst (λ (l : List ℕ). Left (ranges_of normal x.task) l 1 (move_at x.task b)) (sym e) (part_left x lt)

-- a move that is usable and does not add p is passed
module _ {table marks : List ℕ} {used : List Bool} {moves : ℕ} (x : Searchable table marks used moves) (p : ℕ) {b : ℕ} (lt : b < moves) where
  pub adder_passed : get_or used b false ≡ true → adds p (move_at x.task b) ≡ false → Searched (adds_at x.task x.over p) moves b → Searched (adds_at x.task x.over p) moves (b + 1)
  adder_passed u e h = searched_next h lt (passes x (adds p (move_at x.task b)) lt u ∙ e)

-- ---- "or whose effect on v has value ≥ target T (:=) or > 0 (+=)"

abbrev pub achieves_at : Task → Layer → ℕ → ℤ → ℕ → Bool
achieves_at k l v z b = usable l (move_at k b) && achieves l z (effect_on v (move_at k b))

pub record AchieverIs (table marks : List ℕ) (k : Task) (l : Layer) (v : ℕ) (z : ℤ) (moves b kd : ℕ) (base : ℤ) (from n : ℕ) (value : ℤ) : Type 0 where
  pub lt : b < moves
  pub is : achiever k l v z ≡ some b
  pub it : Effect
  pub found_it : effect_on v (move_at k b) ≡ some it
  pub effect : EffectIs (ranges_of normal k) (part_at table marks b) kd base from n it
  pub achieved : reaches (layer_value l it) (demand it.kind z) ≡ true
  pub encoded : Encoded 8_000_000_001_000_000 (layer_value l it) value

abbrev pub IsAchiever : List ℕ → List ℕ → Task → Layer → ℕ → ℤ → ℕ → Option Achiever → Type 0
IsAchiever table marks k l v z moves (Some a) = AchieverIs table marks k l v z moves a.index a.kind a.base a.from a.terms a.value
IsAchiever table marks k l v z moves None = achiever k l v z ≡ none

-- the layer's values beside
pub record Achievable (table marks : List ℕ) (used : List Bool) (row : List ℤ) (moves : ℕ) : Type 0 where
  pub search : Searchable table marks used moves
  pub values : LayerRow search.task.vars row search.over.val

-- "value ≥ target T (:=) or > 0 (+=)", by the number that the effect's kind is coded by
unfoldable pub demand_by : ℕ → ℤ → ℤ
demand_by zero z = z
demand_by (suc n) z = pos 1

pub demand_code : (d : Kind) {kd : ℕ} (z : ℤ) → kind_code d ≡ kd → demand_by kd z ≡ demand d z
unfolding demand_by demand kind_code
demand_code assign z e = ap (λ (n : ℕ). demand_by n z) (sym e)
demand_code increase z e = ap (λ (n : ℕ). demand_by n z) (sym e)
demand_code decrease z e = ap (λ (n : ℕ). demand_by n z) (sym e)

pub demand_size : (kd : ℕ) (z : ℤ) → nat_abs (demand_by kd z) ≤ nat_abs z + 1
unfolding demand_by
demand_size zero z = omega arith
demand_size (suc n) z = omega arith

pub demand_first : (kd : ℕ) (z : ℤ) → kd ≡ 0 → z ≡ demand_by kd z
unfolding demand_by
demand_first kd z e = ap (λ (n : ℕ). demand_by n z) (sym e)

pub demand_other : (kd : ℕ) (z : ℤ) → (kd ≡ 0 → ⊥) → pos 1 ≡ demand_by kd z
unfolding demand_by
demand_other zero z e = absurd (e refl)
demand_other (suc n) z e = refl

module _ {table marks : List ℕ} {used : List Bool} {moves : ℕ} (x : Searchable table marks used moves) (v : ℕ) (z : ℤ) where
  pub achiever_none : {b : ℕ} → Searched (achieves_at x.task x.over v z) moves b → moves ≤ b → achiever x.task x.over v z ≡ none
  unfolding achiever
  achiever_none h le = ap (first_from (achieves_at x.task x.over v z) 0) x.many ∙ searched_all h le

-- ---- the effect of one move

-- some reading of a move's part, and the layer's values beside
pub record MoveOver (part : List ℕ) (row : List ℤ) : Type 0 where
  pub ranges : Ranges
  pub block : Block
  pub over : Layer
  pub left : Left ranges part 1 block
  pub values : LayerRow ranges.vars row over.val

-- its effect on v reaches the target
pub record EffectReaches {part : List ℕ} {row : List ℤ} (x : MoveOver part row) (v : ℕ) (z : ℤ) (kd : ℕ) (base : ℤ) (from n : ℕ) (value : ℤ) : Type 0 where
  pub it : Effect
  pub found_it : effect_on v x.block ≡ some it
  pub effect : EffectIs x.ranges part kd base from n it
  pub achieved : reaches (layer_value x.over it) (demand it.kind z) ≡ true
  pub encoded : Encoded 8_000_000_001_000_000 (layer_value x.over it) value

module _ {part : List ℕ} {row : List ℤ} (x : MoveOver part row) (v : ℕ) (z : ℤ) {at : ℕ} (w : Walk part Alone (λ (s : Unit {0}). effect_on v) at) where
  pub reading : Reading x.ranges part (effect_on v x.block) (effect_on v) at
  reading = w.reading x.ranges x.block tt x.left tt

  pub no_effect : length part ≤ at → achieves x.over z (effect_on v x.block) ≡ false
  unfolding achieves effect_on
  no_effect end = ap (achieves x.over z) (sym (reading_end reading (left_end end reading.left) refl))

  module _ {kd u : ℕ} {c : ℤ} {from n after : ℕ} (f : EffectFound x.ranges part kd u c from n after (w.reading x.ranges x.block tt x.left tt).rest) where
    module _ (same : u ≡ v) {y : ℤ} {t : Bool} (e : Encoded 8_000_000_001_000_000 (layer_value x.over f.it) y) (q : (r : Value) → y ≡ encode r → t ≡ reaches r (demand_by kd z)) where
      tested : t ≡ reaches (layer_value x.over f.it) (demand f.it.kind z)
      tested = q (layer_value x.over f.it) e.is ∙ ap (reaches (layer_value x.over f.it)) (demand_code f.it.kind z f.is.kind)

      effect_found : effect_on v x.block ≡ some f.it
      effect_found = sym (reading_stop (w.reading x.ranges x.block tt x.left tt) f.followed (effect_on_here v f.it (f.var ∙ same)))

      pub effect_hit : t ≡ true → EffectReaches x v z kd c from n y
      effect_hit hit = record { it = f.it; found_it = effect_found; effect = f.is; achieved = sym tested ∙ hit; encoded = e }

      pub effect_miss : t ≡ false → achieves x.over z (effect_on v x.block) ≡ false
      unfolding achieves
      effect_miss miss = ap (achieves x.over z) effect_found ∙ sym tested ∙ miss

-- ---- the move among the others

module _ {table marks : List ℕ} {used : List Bool} {row : List ℤ} {moves : ℕ} (x : Achievable table marks used row moves) {b : ℕ} (lt : b < moves) where
  -- the part of a usable move
  abbrev pub move_over : {part : List ℕ} → part ≡ part_at table marks b → MoveOver part row
  move_over {part} e =
      record {
        ranges = ranges_of normal x.search.task;
        block = move_at x.search.task b;
        over = x.search.over;
        left = move_left x.search lt e;
        values = x.values;
      }

  module _ (v : ℕ) (z : ℤ) (h : Searched (achieves_at x.search.task x.search.over v z) moves b) (u : get_or used b false ≡ true) {part : List ℕ} (e : part ≡ part_at table marks b) where
    pub achiever_passed : achieves x.search.over z (effect_on v (move_at x.search.task b)) ≡ false → Searched (achieves_at x.search.task x.search.over v z) moves (b + 1)
    achiever_passed miss = searched_next h lt (passes x.search (achieves x.search.over z (effect_on v (move_at x.search.task b))) lt u ∙ miss)

    pub achiever_found :
        {kd from n : ℕ} {base value : ℤ} → EffectReaches (move_over e) v z kd base from n value
        → AchieverIs table marks x.search.task x.search.over v z moves b kd base from n value
    unfolding achiever achieves
    achiever_found {kd} {from} {n} {base} {value} r =
        record {
          lt = lt;
          is =
              ap (first_from (achieves_at x.search.task x.search.over v z) 0) x.search.many
              ∙ searched_found h lt
              (passes x.search (achieves x.search.over z (effect_on v (move_at x.search.task b))) lt u ∙ ap (achieves x.search.over z) r.found_it ∙ r.achieved);
          it = r.it;
          found_it = r.found_it;
          effect = subst (λ (l : List ℕ). EffectIs (ranges_of normal x.search.task) l kd base from n r.it) e r.effect;
          achieved = r.achieved;
          encoded = r.encoded;
        }
