-- A block whose conditions are wanted in a layer, item by item. Assumes nothing.
use Rattle.std.specs.Prelude.{ℕ, ◌≤◌, ◌<◌, ◌≡◌, List, ℤ, nat_abs, length}
use Rattle.std.proofs.Common.{arith}
use Rattle.std.proofs.Math.Path.{refl, ap, subst}
use Rattle.model.specs.Task.{normal, Item, need, Block}
use Rattle.model.specs.Move.{State}
use Rattle.model.specs.Layer.{Layer}
use Rattle.model.specs.Plan.{Wants, low, want_prop, want_sum, want_item, want_block}
use Rattle.block.specs.Items.{Ranges, Left, left_end, Followed, ConditionFound, Found, behind, Moves, Next, bound_small}
use Rattle.block.specs.Sums.{Row, LayerRow}
use Rattle.block.specs.Blocks.{Reading, reading_start, reading_next, reading_end}
use Rattle.block.specs.declared.ItemAt.{ItemAt}
use Rattle.block.specs.declared.ItemAt.TheVariants.{Need, Add, Delete, Condition as ConditionAt, Effect as EffectAt, End}
use Rattle.targets.specs.declared.Targets.{Targets}
use Rattle.targets.specs.Encoding.{Encodes, Added, encodes_prop}
use Rattle.targets.specs.Wanting.{Wantable, Wanted}

-- some block, some layer and state and some wants stand so in the arguments
pub record BlockWantable (part : List ℕ) (row lows : List ℤ) (t : Targets) : Type 0 where
  pub ranges : Ranges
  pub block : Block
  pub over : Layer
  pub start : State
  pub wants : Wants
  pub form : ranges.form ≡ normal
  pub left : Left ranges part 1 block
  pub values : LayerRow ranges.vars row over.val
  pub low_values : Row ranges.vars lows (low over start)
  pub encoded : Encodes ranges.props ranges.vars t wants

pub record BlockWanted {part : List ℕ} {row lows : List ℤ} {t : Targets} (x : BlockWantable part row lows t) (r : Targets) : Type 0 where
  pub encoded : Encodes x.ranges.props x.ranges.vars r (want_block x.over x.start x.wants x.block)

-- the item is no condition
abbrev pub NoCondition : ItemAt → Type 0
NoCondition (Need p after) = ⊥
NoCondition (Add p after) = Unit {0}
NoCondition (Delete p after) = Unit {0}
NoCondition (ConditionAt o z from n after) = ⊥
NoCondition (EffectAt kd v z from n after) = Unit {0}
NoCondition End = Unit {0}

-- the items before the offset are passed
pub record BlockDone {part : List ℕ} {row lows : List ℤ} {t : Targets} (x : BlockWantable part row lows t) (at : ℕ) (u : Targets) : Type 0 where
  pub wants : Wants
  pub encoded : Encodes x.ranges.props x.ranges.vars u wants
  pub reading : Reading x.ranges part (want_block x.over x.start x.wants x.block) (want_block x.over x.start wants) at

module _ {part : List ℕ} {row lows : List ℤ} {t : Targets} (x : BlockWantable part row lows t) where
  pub block_start : BlockDone x 1 t
  block_start =
      record { wants = x.wants; encoded = x.encoded; reading = reading_start (want_block x.over x.start x.wants) x.left }

  module _ {at : ℕ} {u : Targets} (d : BlockDone x at u) where
    pub block_end : length part ≤ at → BlockWanted x u
    unfolding want_block
    block_end h =
        record { encoded = subst (Encodes x.ranges.props x.ranges.vars u) (reading_end d.reading (left_end h d.reading.left) refl) d.encoded }

    -- an item that wants nothing
    block_pass :
        {after : ℕ} {i : Item} → Followed x.ranges part after d.reading.rest i
        → want_item x.over x.start d.wants i ≡ d.wants
        → BlockDone x after u
    unfolding want_block
    block_pass f e =
        record {
          wants = d.wants;
          encoded = d.encoded;
          reading =
              reading_next d.reading (want_block x.over x.start d.wants) f
              (λ o. ap (λ (w : Wants). want_block x.over x.start w o) e);
        }

    pub block_other : {i : ItemAt} → at < length part → Next part at i → NoCondition i → BlockDone x (behind i) u
    unfolding want_item behind
    block_other {i} lt t other = go i t.moves other (t.found x.ranges d.reading.rest d.reading.left)
      where
        go : (y : ItemAt) → Moves at (length part) y → NoCondition y → Found x.ranges part d.reading.rest y → BlockDone x (behind y) u
        go (Need p after) m h f = absurd h
        go (Add p after) m h f = block_pass f refl
        go (Delete p after) m h f = block_pass f refl
        go (ConditionAt o z from n after) m h f = absurd h
        go (EffectAt kd v z from n after) m h f = block_pass f.followed refl
        go End m h f = absurd (omega arith)

    pub block_need : {after p : ℕ} {r : Targets} → Followed x.ranges part after d.reading.rest (need p) → Added u p r → BlockDone x after r
    unfolding want_block want_item
    block_need {p} f added =
        record {
          wants = want_prop d.wants p;
          encoded = encodes_prop d.encoded f.ok added;
          reading = reading_next d.reading (want_block x.over x.start (want_prop d.wants p)) f (λ o. refl);
        }

    module _ {o : ℕ} {z : ℤ} {from n after : ℕ} (f : ConditionFound x.ranges part o z from n after d.reading.rest) where
      abbrev pub condition_wantable : Wantable part from n row lows u
      condition_wantable =
          record {
            ranges = x.ranges;
            ts = f.it.terms;
            over = x.over;
            start = x.start;
            wants = d.wants;
            form = x.form;
            terms = f.is.terms;
            values = x.values;
            low_values = x.low_values;
            encoded = d.encoded;
          }

      pub condition_size : nat_abs z ≤ 1_000_001
      condition_size = subst (λ (y : ℤ). nat_abs y ≤ 1_000_001) f.is.bound (bound_small x.ranges.form f.it.bound f.is.ok.bound)

      pub block_condition : {r : Targets} → Wanted condition_wantable z r → BlockDone x after r
      unfolding want_block want_item
      block_condition w =
          record {
            wants = want_sum x.over x.start d.wants f.it.terms z;
            encoded = w.encoded;
            reading =
                reading_next d.reading (want_block x.over x.start (want_sum x.over x.start d.wants f.it.terms z)) f.followed
                (λ b. ap (λ (y : ℤ). want_block x.over x.start (want_sum x.over x.start d.wants f.it.terms y) b) f.is.bound);
          }
