-- One layer down from layer memory: what stands in the memory, the wants of the layer above, and what is taken. Assumes nothing.
use Rattle.std.specs.Prelude.{ℕ, ◌+◌, ◌*◌, ◌≤◌, ◌<◌, ◌≡◌, refl, Bool, false, List, ℤ, pos, length, get_or}
use Rattle.std.proofs.Common.{arith, sym, ap, ◌∙◌}
use Rattle.std.proofs.Math.Path.{subst}
use Rattle.model.specs.Task.{normal, Task}
use Rattle.model.specs.Move.{State}
use Rattle.model.specs.Layer.{layer_at}
use Rattle.model.specs.Plan.{Wants, no_wants, want_block, carried, carried_down, take_prop, take_value, descend}
use Rattle.model.specs.Lists.{fold_below}
use Rattle.table.specs.Outlines.{part_at}
use Rattle.reader.specs.Parts.{PartIn}
use Rattle.block.specs.Parts.{ranges_of}
use Rattle.block.specs.Items.{Left}
use Rattle.block.specs.Sums.{Row, LayerRow}
use Rattle.targets.specs.declared.Targets.{Targets}
use Rattle.targets.specs.Encoding.{fresh, Encodes, encodes_none}
use Rattle.targets.specs.Blocks.{BlockWantable, BlockWanted}
use Rattle.achievers.specs.Search.{Parts}
use Rattle.taking.specs.Taking.{EncodesTaken}
use Rattle.targets.specs.Carrying.{Carriable, Carried}
use Rattle.taking.specs.Descending.{Descendable, PropsTakeable, props_below, PropsTaken, SmallTargets, ValuesTakeable, ValuesTaken}
use Rattle.model.specs.Theorems.Sizes.Stored.{StoredLayers}
use Rattle.stored_layer.specs.Stored.{stored_props, stored_vars, stored_moves, stored_has, stored_row, stored_low}
use Rattle.stored_layer.specs.View.{Filled, held_at, number_at, low_at, view_used}

-- a table with its blocks' marks, and a memory that holds the layers 0 to m of its task, the answer layer
pub record Stored (table marks : List ℕ) (layers : List ℤ) (props vars moves m : ℕ) : Type 0 where
  pub task : Task
  pub start : State
  pub parts : Parts table marks task
  pub memory : StoredLayers task start props vars moves m m layers

-- ---- the goal's wants in the answer layer

-- the state's row beside
pub record GoalWantable (table marks : List ℕ) (layers start : List ℤ) (props vars moves m : ℕ) : Type 0 where
  pub stored : Stored table marks layers props vars moves m
  pub start_is : Row stored.task.vars start stored.start.val

-- "Begin with the goal in m."
pub record GoalWanted {table marks : List ℕ} {layers start : List ℤ} {props vars moves m : ℕ} (x : GoalWantable table marks layers start props vars moves m) (r : Targets) : Type 0 where
  pub encoded :
      Encodes x.stored.task.props x.stored.task.vars r
      (want_block (layer_at x.stored.task x.stored.start m) x.stored.start no_wants x.stored.task.goal)

module _ {table marks : List ℕ} {layers start : List ℤ} {props vars moves m : ℕ} (x : GoalWantable table marks layers start props vars moves m) where
  pub goal_part_in : PartIn table marks moves
  goal_part_in = subst (PartIn table marks) x.stored.memory.moves_is (x.stored.parts.inside (length x.stored.task.moves) (omega arith))

  pub start_long : vars ≤ length start
  start_long = omega (arith, x.start_is.long, x.stored.memory.vars_is)

  module _ {row lows : List ℤ} (read : Filled (pos 0) (number_at layers (props + moves + vars * m)) vars 32 row) (filled : Filled (pos 0) (low_at row start) vars 32 lows) where
    abbrev pub goal_wantable : {part : List ℕ} {t : Targets} → part ≡ part_at table marks moves → t ≡ fresh → BlockWantable part row lows t
    goal_wantable {part} {t} e f =
        record {
          ranges = ranges_of normal x.stored.task;
          block = x.stored.task.goal;
          over = layer_at x.stored.task x.stored.start m;
          start = x.stored.start;
          wants = no_wants;
          form = refl;
          left =
              subst (λ (l : List ℕ). Left (ranges_of normal x.stored.task) l 1 x.stored.task.goal)
              (ap (part_at table marks) x.stored.memory.moves_is ∙ sym e) x.stored.parts.goal;
          values = stored_row x.stored.memory (omega arith) read;
          low_values = stored_low x.stored.memory (omega arith) read x.start_is filled;
          encoded =
              subst (λ (u : Targets). Encodes x.stored.task.props x.stored.task.vars u no_wants) (sym f)
              (encodes_none (omega (arith, stored_props x.stored.memory, x.stored.memory.props_is)) (omega (arith, stored_vars x.stored.memory, x.stored.memory.vars_is)));
        }

    pub goal_wanted : {part : List ℕ} {t r : Targets} (e : part ≡ part_at table marks moves) (f : t ≡ fresh) → BlockWanted (goal_wantable e f) r → GoalWanted x r
    goal_wanted e f w = record { encoded = w.encoded }

-- ---- one layer down

-- the wants of layer t + 1 beside
pub record LayerDescendable (table marks : List ℕ) (layers start : List ℤ) (props vars moves t : ℕ) (upper : Targets) : Type 0 where
  pub top : ℕ
  pub stored : Stored table marks layers props vars moves top
  pub below : t < top
  pub start_is : Row stored.task.vars start stored.start.val
  pub wants : Wants
  pub encoded : Encodes stored.task.props stored.task.vars upper wants
  pub small : SmallTargets wants

pub record LayerDescended {table marks : List ℕ} {layers start : List ℤ} {props vars moves t : ℕ} {upper : Targets} (x : LayerDescendable table marks layers start props vars moves t upper) (r : Targets) (counts : List ℕ) : Type 0 where
  pub is : EncodesTaken x.stored.task r counts (descend x.stored.task (layer_at x.stored.task x.stored.start t) x.stored.start x.wants)

module _ {table marks : List ℕ} {layers start : List ℤ} {props vars moves t : ℕ} {upper : Targets} (x : LayerDescendable table marks layers start props vars moves t upper) where
  module _
      {has used : List Bool} {row lows : List ℤ}
      (read_Has : Filled false (held_at layers 0 t) props 120 has)
      (read-used : Filled false (held_at layers props t) moves 120 used)
      (read : Filled (pos 0) (number_at layers (props + moves + vars * t)) vars 32 row)
      (filled : Filled (pos 0) (low_at row start) vars 32 lows) where
    abbrev pub layer_scene : Descendable table marks used row lows moves
    layer_scene =
        record {
          search =
              record {
                task = x.stored.task;
                over = layer_at x.stored.task x.stored.start t;
                many = x.stored.memory.moves_is;
                long = omega (arith, read-used.long, stored_moves x.stored.memory);
                parts = x.stored.parts;
                used_is =
                    λ b h.
                    read-used.done b h ∙ ap (λ (i : ℕ). held_at layers i t b) (sym x.stored.memory.props_is)
                    ∙ view_used x.stored.memory.ok x.stored.memory.held x.below b (omega (arith, x.stored.memory.moves_is));
              };
          start = x.stored.start;
          wants = x.wants;
          few = stored_moves x.stored.memory;
          values = stored_row x.stored.memory (omega (arith, x.below)) read;
          low_values = stored_low x.stored.memory (omega (arith, x.below)) read x.start_is filled;
        }

    pub has_long : props ≤ length has
    has_long = omega (arith, read_Has.long, stored_props x.stored.memory)

    pub has_of : (p : ℕ) → p < props → get_or has p false ≡ (layer_at x.stored.task x.stored.start t).has p
    has_of p h = stored_has x.stored.memory (omega (arith, x.below)) read_Has p (omega (arith, x.stored.memory.props_is))

    -- the wants of layer t + 1, and layer t
    abbrev pub layer_carriable : Carriable props vars has row upper
    layer_carriable =
        record {
          wants = x.wants;
          over = layer_at x.stored.task x.stored.start t;
          encoded =
              subst (λ (n : ℕ). Encodes props n upper x.wants) x.stored.memory.vars_is
              (subst (λ (n : ℕ). Encodes n x.stored.task.vars upper x.wants) x.stored.memory.props_is x.encoded);
          long = has_long;
          has_is = has_of;
          values =
              subst (λ (n : ℕ). LayerRow n row (layer_at x.stored.task x.stored.start t).val) x.stored.memory.vars_is
              (stored_row x.stored.memory (omega (arith, x.below)) read);
        }

    module _ {kept : Targets} (carried-is : Carried layer_carriable kept) where
      abbrev pub layer_props : PropsTakeable table marks has used row lows moves props upper.props kept
      layer_props =
          record {
            scene = layer_scene;
            many = x.stored.memory.props_is;
            long = has_long;
            has_is = has_of;
            wanted_is = λ p h. x.encoded.prop p (omega (arith, x.stored.memory.props_is));
            kept =
                subst (λ (n : ℕ). Encodes x.stored.task.props n kept (carried (layer_at x.stored.task x.stored.start t) x.wants)) (sym x.stored.memory.vars_is)
                (subst (λ (n : ℕ). Encodes n vars kept (carried (layer_at x.stored.task x.stored.start t) x.wants)) (sym x.stored.memory.props_is) carried-is.is);
          }

    module _ {kept taken : Targets} {counts : List ℕ} (carried-is : Carried layer_carriable kept) (props-done : PropsTaken (layer_props carried-is) props taken counts) where
      abbrev pub layer_values : ValuesTakeable table marks used row lows start moves vars upper.target taken counts
      layer_values =
          record {
            scene = layer_scene;
            many = x.stored.memory.vars_is;
            start_values = subst (λ (i : ℕ). Row i start x.stored.start.val) x.stored.memory.vars_is x.start_is;
            small = x.small;
            targets_are = λ v h. x.encoded.target v (omega (arith, x.stored.memory.vars_is));
            descent = props_below layer_scene props;
            taken = props-done.is;
          }

      pub layer_descended : {r : Targets} {more : List ℕ} → ValuesTaken layer_values vars r more → LayerDescended x r more
      unfolding descend
      layer_descended {r} {more} d =
          let k = x.stored.task in
          let l = layer_at x.stored.task x.stored.start t in
          let s = x.stored.start in
          record {
            is =
                subst (λ (n : ℕ). EncodesTaken k r more (fold_below (take_value k l s x.wants) n (fold_below (take_prop k l s x.wants) k.props (carried_down l x.wants))))
                (sym x.stored.memory.vars_is)
                (subst (λ (n : ℕ). EncodesTaken k r more (fold_below (take_value k l s x.wants) vars (fold_below (take_prop k l s x.wants) n (carried_down l x.wants))))
                (sym x.stored.memory.props_is) d.is);
          }
