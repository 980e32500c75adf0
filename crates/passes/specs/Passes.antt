-- "From answer layer m down": the wants of each layer, the number of records, their bytes from the last one backwards, and the
-- helpful moves. Assumes nothing.
use Prim.Native.Nat.{ℕ, zero, suc, ◌+◌, ◌*◌, ◌-◌, ◌≤◌, ◌<◌}
use Rattle.std.proofs.Common.{arith, ◌∙◌}
use Rattle.std.specs.Prelude.{◌≡◌, refl, ℤ}
use Rattle.std.proofs.Math.Path.{sym, ap, subst}
use mathlib.Core.List.{List, [], ◌++◌, append-nil, append_assoc}
use Rattle.std.proofs.Math.ListN.{length, length-append}
use Rattle.integer.specs.Store.{put, put_nil, length_put}
use Rattle.model.specs.Task.{Task}
use Rattle.model.specs.Move.{State}
use Rattle.model.specs.Layer.{layer_at}
use Rattle.model.specs.Plan.{Target, free, least, Wants, Record, layer_records, records_from, records, wants_at, helpful, set_of, helpful_moves}
use Rattle.model.specs.Calls.{record_bytes}
use Rattle.model.specs.Theorems.Plans.Records.{descent_at}
use Rattle.model.proofs.Theorems.Plans.Records.{wants_at_answer, wants_at_down, records_answer, records_down, length_record_bytes}
use Rattle.model.specs.Theorems.Plans.Targets.{EachTarget}
use Rattle.model.specs.Theorems.Sizes.Bounds.{Between}
use Rattle.model.proofs.Theorems.Sizes.Bounds.{between_size}
use Rattle.model.specs.Theorems.Sizes.Targets.{SmallWants}
use Rattle.model.proofs.Theorems.Sizes.Plans.{targets_small, records_most}
use Rattle.block.specs.Sums.{Row}
use Rattle.targets.specs.declared.Targets.{Targets}
use Rattle.targets.specs.Encoding.{SmallTarget, Encodes}
use Rattle.taking.specs.Descending.{SmallTargets}
use Rattle.helpful.specs.Sets.{LayerOne, HelpfulSet}
use Rattle.descent.specs.Layers.{Stored, GoalWantable, GoalWanted, LayerDescendable, LayerDescended}
use Rattle.records.specs.Records.{count_at, records_same, record_bytes_append, record_bytes_layer, records_layer_length, put_before}

-- ---- the wants of each layer

-- a target within those sizes is small
pub small_targets : {w : Wants} → SmallWants 30_000_000_000_000 w → SmallTargets w
small_targets {w} h = record { each = λ v. go (w.target v) (h.each.targets v) }
  where
    go : (t : Target) → EachTarget (Between 9_000_000_000_000_000 30_000_000_000_000) t → SmallTarget t
    go free i = tt
    go (least z) i = omega (arith, between_size 9_000_000_000_000_000 (omega arith) (omega arith) i)

-- the targets hold the wants of layer t
pub record Walked {table marks : List ℕ} {layers : List ℤ} {props vars moves m : ℕ} (x : Stored table marks layers props vars moves m) (t : ℕ) (w : Targets) : Type 0 where
  pub encoded : Encodes x.task.props x.task.vars w (wants_at x.task x.start m t)

-- the counts are those of the moves taken in layer t
pub record Counted {table marks : List ℕ} {layers : List ℤ} {props vars moves m : ℕ} (x : Stored table marks layers props vars moves m) (t : ℕ) (counts : List ℕ) : Type 0 where
  pub same : (u : ℕ) → layer_records u (descent_at x.task x.start m t).count 0 (length x.task.moves) ≡ layer_records u (count_at counts) 0 moves

-- the state's row and the wants of the answer layer beside
pub record Begun (table marks : List ℕ) (layers start : List ℤ) (props vars moves m : ℕ) (w : Targets) : Type 0 where
  pub stored : Stored table marks layers props vars moves m
  pub row : Row stored.task.vars start stored.start.val
  pub walked : Walked stored m w

-- the targets of a layer above 0 are small
pub walk_small :
    {table marks : List ℕ} {layers : List ℤ} {props vars moves m : ℕ} (x : Stored table marks layers props vars moves m) {t : ℕ} → t < m
    → SmallTargets (wants_at x.task x.start m (suc t))
walk_small {m = m} x {t} h = small_targets (targets_small x.memory.ok x.memory.small m x.memory.right x.memory.bounded (suc t) h)

module _ {table marks : List ℕ} {layers : List ℤ} {props vars moves m : ℕ} (x : Stored table marks layers props vars moves m) {start : List ℤ} (row : Row x.task.vars start x.start.val) where
  abbrev pub walk_goal : GoalWantable table marks layers start props vars moves m
  walk_goal = record { stored = x; start_is = row }

  pub walk_start : {w : Targets} → GoalWanted walk_goal w → Walked x m w
  walk_start {w} g =
      record { encoded = subst (Encodes x.task.props x.task.vars w) (sym (wants_at_answer x.task x.start m)) g.encoded }

  abbrev pub walk_begun : {w : Targets} → GoalWanted walk_goal w → Begun table marks layers start props vars moves m w
  walk_begun g = record { stored = x; row = row; walked = walk_start g }

  module _ {t : ℕ} (h : t < m) {w : Targets} (d : Walked x (suc t) w) where
    abbrev pub walk_layer : LayerDescendable table marks layers start props vars moves t w
    walk_layer =
        record {
          top = m;
          stored = x;
          below = h;
          start_is = row;
          wants = wants_at x.task x.start m (suc t);
          encoded = d.encoded;
          small = walk_small x h;
        }

    module _ {r : Targets} {counts : List ℕ} (e : LayerDescended walk_layer r counts) where
      pub walk_next : Walked x t r
      unfolding descent_at
      walk_next =
          record { encoded = subst (Encodes x.task.props x.task.vars r) (sym (wants_at_down x.task x.start m h)) e.is.wants }

      pub walk_long : length counts ≡ 64
      walk_long = e.is.long

      pub walk_counted : Counted x t counts
      unfolding descent_at count_at
      walk_counted =
          record {
            same =
                λ u.
                records_same u (descent_at x.task x.start m t).count (count_at counts) 0 (length x.task.moves)
                (λ b lt. sym (e.is.count b (omega arith)))
                ∙ ap (layer_records u (count_at counts) 0) x.memory.moves_is;
          }

-- ---- records of layers

module _ {table marks : List ℕ} {layers : List ℤ} {props vars moves m : ℕ} (x : Stored table marks layers props vars moves m) where
  -- the records of the layers below t
  abbrev pub records_below : ℕ → List Record
  records_below t = records_from x.task x.start t (wants_at x.task x.start m t)

  abbrev pub plan_records : List Record
  plan_records = records x.task x.start m

  pub below_next : {t : ℕ} {counts : List ℕ} → t < m → Counted x t counts → records_below (suc t) ≡ records_below t ++ layer_records t (count_at counts) 0 moves
  below_next {t} h c = records_down x.task x.start m h ∙ ap (λ (rs : List Record). records_below t ++ rs) (c.same t)

  -- the records of the layers below t, and later ones
  pub split_start : plan_records ≡ records_below m ++ []
  split_start = records_answer x.task x.start m ∙ sym (append-nil (records_below m))

  pub split_next :
      {t : ℕ} {counts : List ℕ} (later : List Record) → t < m → Counted x t counts → plan_records ≡ records_below (suc t) ++ later
      → plan_records ≡ records_below t ++ (layer_records t (count_at counts) 0 moves ++ later)
  split_next {t} {counts} later h c e =
      e ∙ ap (λ (rs : List Record). rs ++ later) (below_next h c) ∙ append_assoc (records_below t) (layer_records t (count_at counts) 0 moves) later

-- ---- the first pass: how many records, and the helpful moves

pub record Surveying {table marks : List ℕ} {layers : List ℤ} {props vars moves m : ℕ} (x : Stored table marks layers props vars moves m) (t : ℕ) (w : Targets) (n : ℕ) : Type 0 where
  pub walked : Walked x t w
  pub total : length (plan_records x) ≡ length (records_below x t) + n

-- the set is known in layer 0
pub record Gathered {table marks : List ℕ} {layers : List ℤ} {props vars moves m : ℕ} (x : Stored table marks layers props vars moves m) (t set : ℕ) : Type 0 where
  pub is : t ≤ 0 → set ≡ helpful_moves x.task x.start m

pub record Surveyed {table marks : List ℕ} {layers : List ℤ} {props vars moves m : ℕ} (x : Stored table marks layers props vars moves m) (n set : ℕ) : Type 0 where
  pub total : n ≡ length (plan_records x)
  pub helpful : set ≡ helpful_moves x.task x.start m

-- "With answer layer 0 .. it is empty."
layer_none : (k : Task) (s : State) (m : ℕ) → m ≤ 0 → 0 ≡ helpful_moves k s m
unfolding helpful_moves
layer_none k s zero h = refl
layer_none k s (suc m) h = absurd (omega arith)

layer_some : (k : Task) (s : State) (m : ℕ) → 0 < m → set_of (helpful (layer_at k s 0) (wants_at k s m 1)) k.moves ≡ helpful_moves k s m
unfolding helpful_moves
layer_some k s zero h = absurd (omega arith)
layer_some k s (suc m) h = refl

module _ {table marks : List ℕ} {layers : List ℤ} {props vars moves m : ℕ} (x : Stored table marks layers props vars moves m) where
  pub survey_start : {w : Targets} → Walked x m w → Surveying x m w 0
  survey_start walked = record { walked = walked; total = omega (arith, ap length (records_answer x.task x.start m)) }

  pub gather_start : Gathered x m 0
  gather_start = record { is = layer_none x.task x.start m }

  module _ {t : ℕ} (h : t ≡ 1) (below : t ≤ m) {w : Targets} (d : Walked x t w) where
    -- the wants of layer 1
    abbrev pub walk_one : LayerOne table marks layers props moves w
    walk_one =
        record {
          top = m;
          vars = vars;
          stored = x;
          below = omega arith;
          wants = wants_at x.task x.start m 1;
          encoded = (subst (λ (i : ℕ). Walked x i w) h d).encoded;
          small = walk_small x (omega arith);
        }

    pub gather_one : {set : ℕ} → HelpfulSet walk_one set → Gathered x (t - 1) set
    gather_one e = record { is = λ zero_left. e.is ∙ layer_some x.task x.start m (omega arith) }

  pub gather_later : {t set : ℕ} → 0 < t → (t ≡ 1 → ⊥) → Gathered x (t - 1) set
  gather_later h n = record { is = λ zero_left. absurd (n (omega arith)) }

  module _ {t : ℕ} {w : Targets} {n : ℕ} (h : t < m) (s : Surveying x (suc t) w n) {u : Targets} {more : List ℕ} {c : ℕ} (walked : Walked x t u) (counted : Counted x t more) (is : c ≡ length (layer_records 0 (count_at more) 0 moves)) where
    here : List Record
    here = layer_records t (count_at more) 0 moves

    pub survey_next : Surveying x t u (n + c)
    unfolding here
    survey_next =
        record {
          walked = walked;
          total = omega (arith, s.total, ap length (below_next x h counted), length-append (records_below x t) here, records_layer_length t (count_at more) 0 moves);
        }

  pub survey_few : {t : ℕ} {w : Targets} {n : ℕ} → Surveying x t w n → n ≤ 204_864
  survey_few s = omega (arith, s.total, records_most x.memory.ok x.start m x.memory.bounded)

  pub survey_end : (t : ℕ) {w : Targets} {n set : ℕ} → t ≤ 0 → Surveying x t w n → Gathered x t set → Surveyed x n set
  unfolding records_from
  survey_end zero h s g = record { total = omega (arith, s.total); helpful = g.is h }
  survey_end (suc t) h s g = absurd (omega arith)

-- ---- the second pass: the records' bytes, from the last layer backwards

-- an output with room for the records
pub record Writable (table marks : List ℕ) (layers start : List ℤ) (props vars moves m : ℕ) (w₀ : Targets) (n : ℕ) (out : List ℕ) : Type 0 where
  pub begun : Begun table marks layers start props vars moves m w₀
  pub total : n ≡ length (plan_records begun.stored)
  pub room : 10 * n ≤ length out

pub record Backwards {table marks : List ℕ} {layers start : List ℤ} {props vars moves m : ℕ} {w₀ : Targets} {n : ℕ} {out : List ℕ} (x : Writable table marks layers start props vars moves m w₀ n out) (t : ℕ) (w : Targets) (at : ℕ) (new : List ℕ) : Type 0 where
  pub walked : Walked x.begun.stored t w
  pub later : List Record
  pub split : plan_records x.begun.stored ≡ records_below x.begun.stored t ++ later
  pub here : at ≡ 10 * length (records_below x.begun.stored t)
  pub new_is : new ≡ put out at (record_bytes later)

module _ {table marks : List ℕ} {layers start : List ℤ} {props vars moves m : ℕ} {w₀ : Targets} {n : ℕ} {out : List ℕ} (x : Writable table marks layers start props vars moves m w₀ n out) where
  pub backwards_start : Backwards x m w₀ (10 * n) out
  unfolding record_bytes
  backwards_start =
      let k = x.begun.stored.task in
      let s = x.begun.stored.start in
      record {
        walked = x.begun.walked;
        later = [];
        split = split_start x.begun.stored;
        here = omega (arith, x.total, ap length (records_answer k s m));
        new_is = sym (put_nil out (10 * n));
      }

  module _ {t : ℕ} {w : Targets} {at : ℕ} {new : List ℕ} (s : Backwards x t w at new) where
    all_length : length (plan_records x.begun.stored) ≡ length (records_below x.begun.stored t) + length s.later
    all_length = ap length s.split ∙ length-append (records_below x.begun.stored t) s.later

    pub backwards_length : length new ≡ length out
    backwards_length =
        ap length s.new_is
        ∙ length_put out at (record_bytes s.later) (omega (arith, s.here, all_length, x.total, x.room, length_record_bytes s.later))

  module _ {t : ℕ} {w : Targets} {at : ℕ} {new : List ℕ} (h : t < m) (s : Backwards x (suc t) w at new) {u : Targets} {counts : List ℕ} {c : ℕ} (walked : Walked x.begun.stored t u) (counted : Counted x.begun.stored t counts) (is : c ≡ length (layer_records 0 (count_at counts) 0 moves)) where
    layer : List Record
    layer = layer_records t (count_at counts) 0 moves

    below_length : length (records_below x.begun.stored (suc t)) ≡ length (records_below x.begun.stored t) + c
    unfolding layer
    below_length =
        omega (arith, ap length (below_next x.begun.stored h counted), length-append (records_below x.begun.stored t) layer, records_layer_length t (count_at counts) 0 moves, is)

    pub back_enough : 10 * c ≤ at
    back_enough = omega (arith, s.here, below_length)

    pub back_room : (at - 10 * c) + 10 * length (layer_records 0 (count_at counts) 0 moves) ≤ length new
    back_room = omega (arith, back_enough, backwards_length s, is, s.here, all_length s, x.total, x.room)

    pub back_next : {more : List ℕ} → more ≡ put new (at - 10 * c) (record_bytes (layer_records 0 (count_at counts) 0 moves)) → Backwards x t u (at - 10 * c) more
    unfolding layer
    back_next {more} e =
        let bs = record_bytes (layer_records 0 (count_at counts) 0 moves) in
        let cs = record_bytes s.later in
        let p = at - 10 * c in
        let long : length bs ≡ 10 * c = omega (arith, length_record_bytes (layer_records 0 (count_at counts) 0 moves), is) in
        let place : at ≡ p + length bs = omega (arith, back_enough, long) in
        record {
          walked = walked;
          later = layer ++ s.later;
          split = split_next x.begun.stored s.later h counted s.split;
          here = omega (arith, s.here, below_length);
          new_is =
              e
              ∙ ap (λ (l : List ℕ). put l p bs) (s.new_is ∙ ap (λ (i : ℕ). put out i cs) place)
              ∙ put_before out p bs cs (omega (arith, long, place, s.here, all_length s, x.total, x.room, length_record_bytes s.later))
              ∙ ap (put out p) (ap (λ (l : List ℕ). l ++ cs) (sym (record_bytes_layer t (count_at counts) 0 moves)) ∙ sym (record_bytes_append layer s.later));
        }

  pub backwards_end : (t : ℕ) {w : Targets} {at : ℕ} {new : List ℕ} → t ≤ 0 → Backwards x t w at new → new ≡ put out 0 (record_bytes (plan_records x.begun.stored))
  unfolding records_from
  backwards_end zero {w} {at} {new} h s =
      s.new_is
      ∙ ap (λ (i : ℕ). put out i (record_bytes s.later)) s.here
      ∙ ap (λ (rs : List Record). put out 0 (record_bytes rs)) (sym s.split)
  backwards_end (suc t) h s = absurd (omega arith)

-- ---- a turn starts from layer t, above 0

abbrev pub down : (t : ℕ) → 0 < t → t ≡ suc (t - 1)
down t h = omega arith

pub survey_down :
    {table marks : List ℕ} {layers : List ℤ} {props vars moves m : ℕ} {x : Stored table marks layers props vars moves m} {t : ℕ} {w : Targets} {n : ℕ}
    → 0 < t
    → Surveying x t w n
    → Surveying x (suc (t - 1)) w n
survey_down {x = x} {t = t} {w = w} {n = n} h s = subst (λ (i : ℕ). Surveying x i w n) (down t h) s

pub backwards_down :
    {table marks : List ℕ} {layers start : List ℤ} {props vars moves m : ℕ} {w₀ : Targets} {n : ℕ} {out : List ℕ} {x : Writable table marks layers start props vars moves m w₀ n out} {t : ℕ} {w : Targets} {at : ℕ} {new : List ℕ}
    → 0 < t
    → Backwards x t w at new
    → Backwards x (suc (t - 1)) w at new
backwards_down {x = x} {t = t} {w = w} {at = at} {new = new} h s = subst (λ (i : ℕ). Backwards x i w at new) (down t h) s
