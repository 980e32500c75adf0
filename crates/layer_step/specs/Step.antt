-- The step from layer t: what the next layer is judged to be, and what is left in the part of the memory behind the last layer.
-- Assumes nothing.
use Rattle.std.specs.Prelude.{ℕ, suc, ◌≤◌, ◌<◌, ◌≡◌, refl, ◌⊎◌, Result, Ok, Err, Bool, true, false, not, ◌&&◌, List, ltb, ℤ, pos, length, get_or}
use Rattle.std.proofs.Common.{arith, inl, inr, ◌∙◌}
use Rattle.std.proofs.Math.Path.{sym, ap}
use borrow.Author.Tests.{lt-ltb, le-ltb, not-false as was-true, not-true as was-false}
use Rattle.model.specs.declared.reason.Reason.{Reason}
use Rattle.model.specs.declared.reason.Reason.TheVariants as why
use Rattle.layer_step.specs.declared.NextLayer.{NextLayer}
use Rattle.layer_step.specs.declared.NextLayer.TheVariants as outlook
use Rattle.model.specs.Limits.{paper}
use Rattle.model.specs.Lists.{all_below}
use Rattle.model.specs.Task.{normal, Task}
use Rattle.model.specs.Move.{State, move_at}
use Rattle.model.specs.Layer.{Value, Layer, usable, layer, layer_at, settled}
use Rattle.model.specs.Memory.{wrong15}
use Rattle.model.specs.Theorems.Layers.Order.{◌⊑◌}
use Rattle.model.proofs.Theorems.Layers.NextLayer.{layer_rises}
use Rattle.table.specs.Outlines.{Outline}
use Rattle.block.specs.Parts.{ranges_of}
use Rattle.block.specs.Sums.{LayerRow}
use Rattle.block.specs.Blocks.{LayerState}
use Rattle.layer_memory.specs.Filling.{Filled, row_at}
use Rattle.layer_checks.specs.Comparing.{same_truth, not_above, within_at}
use Rattle.layer_memory.specs.Arrays.{Truths, Values, effect_size, row_values}
use Rattle.layer_moves.specs.UsingMoves.{UsedIn, MovesUsed}
use Rattle.layer_checks.specs.Checks.{same_layer_lem, within_layer, small_row}

-- the table's three counts
pub record Counts (k : Task) (props vars moves : ℕ) : Type 0 where
  pub props_is : props ≡ k.props
  pub vars_is : vars ≡ k.vars
  pub moves_is : moves ≡ length k.moves

-- what a step needs: a table with its marks and counts, a layer in two arrays, room for the next one's propositions and for the moves used
pub record Steppable (table marks : List ℕ) (props vars moves : ℕ) (has : List Bool) (row : List ℤ) (flags used : List Bool) : Type 0 where
  pub task : Task
  pub over : Layer
  pub outlined : Outline normal table marks task
  pub counts : Counts task props vars moves
  pub state : LayerState (ranges_of normal task) has row over
  pub flags_room : task.props ≤ length flags
  pub used_room : moves ≤ length used

pub steppable_row : {table marks : List ℕ} {props vars moves : ℕ} {has : List Bool} {row : List ℤ} {flags used : List Bool} → Steppable table marks props vars moves has row flags used → vars ≤ length row
steppable_row p = rw p.counts.vars_is p.state.row.long

-- "A next layer equal to layer t is not stored and needs no memory"; "each new layer": 15, then 14
unfoldable pub next_layer : Bool → Bool → Bool → Result NextLayer Reason
next_layer true large short = Ok outlook.Same
next_layer false true short = Err why.LayerTooLarge
next_layer false false true = Err why.MemoryTooShort
next_layer false false false = Ok outlook.New

-- what each outcome says of the three tests
abbrev pub Judged : Result NextLayer Reason → Bool → Bool → Bool → Type 0
Judged (Ok outlook.Same) same large short = same ≡ true
Judged (Ok outlook.New) same large short = (same ≡ false) × (large ≡ false) × (short ≡ false)
Judged (Err r) same large short =
    (same ≡ false) × (((r ≡ why.LayerTooLarge) × (large ≡ true)) ⊎ ((r ≡ why.MemoryTooShort) × (large ≡ false) × (short ≡ true)))

pub judged : (same large short : Bool) → Judged (next_layer same large short) same large short
unfolding next_layer
judged true large short = refl
judged false true short = (refl, inl (refl, refl))
judged false false true = (refl, inr (refl, refl, refl))
judged false false false = (refl, refl, refl)

-- the values stand at the start of the part, the numbers behind them are as they were
pub record RowWritten (vars : ℕ) (f : ℕ → Value) (old new : List ℤ) : Type 0 where
  pub same_length : length new ≡ length old
  pub row : LayerRow vars new f
  pub kept : (i : ℕ) → vars ≤ i → get_or new i (pos 0) ≡ get_or old i (pos 0)

-- "is not stored"; "one ended by 14 or 15 does not" count: only a new layer is written
abbrev pub PartAfter : ℕ → (ℕ → Value) → List ℤ → List ℤ → Result NextLayer Reason → Type 0
PartAfter vars f old new (Ok outlook.Same) = new ≡ old
PartAfter vars f old new (Ok outlook.New) = RowWritten vars f old new
PartAfter vars f old new (Err r) = new ≡ old

-- only a new layer's row stands in the part
abbrev pub RowStored : ℕ → List ℤ → List ℤ → List ℤ → Result NextLayer Reason → Type 0
RowStored vars row old new (Ok outlook.Same) = new ≡ old
RowStored vars row old new (Ok outlook.New) = (vars ≤ length row) × Filled (pos 0) (row_at row) vars old new
RowStored vars row old new (Err r) = new ≡ old

-- what the step from layer t answers and leaves: the next layer's propositions, the moves used, the part
pub record StepFrom (k : Task) (s : State) (t : ℕ) (behind : List ℤ) (flags used : List Bool) (behind' : List ℤ) (r : Result NextLayer Reason) : Type 0 where
  pub truths : Truths k.props flags (layer_at k s (suc t)).has
  pub uses : Truths (length k.moves) used (λ b. usable (layer_at k s t) (move_at k b))
  pub is : r ≡ next_layer (settled k s t) (wrong15 paper k s (suc t)) (ltb (length behind) k.vars)
  pub part : PartAfter k.vars (layer_at k s (suc t)).val behind behind' r

-- the arrays hold layer t, begin the next one as it, and mark moves usable in it
pub record AtLayer (table marks : List ℕ) (props vars moves : ℕ) (has : List Bool) (row : List ℤ) (flags used : List Bool) (k : Task) (s : State) (t : ℕ) : Type 0 where
  pub outlined : Outline normal table marks k
  pub counts : Counts k props vars moves
  pub state : LayerState (ranges_of normal k) has row (layer_at k s t)
  pub begun : Truths k.props flags (layer_at k s t).has
  pub used_in : UsedIn k (layer_at k s t) used

-- the step, in every such reading
pub record Stepped (table marks : List ℕ) (props vars moves : ℕ) (has : List Bool) (row : List ℤ) (flags used : List Bool) (behind : List ℤ) (flags' used' : List Bool) (behind' : List ℤ) (r : Result NextLayer Reason) : Type 0 where
  pub same_flags : length flags' ≡ length flags
  pub same_used : length used' ≡ length used
  pub is : (k : Task) (s : State) (t : ℕ) → AtLayer table marks props vars moves has row flags used k s t → StepFrom k s t behind flags' used' behind' r

-- ---- the checks of the next layer in its arrays

pub state_truths : (k : Task) {has : List Bool} {row : List ℤ} {l : Layer} → LayerState (ranges_of normal k) has row l → Truths k.props has l.has
state_truths k w = record { long = w.long; same = w.has }

rises : (k : Task) (s : State) (t v : ℕ) → (layer_at k s t).val v ⊑ (layer_at k s (suc t)).val v
unfolding layer_at
rises k s t v = (layer_rises k.moves s t).val v

-- ---- the four outcomes

module _ {table marks : List ℕ} {props vars moves : ℕ} {has : List Bool} {row : List ℤ} {flags used : List Bool} {flags' : List Bool} {values : List ℤ} {used' : List Bool} (m : MovesUsed table marks moves has row flags row used flags' values used') {e : Bool} (same : e ≡ (all_below (same_truth has flags') props && all_below (not_above row values) vars)) where
  module _ {k : Task} {s : State} {t : ℕ} (a : AtLayer table marks props vars moves has row flags used k s t) where
    truths : Truths k.props flags' (layer_at k s (suc t)).has
    unfolding layer_at layer
    truths = (m.is k (layer_at k s t) a.outlined a.counts.moves_is a.state a.used_in a.begun (row_values a.state.row)).0

    new_row : Values effect_size k.vars values (layer_at k s (suc t)).val
    unfolding layer_at layer
    new_row = (m.is k (layer_at k s t) a.outlined a.counts.moves_is a.state a.used_in a.begun (row_values a.state.row)).1

    uses : Truths (length k.moves) used' (λ b. usable (layer_at k s t) (move_at k b))
    unfolding move_at
    uses = (m.is k (layer_at k s t) a.outlined a.counts.moves_is a.state a.used_in a.begun (row_values a.state.row)).2

    from : {behind behind' : List ℤ} {r : Result NextLayer Reason} → r ≡ next_layer (settled k s t) (wrong15 paper k s (suc t)) (ltb (length behind) k.vars) → PartAfter k.vars (layer_at k s (suc t)).val behind behind' r → StepFrom k s t behind flags' used' behind' r
    from i p = record { truths = truths; uses = uses; is = i; part = p }

    settled_is : e ≡ settled k s t
    unfolding settled
    settled_is =
        same
        ∙ ap (λ (n : ℕ). all_below (same_truth has flags') n && all_below (not_above row values) vars) a.counts.props_is
        ∙ ap (λ (n : ℕ). all_below (same_truth has flags') k.props && all_below (not_above row values) n) a.counts.vars_is
        ∙ same_layer_lem (state_truths k a.state) truths a.state.row new_row (rises k s t)

    within_is : all_below (within_at values) vars ≡ not (wrong15 paper k s (suc t))
    unfolding wrong15
    within_is = ap (all_below (within_at values)) a.counts.vars_is ∙ within_layer new_row

    row_written : {old new : List ℤ} → all_below (within_at values) vars ≡ true → vars ≤ length old → Filled (pos 0) (row_at values) vars old new → RowWritten k.vars (layer_at k s (suc t)).val old new
    unfolding row_at
    row_written {old} {new} within room f =
        let n = a.counts.vars_is in
        let small = small_row a.state.row new_row (rises k s t) (sym (ap (all_below (within_at values)) n) ∙ within) in
        record {
          same_length = f.same_length;
          row =
              record {
                long = omega (arith, f.same_length);
                each = λ v h. record { is = f.done v (omega arith) ∙ (small.each v h).is; size = (small.each v h).size };
              };
          kept = λ i h. f.kept i (omega arith);
        }

  stepped : {behind behind' : List ℤ} {r : Result NextLayer Reason} → ((k : Task) (s : State) (t : ℕ) → AtLayer table marks props vars moves has row flags used k s t → StepFrom k s t behind flags' used' behind' r) → Stepped table marks props vars moves has row flags used behind flags' used' behind' r
  stepped f = record { same_flags = m.same_flags; same_used = m.same_used; is = f }

  -- "A next layer equal to layer t"
  pub stepped_same : {behind : List ℤ} → e ≡ true → Stepped table marks props vars moves has row flags used behind flags' used' behind (Ok outlook.Same)
  unfolding next_layer
  stepped_same h = stepped (λ k s t a. from a (rw (sym (settled_is a) ∙ h) refl) refl)

  module _ (h : e ≡ false) {x : Bool} (within : x ≡ all_below (within_at values) vars) where
    -- 15
    pub stepped_large : {behind : List ℤ} → x ≡ false → Stepped table marks props vars moves has row flags used behind flags' used' behind (Err why.LayerTooLarge)
    unfolding next_layer
    stepped_large i =
        stepped (λ k s t a. from a (rw (sym (settled_is a) ∙ h, was-true (wrong15 paper k s (suc t)) (sym (within_is a) ∙ sym within ∙ i)) refl) refl)

    module _ (i : x ≡ true) where
      small : {k : Task} {s : State} {t : ℕ} → AtLayer table marks props vars moves has row flags used k s t → wrong15 paper k s (suc t) ≡ false
      small {k} {s} {t} a = was-false (wrong15 paper k s (suc t)) (sym (within_is a) ∙ sym within ∙ i)

      -- 14
      pub stepped_short : {behind : List ℤ} → length behind < vars → Stepped table marks props vars moves has row flags used behind flags' used' behind (Err why.MemoryTooShort)
      unfolding next_layer
      stepped_short {behind} short =
          stepped (λ k s t a. from a (rw (sym (settled_is a) ∙ h, small a, lt-ltb (length behind) k.vars (omega (arith, a.counts.vars_is))) refl) refl)

      -- a new layer
      pub stepped_new : {behind behind' : List ℤ} → vars ≤ length behind → Filled (pos 0) (row_at values) vars behind behind' → Stepped table marks props vars moves has row flags used behind flags' used' behind' (Ok outlook.New)
      unfolding next_layer
      stepped_new {behind} room f =
          stepped
          (λ k s t a.
          from a (rw (sym (settled_is a) ∙ h, small a, le-ltb (length behind) k.vars (omega (arith, a.counts.vars_is))) refl)
          (row_written a (sym within ∙ i) room f))
