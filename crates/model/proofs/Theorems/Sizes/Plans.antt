-- Sizes over all layers of a plan: the wants of each layer on the way down from the answer layer, the records, and the places in
-- layer memory (document 01, "Plan"). The answer layer is at most 3,201, so every target and every count stays below
-- 30,000,001,000,000. Assumes nothing.
use Prim.Native.Nat.{ℕ, zero, suc, ◌+◌, ◌-◌, ◌*◌, ◌^◌, ◌≤◌, ◌<◌}
use Rattle.std.proofs.Math.Nat.{mul-le-mul, mul-le-mul_right, pow-le-pow_right, one-le-pow}
use native.Mathlib.Omega.{arith}
use Rattle.std.specs.Prelude.{◌≡◌, false}
use Rattle.std.proofs.Common.{sym}
use Rattle.std.proofs.Math.Path.{subst}
use Rattle.std.proofs.Math.ListN.{length}
use Rattle.model.specs.Limits.{paper}
use Rattle.model.specs.Task.{normal, Task}
use Rattle.model.specs.Move.{State}
use Rattle.model.specs.Layer.{layer_at, bound, Outcome, reported, outcome}
use Rattle.model.specs.Memory.{room, wrong15, wrong14, refuses, answered, stop_at, build}
use Rattle.model.specs.Plan.{Wants, no_wants, want_block, Descent, descend, Record, layer_records, records_from, records, wants_at, helpful, helpful_moves}
use Rattle.model.specs.Theorems.Reading.WellFormed.{All, TaskOk}
use Rattle.model.proofs.Theorems.Laws.Booleans.{not-false, or_left}
use Rattle.model.proofs.Theorems.Laws.Searching.{first_from_cases}
use Rattle.model.proofs.Theorems.Laws.Listed.{All-append}
use Rattle.model.proofs.Theorems.Layers.Answer.{reported_bound}
use Rattle.model.specs.Theorems.Plans.Records.{descent_at}
use Rattle.model.proofs.Theorems.Plans.Records.{layer_records_cases, records_length, wants_at_answer, wants_at_down, records_answer, records_down}
use Rattle.model.proofs.Theorems.Laws.Sets.{set_small}
use Rattle.model.specs.Theorems.Sizes.States.{SmallState}
use Rattle.model.proofs.Theorems.Sizes.Layers.{layer_small}
use Rattle.model.specs.Theorems.Sizes.Targets.{SmallWants}
use Rattle.model.proofs.Theorems.Sizes.Targets.{wants_wider, no_wants_small, want_block_small}
use Rattle.model.specs.Theorems.Sizes.Descents.{SmallDescent}
use Rattle.model.proofs.Theorems.Sizes.Descents.{descend_small}
use Rattle.model.specs.Theorems.Sizes.Plans.{highest_target}

-- at most 3,201 layers down
pub highest_target_most : {m : ℕ} (u : ℕ) → m ≤ 3201 → highest_target m u ≤ 30_000_000_000_000
highest_target_most u h = omega arith

-- what one layer down leaves to the next one
pub wants_down :
    (m u : ℕ) {d : Descent}
    → u < m
    → SmallDescent (highest_target m (suc u)) d
    → SmallWants (highest_target m u) d.wants
wants_down m u h small = wants_wider (omega arith) small.wants

layer_counts :
    {most : ℕ} (t : ℕ) (count : ℕ → ℕ) (b n : ℕ)
    → ((c : ℕ) → count c ≤ most)
    → All (λ (r : Record). r.count ≤ most) (layer_records t count b n)
unfolding layer_records
layer_counts t count b zero h = tt
layer_counts {most} t count b (suc n) h =
    layer_records_cases t count (All (λ (r : Record). r.count ≤ most)) b n
    (layer_counts t count (suc b) n h) (λ taken. (h b, layer_counts t count (suc b) n h))

module _
    {k : Task} {s : State} (ok : TaskOk paper normal k) (start : SmallState k.vars s)
    (m : ℕ) (right : (u : ℕ) → u ≤ m → wrong15 paper k s u ≡ false) where
  -- "From answer layer m down": the goal's wants in layer m
  pub goal_small : SmallWants (highest_target m m) (want_block (layer_at k s m) s no_wants k.goal)
  goal_small = want_block_small (layer_small k s m start (right m (omega arith))) start (omega arith) ok.goal no_wants_small

  -- one layer down, to layer u
  pub layer_down_small :
      {w : Wants} {u : ℕ}
      → u < m
      → SmallWants (highest_target m (suc u)) w
      → SmallDescent (highest_target m (suc u)) (descend k (layer_at k s u) s w)
  layer_down_small {u} h wanted =
      descend_small ok (layer_small k s u start (right u (omega arith))) start (omega arith) wanted

  -- and so in every layer u
  pub wants_at_small : (u : ℕ) → u ≤ m → SmallWants (highest_target m u) (wants_at k s m u)
  unfolding descent_at
  wants_at_small u h = go (m - u) u (omega arith)
    where
      go : (n t : ℕ) → t + n ≡ m → SmallWants (highest_target m t) (wants_at k s m t)
      go zero t e =
          let same : t ≡ m = omega arith in
          subst (λ (i : ℕ). SmallWants (highest_target m i) (wants_at k s m i)) (sym same) (rw (wants_at_answer k s m) goal_small)
      go (suc n) t e =
          let lower : t < m = omega arith in
          rw (wants_at_down k s m lower) (wants_down m t lower (layer_down_small lower (go n (suc t) (omega arith))))

  -- every target of the plan is at most 30,000,000,000,000
  pub targets_small : m ≤ 3201 → (u : ℕ) → u ≤ m → SmallWants 30_000_000_000_000 (wants_at k s m u)
  targets_small most u h = wants_wider (highest_target_most u most) (wants_at_small u h)

  -- with what is made on the way to layer u, and its counts
  pub descent_at_small : (u : ℕ) → u < m → SmallDescent (highest_target m (suc u)) (descent_at k s m u)
  unfolding descent_at
  descent_at_small u h = layer_down_small h (wants_at_small (suc u) h)

  module _ (most : m ≤ 3201) where
    from_counts : (u : ℕ) → u ≤ m → All (λ (r : Record). r.count ≤ 30_000_001_000_000) (records_from k s u (wants_at k s m u))
    unfolding records_from
    from_counts zero h = tt
    from_counts (suc u) h =
        rw (records_down k s m h)
        (All-append (λ (r : Record). r.count ≤ 30_000_001_000_000) (records_from k s u (wants_at k s m u))
        (layer_records u (descent_at k s m u).count 0 (length k.moves))
        (from_counts u (omega arith))
        (layer_counts u (descent_at k s m u).count 0 (length k.moves) (λ c. omega (arith, (descent_at_small u h).count c))))

    -- every count of a plan's records
    pub records_counts : All (λ (r : Record). r.count ≤ 30_000_001_000_000) (records k s m)
    records_counts = rw (records_answer k s m) (from_counts m (omega arith))

-- ---- the answer layer, the records, the places in layer memory
module _ {k : Task} (ok : TaskOk paper normal k) where
  -- "(A + N + 1) × (N + 1)" at its largest, 97 × 33
  pub bound_most : bound (length k.moves) k.vars ≤ 3201
  unfolding bound paper
  bound_most =
      let most : length k.moves + k.vars + 1 ≤ 97 = omega (arith, ok.moves, ok.vars.0) in
      let rows : k.vars + 1 ≤ 33 = omega (arith, ok.vars.0) in
      mul-le-mul most rows

  -- "Reported layers"
  pub reported_most : (s : State) → reported (outcome k s) ≤ 3201
  reported_most s = omega (arith, reported_bound ok s, bound_most)

  -- "P + A + N × (reported layers + 1) numbers of layer memory"
  pub room_most : (t : ℕ) → room k t ≤ 184 + 32 * (t + 1)
  unfolding room paper
  room_most t =
      let rows : k.vars * (t + 1) ≤ 32 * (t + 1) = mul-le-mul_right (t + 1) ok.vars.0 in
      omega (arith, ok.props, ok.moves)

  -- and so every place in it, for a layer that can be reported
  pub room_small : (t : ℕ) → t ≤ 3201 → room k t < 2 ^ 20
  room_small t h = omega (arith, room_most t)

  -- at most A records a layer
  pub records_most : (s : State) (m : ℕ) → m ≤ 3201 → length (records k s m) ≤ 204_864
  unfolding paper
  records_most s m h =
      let most : length k.moves * m ≤ 64 * 3201 = mul-le-mul ok.moves h in
      omega (arith, records_length k s m)

  -- "10 bytes a record"
  pub records_bytes_most : (s : State) (m : ℕ) → m ≤ 3201 → 10 * length (records k s m) ≤ 2_048_640
  records_bytes_most s m h = omega (arith, records_most s m h)

  -- "a 64-bit set"
  pub helpful_moves_small : (s : State) (m : ℕ) → helpful_moves k s m < 2 ^ 64
  unfolding helpful_moves paper
  helpful_moves_small s zero = one-le-pow 64 2 (omega arith)
  helpful_moves_small s (suc m) =
      let wide : 2 ^ length k.moves ≤ 2 ^ 64 = pow-le-pow_right (omega arith) ok.moves in
      omega (arith, set_small (helpful (layer_at k s 0) (wants_at k s (suc m) 1)) k.moves)

-- where the layers are built to the end, each of them has passed the check for 15
pub answered_passes :
    (k : Task) (s : State) (size : ℕ) {o : Outcome}
    → build paper k s size ≡ answered o
    → (u : ℕ)
    → u ≤ reported (outcome k s)
    → wrong15 paper k s u ≡ false
unfolding build stop_at
answered_passes k s size {o} e u h =
    first_from_cases (refuses paper k s size) (λ f. stop_at paper k s f (outcome k s) ≡ answered o → wrong15 paper k s u ≡ false) 0
    (suc (reported (outcome k s)))
    (λ t low high bad before stopped-is. cc)
    (λ never same. not-false (wrong15 paper k s u)
    (λ large. never u (omega arith) (omega arith) (or_left (wrong15 paper k s u) (wrong14 k size u) large)))
    e
