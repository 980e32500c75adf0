-- The wants of the layer below and the moves' counts, in arrays (document 01, "Plan"). Assumes nothing.
use Rattle.std.specs.Prelude.{ℕ, ◌^◌, ◌≤◌, ◌<◌, max, ◌≡◌, refl, Bool, false, List, eqb, ℤ, pos, negsuc, nat_abs, ◌≤ℤ◌, ◌<ℤ◌, get_or, set}
use Rattle.std.proofs.Common.{arith, sym, ◌∙◌, subst, eq-eqb, ne_eqb}
use Rattle.std.proofs.Math.Path.{ap, ap₂}
use Rattle.std.proofs.Math.Bool.{true, cond}
use Rattle.std.proofs.Math.Option.{none}
use Rattle.std.proofs.Math.IntN.{◌-ℤ◌}
use Rattle.std.specs.Int.Signed.{mag}
use Rattle.std.proofs.Math.ListN.{length, length-set}
use Rattle.integer.specs.Linear.{up, lt_in, le_true, small_mag}
use Rattle.integer.specs.Ceiling.{ceiling}
use Rattle.model.specs.Task.{normal, Kind, assign, increase, decrease, Task}
use Rattle.model.specs.Command.{kind_code}
use Rattle.model.specs.Move.{State, move_at}
use Rattle.model.specs.Layer.{Value, finite, unbounded, reaches, layer_value}
use Rattle.model.specs.Memory.{encode}
use Rattle.model.specs.Plan.{Wants, low, want_sum, want_block, Descent, counted, adder, take_adder, demand, achiever, step_size, runs, take_effect, take_achiever}
use Rattle.model.specs.Theorems.Reading.WellFormed.{KindOk}
use Rattle.table.specs.Outlines.{part_at}
use Rattle.block.specs.Parts.{ranges_of}
use Rattle.block.specs.Items.{Left, EffectIs}
use Rattle.block.specs.Sums.{Row, LayerRow, Encoded, Sized, is_mark, mark_yes, mark_no}
use Rattle.targets.specs.declared.Targets.{Targets}
use Rattle.targets.specs.Encoding.{Encodes, stored_at}
use Rattle.targets.specs.Wanting.{Wantable, Wanted}
use Rattle.targets.specs.Blocks.{BlockWantable, BlockWanted}
use Rattle.achievers.specs.Search.{Searchable, part_left, AdderIs, AchieverIs, demand_by, demand_code}

-- ---- counts in an array

-- the arrays hold the wants and the counts of a task
pub record EncodesTaken (k : Task) (t : Targets) (counts : List ℕ) (d : Descent) : Type 0 where
  pub wants : Encodes k.props k.vars t d.wants
  pub few : length k.moves ≤ 64
  pub long : length counts ≡ 64
  pub count : (b : ℕ) → b < length k.moves → get_or counts b 0 ≡ d.count b

-- a count n for move b if that is larger
unfoldable pub counted_at : List ℕ → ℕ → ℕ → List ℕ
counted_at counts b n = set counts b (max (get_or counts b 0) n)

module _ {k : Task} {t : Targets} {counts : List ℕ} {d : Descent} (e : EncodesTaken k t counts d) {r : Targets} {w : Wants} (wanted : Encodes k.props k.vars r w) where
  pub taken_counted : {b : ℕ} (n : ℕ) {more : List ℕ} → b < length k.moves → more ≡ counted_at counts b n → EncodesTaken k r more (record { wants = w; count = counted d.count b n })
  unfolding counted counted_at
  taken_counted {b} n lt same =
      record {
        wants = wanted;
        few = e.few;
        long = ap length same ∙ length-set counts b (max (get_or counts b 0) n) ∙ e.long;
        count =
            λ c h. rw same
            (stored_at (λ (x : ℕ). x ≡ cond (eqb c b) (max (d.count c) n) (d.count c)) counts b c
            (max (get_or counts b 0) n) 0 (omega (arith, e.few, e.long))
            (λ at. rw (eq-eqb c b at, at, e.count b lt) refl)
            (λ off. rw (ne_eqb c b off) (e.count c h)));
      }

-- ---- "Count: 1; for += (T − state value of v)/d rounded up"

-- the number of runs by the number that the kind is coded by
pub record IsRuns (kd : ℕ) (z y x : ℤ) (r : ℕ) : Type 0 where
  pub is : (d : Kind) (w : Value) → kind_code d ≡ kd → KindOk normal d → Encoded 8_000_000_001_000_000 w x → r ≡ runs d z y w

pub runs_first : (kd : ℕ) (z y x : ℤ) → kd ≡ 0 → IsRuns kd z y x 1
unfolding runs kind_code
runs_first kd z y x e = record { is = go }
  where
    go : (d : Kind) (w : Value) → kind_code d ≡ kd → KindOk normal d → Encoded 8_000_000_001_000_000 w x → 1 ≡ runs d z y w
    go assign w p ok q = refl
    go increase w p ok q = absurd (omega arith)
    go decrease w p ok q = refl

pub runs_other : (kd : ℕ) (z y x : ℤ) {n : ℕ} → (kd ≡ 0 → ⊥) → ((w : Value) → Encoded 8_000_000_001_000_000 w x → n ≡ up (ceiling (z -ℤ y) (step_size w))) → IsRuns kd z y x n
unfolding runs kind_code
runs_other kd z y x {n} e f = record { is = go }
  where
    go : (d : Kind) (w : Value) → kind_code d ≡ kd → KindOk normal d → Encoded 8_000_000_001_000_000 w x → n ≡ runs d z y w
    go assign w p ok q = absurd (e (sym p))
    go increase w p ok q = f w q
    go decrease w p ok q = absurd ok

-- "d the value in t−1 if finite, else 1"
pub record IsStep (x : ℤ) (r : ℕ) : Type 0 where
  pub is : (w : Value) → Encoded 8_000_000_001_000_000 w x → r ≡ step_size w

pub step_unbounded : (x : ℤ) → is_mark x ≡ true → IsStep x 1
unfolding step_size
step_unbounded x m = record { is = λ w q. sym (ap step_size (mark_yes (omega arith) q m)) }

pub step_finite : (x : ℤ) {r : ℕ} → is_mark x ≡ false → r ≡ nat_abs x → IsStep x r
unfolding step_size
step_finite x m e = record { is = λ w q. e ∙ sym (ap step_size (mark_no q m)) }

-- what stands for a value fits 64 bits
pub encoded_mag : {x : Value} {z : ℤ} → Encoded 8_000_000_001_000_000 x z → mag z < 2 ^ 63
unfolding encode
encoded_mag {x} {z} e = go x e.is e.size
  where
    go : (y : Value) → z ≡ encode y → Sized 8_000_000_001_000_000 y → mag z < 2 ^ 63
    go (finite u) p s = rw p (small_mag u (omega arith))
    go unbounded p s = rw p (omega arith)

-- a value that is at least 1
pub record Above0 (x : ℤ) : Type 0 where
  pub over : Value
  pub encoded : Encoded 8_000_000_001_000_000 over x
  pub positive : reaches over (pos 1) ≡ true

pub above_finite : {x : ℤ} → Above0 x → is_mark x ≡ false → (pos 1 ≤ℤ x) × (nat_abs x ≤ 8_000_000_001_000_000)
unfolding reaches
above_finite {x} a m =
    let e : a.over ≡ finite x = mark_no a.encoded m in
    (le_true (pos 1) x (sym (ap (λ (w : Value). reaches w (pos 1)) e) ∙ a.positive), subst (Sized 8_000_000_001_000_000) e a.encoded.size)

pub up_negative : (z : ℤ) → z <ℤ pos 0 → 0 ≡ up z
up_negative (pos n) h = absurd (omega (arith, lt_in (pos n) (pos 0) h))
up_negative (negsuc n) h = refl

pub up_nonneg : (z : ℤ) → pos 0 ≤ℤ z → nat_abs z ≡ up z
up_nonneg (pos n) h = refl
up_nonneg (negsuc n) h = absurd h.le

-- ---- a move that is taken

-- the arguments of a descent: some task, some layer and the state, what is wanted below so far, and the counts
pub record Takeable (table marks : List ℕ) (used : List Bool) (row lows : List ℤ) (moves : ℕ) (t : Targets) (counts : List ℕ) : Type 0 where
  pub search : Searchable table marks used moves
  pub start : State
  pub descent : Descent
  pub values : LayerRow search.task.vars row search.over.val
  pub low_values : Row search.task.vars lows (low search.over start)
  pub encoded : EncodesTaken search.task t counts descent

module _ {table marks : List ℕ} {used : List Bool} {row lows : List ℤ} {moves : ℕ} {t : Targets} {counts : List ℕ} (x : Takeable table marks used row lows moves t counts) {b : ℕ} (lt : b < moves) where
  -- the move's conditions, as they are wanted in the layer
  abbrev pub move_wantable : {part : List ℕ} → part ≡ part_at table marks b → BlockWantable part row lows t
  move_wantable {part} e =
      record {
        ranges = ranges_of normal x.search.task;
        block = move_at x.search.task b;
        over = x.search.over;
        start = x.start;
        wants = x.descent.wants;
        form = refl;
        left = subst (λ (l : List ℕ). Left (ranges_of normal x.search.task) l 1 (move_at x.search.task b)) (sym e) (part_left x.search lt);
        values = x.values;
        low_values = x.low_values;
        encoded = x.encoded.wants;
      }

  pub move_small : b < 64
  move_small = omega (arith, x.encoded.few, x.search.many)

-- "take the first that adds the proposition .. Want its conditions in t−1 .. Count: 1"
pub record AdderTaken {table marks : List ℕ} {used : List Bool} {row lows : List ℤ} {moves : ℕ} {t : Targets} {counts : List ℕ} (x : Takeable table marks used row lows moves t counts) (p : ℕ) (r : Targets) (more : List ℕ) : Type 0 where
  pub is :
      EncodesTaken x.search.task r more
      (take_adder x.search.task x.search.over x.start x.descent (adder x.search.task x.search.over p))

module _ {table marks : List ℕ} {used : List Bool} {row lows : List ℤ} {moves : ℕ} {t : Targets} {counts : List ℕ} (x : Takeable table marks used row lows moves t counts) {p : ℕ} where
  pub no_adder : adder x.search.task x.search.over p ≡ none → AdderTaken x p t counts
  unfolding take_adder
  no_adder e = record { is = rw e x.encoded }

  pub adder_taken :
      {b : ℕ} {part : List ℕ} {w : Targets} {more : List ℕ} (h : AdderIs x.search.task x.search.over p moves b) (e : part ≡ part_at table marks b)
      → BlockWanted (move_wantable x h.lt e) w
      → more ≡ counted_at counts b 1
      → AdderTaken x p w more
  unfolding take_adder
  adder_taken h e wanted same =
      record { is = rw h.is (taken_counted x.encoded wanted.encoded 1 (omega (arith, h.lt, x.search.many)) same) }

-- "Want its conditions in t−1, and that value ≥ T (:=) or ≥ 1 (+=)."
pub record AchieverTaken {table marks : List ℕ} {used : List Bool} {row lows : List ℤ} {moves : ℕ} {t : Targets} {counts : List ℕ} (x : Takeable table marks used row lows moves t counts) (v : ℕ) (z : ℤ) (r : Targets) (more : List ℕ) : Type 0 where
  pub is :
      EncodesTaken x.search.task r more
      (take_achiever x.search.task x.search.over x.start x.descent v z (achiever x.search.task x.search.over v z))

module _ {table marks : List ℕ} {used : List Bool} {row lows : List ℤ} {moves : ℕ} {t : Targets} {counts : List ℕ} (x : Takeable table marks used row lows moves t counts) {v : ℕ} {z : ℤ} where
  pub no_achiever : achiever x.search.task x.search.over v z ≡ none → AchieverTaken x v z t counts
  unfolding take_achiever
  no_achiever e = record { is = rw e x.encoded }

  module _ {b kd : ℕ} {base : ℤ} {from n : ℕ} {value : ℤ} (h : AchieverIs table marks x.search.task x.search.over v z moves b kd base from n value) {part : List ℕ} (e : part ≡ part_at table marks b) where
    -- the effect's sum, as it is wanted behind the move's conditions
    abbrev pub effect_wantable : {w : Targets} → BlockWanted (move_wantable x h.lt e) w → Wantable part from n row lows w
    effect_wantable wanted =
        record {
          ranges = ranges_of normal x.search.task;
          ts = h.it.terms;
          over = x.search.over;
          start = x.start;
          wants = want_block x.search.over x.start x.descent.wants (move_at x.search.task b);
          form = refl;
          terms = (subst (λ (l : List ℕ). EffectIs (ranges_of normal x.search.task) l kd base from n h.it) (sym e) h.effect).terms;
          values = x.values;
          low_values = x.low_values;
          encoded = wanted.encoded;
        }

    -- a += is taken for a value of 1 or more
    pub effect_above : (kd ≡ 0 → ⊥) → Above0 value
    unfolding demand kind_code
    effect_above ne = record { over = layer_value x.search.over h.it; encoded = h.encoded; positive = go h.it.kind h.effect.kind h.achieved }
      where
        go : (d : Kind) → kind_code d ≡ kd → reaches (layer_value x.search.over h.it) (demand d z) ≡ true → reaches (layer_value x.search.over h.it) (pos 1) ≡ true
        go assign p q = absurd (ne (sym p))
        go increase p q = q
        go decrease p q = q

    pub achiever_taken :
        {y c : ℤ} {w u : Targets} {m : ℕ} {more : List ℕ} (wanted : BlockWanted (move_wantable x h.lt e) w)
        → y ≡ x.start.val v
        → c ≡ demand_by kd z -ℤ base
        → Wanted (effect_wantable wanted) c u
        → IsRuns kd z y value m
        → more ≡ counted_at counts b m
        → AchieverTaken x v z u more
    unfolding take_achiever take_effect
    achiever_taken {y} {c} {w} {u} {m} {more} wanted old is sum counted-runs same =
        let k = x.search.task in
        let l = x.search.over in
        let s = x.start in
        let need : c ≡ demand h.it.kind z -ℤ h.it.base =
        is ∙ ap₂ ◌-ℤ◌ (demand_code h.it.kind z h.effect.kind) (sym h.effect.base) in
        let many : m ≡ runs h.it.kind z (s.val v) (layer_value l h.it) =
        counted-runs.is h.it.kind (layer_value l h.it) h.effect.kind h.effect.ok.kind h.encoded
        ∙ ap (λ (i : ℤ). runs h.it.kind z i (layer_value l h.it)) old in
        record {
          is =
              rw (h.is, h.found_it)
              (taken_counted x.encoded
              (subst (λ (i : ℤ). Encodes k.props k.vars u (want_sum l s (want_block l s x.descent.wants (move_at k b)) h.it.terms i)) need sum.encoded)
              (runs h.it.kind z (s.val v) (layer_value l h.it))
              (omega (arith, h.lt, x.search.many))
              (subst (λ (i : ℕ). more ≡ counted_at counts b i) many same));
        }
