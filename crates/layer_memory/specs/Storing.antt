-- Layer memory written part by part: how each write changes what the memory holds.
-- Assumes nothing.
use Rattle.std.specs.Prelude.{ℕ, suc, ◌+◌, ◌-◌, ◌*◌, ◌≤◌, ◌<◌, ◌≡◌, refl, Bool, List, ◌++◌, ltb, ℤ, pos, take, drop}
use Rattle.std.proofs.Math.Nat.{mul-suc}
use Rattle.std.proofs.Common.{arith, ap, ◌∙◌, subst, ltb→lt, nltb→le, length-drop, length-take-le, get_or-append-add}
use Rattle.std.proofs.Math.Path.{sym, ap₂}
use borrow.Rule.Slice.PartMut.{mid_of, put_mid, same_len_mid}
use Rattle.std.proofs.Math.Dec.{not_T}
use Rattle.std.proofs.Math.ListN.{length, get_or, get_or-append, get_or-eq_default}
use Rattle.std.proofs.Math.Seq.{get_or-take, get_or-drop}
use Rattle.model.specs.Lists.{first_from}
use Rattle.model.specs.Task.{Task}
use Rattle.model.specs.Move.{State, move_at}
use Rattle.model.specs.Layer.{usable, layer_at}
use Rattle.model.specs.Memory.{encode, entry, prop_entry, move_entry}
use Rattle.model.proofs.Theorems.Laws.Booleans.{T-cases}
use Rattle.model.proofs.Theorems.Laws.Searching.{below_suc}
use Rattle.model.specs.Theorems.Layers.Entries.{noted}
use Rattle.model.proofs.Theorems.Layers.Entries.{entry_next}
use Rattle.model.specs.Theorems.Layers.Memories.{Holds, size}
use Rattle.model.proofs.Theorems.Layers.Memories.{place_below}
use Rattle.layer_memory.specs.Filling.{Filled, cleared, noted_at, row_at}
use Rattle.layer_memory.specs.Arrays.{Truths, Values}

-- the n numbers from place a on are g's, the others are as they were
pub record FilledAt (g : ℕ → ℤ) (a n : ℕ) (old new : List ℤ) : Type 0 where
  pub same_length : length new ≡ length old
  pub done : (i : ℕ) → i < n → get_or new (a + i) (pos 0) ≡ g i
  pub before : (i : ℕ) → i < a → get_or new i (pos 0) ≡ get_or old i (pos 0)
  pub after : (i : ℕ) → a + n ≤ i → get_or new i (pos 0) ≡ get_or old i (pos 0)

-- a part that reaches to the end of the memory, filled from its start on
module _ (g : ℕ → ℤ) (a n : ℕ) (old part : List ℤ) (room : a + n ≤ length old) (f : Filled (pos 0) g n (mid_of a (length old - a) old) part) where
  part_length : length part ≡ length old - a
  part_length = f.same_length ∙ length-take-le (length old - a) (drop a old) (omega (arith, length-drop a old))

  inside : (j : ℕ) → j < length old - a → get_or (put_mid a (length old - a) old part) (a + j) (pos 0) ≡ get_or part j (pos 0)
  inside j h =
      let rest = part ++ drop (length old - a) (drop a old) in
      let e : length (take a old) ≡ a = length-take-le a old (omega arith) in
      subst (λ (x : ℕ). get_or (take a old ++ rest) (x + j) (pos 0) ≡ get_or part j (pos 0)) e
      (get_or-append-add (take a old) rest j (pos 0) ∙ get_or-append part (drop (length old - a) (drop a old)) (pos 0) j (omega (arith, part_length)))

  pub filled_behind : FilledAt g a n old (put_mid a (length old - a) old part)
  filled_behind =
      record {
        same_length = same;
        done = λ i h. inside i (omega arith) ∙ f.done i h;
        before =
            λ i h.
            get_or-append (take a old) (part ++ drop (length old - a) (drop a old)) (pos 0) i (omega (arith, length-take-le a old (omega arith)))
            ∙ get_or-take a old i (pos 0) h;
        after =
            λ i h.
            T-cases (ltb i (length old))
            (λ t.
            let below : i < length old = ltb→lt i (length old) t in
            let e : a + (i - a) ≡ i = omega arith in
            subst (λ (x : ℕ). get_or (put_mid a (length old - a) old part) x (pos 0) ≡ get_or old x (pos 0)) e
            (inside (i - a) (omega arith)
            ∙ f.kept (i - a) (omega arith)
            ∙ get_or-take (length old - a) (drop a old) (i - a) (pos 0) (omega arith)
            ∙ get_or-drop a old (i - a) (pos 0)))
            (λ t.
            let past : length old ≤ i = nltb→le i (length old) (not_T (ltb i (length old)) t) in
            get_or-eq_default (put_mid a (length old - a) old part) (pos 0) (omega (arith, same)) ∙ sym (get_or-eq_default old (pos 0) past));
      }
    where
      same : length (put_mid a (length old - a) old part) ≡ length old
      same = same_len_mid a (length old - a) old part f.same_length

-- ---- what the memory holds

module _ {k : Task} {s : State} {old : List ℤ} where
  -- "never is −1": no layer, no step
  pub holds_cleared : {mem : List ℤ} → Filled (pos 0) cleared (k.props + length k.moves) old mem → Holds k s 0 0 old mem
  unfolding prop_entry move_entry entry first_from cleared
  holds_cleared f =
      record {
        same_length = f.same_length;
        prop = λ p h. f.done p (omega arith);
        move = λ b h. f.done (k.props + b) (omega arith);
        value = λ u v h. absurd (omega arith);
        kept = λ i h. f.kept i (omega arith);
      }

  module _ {n steps : ℕ} {mem mem' : List ℤ} (held : Holds k s n steps old mem) where
    -- the moves that one step more used
    pub holds_moves :
        {used : List Bool}
        → Truths (length k.moves) used (λ b. usable (layer_at k s steps) (move_at k b))
        → FilledAt (noted_at (mid_of k.props (length mem - k.props) mem) used steps) k.props (length k.moves) mem mem'
        → k.props + length k.moves ≤ length mem
        → Holds k s n (suc steps) old mem'
    unfolding noted_at move_entry
    holds_moves {used} u f room =
        record {
          same_length = f.same_length ∙ held.same_length;
          prop = λ p h. f.before p h ∙ held.prop p h;
          move =
              λ b h.
              f.done b h
              ∙ ap₂ (λ (z : ℤ) (t : Bool). noted z t steps) (read b h ∙ held.move b h) (u.same b h)
              ∙ sym (entry_next (λ t. usable (layer_at k s t) (move_at k b)) steps);
          value = λ w v h hv. f.after (k.props + length k.moves + (k.vars * w + v)) (omega arith) ∙ held.value w v h hv;
          kept = λ i h. f.after i (omega arith) ∙ held.kept i h;
        }
      where
        read : (b : ℕ) → b < length k.moves → get_or (mid_of k.props (length mem - k.props) mem) b (pos 0) ≡ get_or mem (k.props + b) (pos 0)
        read b h = get_or-take (length mem - k.props) (drop k.props mem) b (pos 0) (omega arith) ∙ get_or-drop k.props mem b (pos 0)

-- the values of layer n stand behind the layers so far, which the entries do not know yet
pub record RowBehind (k : Task) (s : State) (n : ℕ) (old mem : List ℤ) : Type 0 where
  pub same_length : length mem ≡ length old
  pub value : (v : ℕ) → v < k.vars → get_or mem (size k s n + v) (pos 0) ≡ encode ((layer_at k s n).val v)
  pub kept : (i : ℕ) → size k s (suc n) ≤ i → get_or mem i (pos 0) ≡ get_or old i (pos 0)

module _ {k : Task} (s : State) {n : ℕ} {old mem : List ℤ} {row : List ℤ} {b : ℕ} (vs : Values b k.vars row (layer_at k s n).val) {mem' : List ℤ} (g : FilledAt (row_at row) (size k s n) k.vars mem mem') where
  pub row_behind : length mem ≡ length old → ((i : ℕ) → size k s n ≤ i → get_or mem i (pos 0) ≡ get_or old i (pos 0)) → RowBehind k s n old mem'
  unfolding row_at
  row_behind l kept =
      record {
        same_length = g.same_length ∙ l;
        value = λ v h. g.done v h ∙ (vs.each v h).is;
        kept = λ i h. g.after i (omega (arith, mul-suc k.vars n)) ∙ kept i (omega (arith, mul-suc k.vars n));
      }

-- a row behind the layers so far changes nothing that they hold
pub holds_before : {k : Task} {s : State} {n steps : ℕ} {g : ℕ → ℤ} {m : ℕ} {old mem mem' : List ℤ} → Holds k s n steps old mem → FilledAt g (size k s n) m mem mem' → Holds k s n steps mem' mem'
holds_before {k} {s} {n} held g =
    record {
      same_length = refl;
      prop = λ p h. g.before p (omega arith) ∙ held.prop p h;
      move = λ b h. g.before (k.props + b) (omega arith) ∙ held.move b h;
      value = λ u v h hv. g.before (k.props + length k.moves + (k.vars * u + v)) (omega (arith, place_below k s u n v h hv)) ∙ held.value u v h hv;
      kept = λ i h. refl;
    }

-- one layer more: its values stand behind the last layer, and the propositions that it has are noted
pub holds_layer :
    {k : Task} {s : State} {n steps : ℕ} {old mem mem' mem'' : List ℤ} {has : List Bool}
    → RowBehind k s n old mem
    → Holds k s n steps mem mem'
    → Truths k.props has (layer_at k s n).has
    → Filled (pos 0) (noted_at mem' has n) k.props mem' mem''
    → Holds k s (suc n) steps old mem''
unfolding noted_at prop_entry
holds_layer {k} {s} {n} {mem'} {mem''} r held ts f =
    record {
      same_length = f.same_length ∙ held.same_length ∙ r.same_length;
      prop =
          λ p h.
          f.done p h
          ∙ ap₂ (λ (z : ℤ) (t : Bool). noted z t n) (held.prop p h) (ts.same p h)
          ∙ sym (entry_next (λ t. (layer_at k s t).has p) n);
      move = λ m h. f.kept (k.props + m) (omega arith) ∙ held.move m h;
      value = values;
      kept = λ i h. f.kept i (omega arith) ∙ held.kept i (omega (arith, mul-suc k.vars n)) ∙ r.kept i h;
    }
  where
    values : (u v : ℕ) → u < suc n → v < k.vars → get_or mem'' (k.props + length k.moves + (k.vars * u + v)) (pos 0) ≡ encode ((layer_at k s u).val v)
    values u v h hv =
        f.kept (k.props + length k.moves + (k.vars * u + v)) (omega arith)
        ∙ below_suc u n h
        (λ before. held.value u v before hv)
        (λ last.
        subst (λ (w : ℕ). get_or mem' (k.props + length k.moves + (k.vars * w + v)) (pos 0) ≡ encode ((layer_at k s w).val v)) (sym last)
        (ap (λ (x : ℕ). get_or mem' x (pos 0)) (omega arith) ∙ held.kept (size k s n + v) (omega arith) ∙ r.value v hv))

-- ---- the moves' entries as a promise

-- the moves used by the step from layer t are noted
pub record NotesMoves (props moves t : ℕ) (used : List Bool) (mem mem' : List ℤ) : Type 0 where
  pub is :
      (k : Task) (s : State) (n : ℕ) (old : List ℤ)
      → props ≡ k.props
      → moves ≡ length k.moves
      → Truths (length k.moves) used (λ b. usable (layer_at k s t) (move_at k b))
      → Holds k s n t old mem
      → Holds k s n (suc t) old mem'

pub notes_moves :
    (props moves t : ℕ) (used : List Bool) (mem part : List ℤ)
    → props + moves ≤ length mem
    → Filled (pos 0) (noted_at (mid_of props (length mem - props) mem) used t) moves (mid_of props (length mem - props) mem) part
    → NotesMoves props moves t used mem (put_mid props (length mem - props) mem part)
notes_moves props moves t used mem part room f =
    record {
      is =
          λ k s n old e g u held.
          let at = filled_behind (noted_at (mid_of props (length mem - props) mem) used t) props moves mem part room f in
          holds_moves held u
          (subst (λ (a : ℕ). FilledAt (noted_at (mid_of a (length mem - a) mem) used t) a (length k.moves) mem (put_mid props (length mem - props) mem part)) e
          (subst (λ (m : ℕ). FilledAt (noted_at (mid_of props (length mem - props) mem) used t) props m mem (put_mid props (length mem - props) mem part)) g at))
          (omega (arith, e, g));
    }
