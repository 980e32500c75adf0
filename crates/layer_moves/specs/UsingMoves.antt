-- One step: the next layer from all moves whose conditions hold, move by move.
-- Assumes nothing.
use Rattle.std.specs.Prelude.{ℕ, ◌+◌, ◌≤◌, ◌<◌, ◌≡◌, refl, Bool, true, false, ◌&&◌, ◌||◌, ℤ, length, get_or, set, take}
use Rattle.std.proofs.Common.{add-one, arith, ◌∙◌, subst, length-set, take-suc, take_all, get_or-set_same, get_or-set_other}
use Rattle.std.proofs.Math.Path.{sym, ap}
use Rattle.std.proofs.Math.Bool.{cond}
use mathlib.Core.List.{List, [], ◌∷◌, ◌++◌}
use Rattle.model.specs.Lists.{any}
use Rattle.model.specs.Task.{normal, Block, Task, adds, effect_on}
use Rattle.model.specs.Layer.{Value, Layer, highest, usable, offered, gained, raised, next}
use Rattle.model.specs.Theorems.Reading.WellFormed.{Once}
use Rattle.model.proofs.Theorems.Laws.Searching.{below_suc}
use Rattle.model.specs.Theorems.Layers.Order.{◌⊑◌}
use Rattle.model.proofs.Theorems.Layers.Order.{highest_comm, highest_assoc}
use Rattle.model.proofs.Theorems.Layers.NextLayer.{raised_old, move_ok}
use Rattle.table.specs.Outlines.{part_at, Outline}
use Rattle.reader.specs.Parts.{PartIn, outline_part}
use Rattle.block.specs.Items.{Ranges, Left}
use Rattle.block.specs.Parts.{ranges_of, move_left}
use Rattle.block.specs.Blocks.{LayerState, LayerTestable, IsUsable}
use Rattle.layer_memory.specs.Arrays.{Truths, Values, truths_same, values_same, effect_size}
use Rattle.layer_moves.specs.Raising.{highest_old}
use Rattle.layer_moves.specs.Walking.{Appliable, Applied}

-- ---- one move

or_none : (x : Bool) → x ≡ (x || false)
or_none true = refl
or_none false = refl

-- t says whether the move's conditions hold, in every reading in which they do if the step before used the move
pub record IsUsableAgain (part : List ℕ) (before : Bool) (has : List Bool) (row : List ℤ) (t : Bool) : Type 0 where
  pub is : (k : Ranges) (b : Block) (l : Layer) → Left k part 1 b → LayerState k has row l → (before ≡ true → usable l b ≡ true) → t ≡ usable l b

module _ {part : List ℕ} {before : Bool} {has : List Bool} {row : List ℤ} {t : Bool} where
  pub usable_before : before ≡ true → t ≡ before → IsUsableAgain part before has row t
  usable_before h e = record { is = λ k b l left w again. e ∙ h ∙ sym (again h) }

  pub usable_tested : {r : Bool} → IsUsable part has row r → t ≡ r → IsUsableAgain part before has row t
  usable_tested u e = record { is = λ k b l left w again. e ∙ u.is k b l left w }

-- a move's part, with the next layer so far: what it becomes, and whether the move's conditions hold, in every such reading
pub record TakenIn (part : List ℕ) (before : Bool) (has : List Bool) (row : List ℤ) (flags : List Bool) (values : List ℤ) (flags' : List Bool) (values' : List ℤ) (t : Bool) : Type 0 where
  pub same_flags : length flags' ≡ length flags
  pub same_values : length values' ≡ length values
  pub is :
      (k : Ranges) (b : Block) (l : Layer) (h : ℕ → Bool) (f : ℕ → Value)
      → k.form ≡ normal
      → Left k part 1 b
      → Once b
      → LayerState k has row l
      → (before ≡ true → usable l b ≡ true)
      → Truths k.props flags h
      → Values effect_size k.vars values f
      → ((v : ℕ) → l.val v ⊑ f v)
      → (t ≡ usable l b)
      × Truths k.props flags' (λ p. h p || (usable l b && adds p b))
      × Values effect_size k.vars values' (λ v. highest (f v) (cond (usable l b) (offered l v (effect_on v b)) (l.val v)))

module _ {part : List ℕ} {before : Bool} {has : List Bool} {row : List ℤ} {flags : List Bool} {values : List ℤ} {t : Bool} (u : IsUsableAgain part before has row t) where
  pub taken_usable : {flags' : List Bool} {values' : List ℤ} → t ≡ true → Applied part row flags values flags' values' → TakenIn part before has row flags values flags' values' t
  taken_usable e a =
      record {
        same_flags = a.same_flags;
        same_values = a.same_next;
        is =
            λ k b l h f form left once w again hs vs up.
            let q : t ≡ usable l b = u.is k b l left w again in
            let yes-b : usable l b ≡ true = sym q ∙ e in
            let r = a.is k b l h f form left once w.row hs vs up in (
              q,
              truths_same (λ p i. ap (λ (x : Bool). h p || (x && adds p b)) (sym yes-b)) r.0,
              values_same (λ v i. ap (λ (x : Bool). highest (f v) (cond x (offered l v (effect_on v b)) (l.val v))) (sym yes-b)) r.1,
            );
      }

  pub taken_unusable : t ≡ false → TakenIn part before has row flags values flags values t
  taken_unusable e =
      record {
        same_flags = refl;
        same_values = refl;
        is =
            λ k b l h f form left once w again hs vs up.
            let q : t ≡ usable l b = u.is k b l left w again in
            let no-b : usable l b ≡ false = sym q ∙ e in (
              q,
              truths_same (λ p i. or_none (h p) ∙ ap (λ (x : Bool). h p || (x && adds p b)) (sym no-b)) hs,
              values_same (λ v i. sym (highest_old (up v)) ∙ ap (λ (x : Bool). highest (f v) (cond x (offered l v (effect_on v b)) (l.val v))) (sym no-b)) vs,
            );
      }

-- some block stands behind the part's first byte, over some layer, with room for the next one
pub record Takeable (part : List ℕ) (has : List Bool) (row : List ℤ) (flags : List Bool) (values : List ℤ) : Type 0 where
  pub ranges : Ranges
  pub block : Block
  pub over : Layer
  pub left : Left ranges part 1 block
  pub state : LayerState ranges has row over
  pub flags_room : ranges.props ≤ length flags
  pub values_room : ranges.vars ≤ length values

module _ {part : List ℕ} {has : List Bool} {row : List ℤ} {flags : List Bool} {values : List ℤ} (p : Takeable part has row flags values) where
  pub takeable_testable : LayerTestable part has row
  takeable_testable = record { ranges = p.ranges; block = p.block; over = p.over; left = p.left; row = p.state }

  pub takeable_appliable : Appliable part row flags values
  takeable_appliable =
      record {
        ranges = p.ranges;
        block = p.block;
        over = p.over.val;
        left = p.left;
        row_is = p.state.row;
        flags_room = p.flags_room;
        next_room = p.values_room;
      }

-- ---- all moves

any_snoc : {A : Type 0} (f : A → Bool) (xs : List A) (x : A) → any f (xs ++ (x ∷ [])) ≡ (any f xs || f x)
unfolding any
any_snoc f [] x = go (f x)
  where
    go : (b : Bool) → (b || false) ≡ b
    go true = refl
    go false = refl
any_snoc f (y ∷ ys) x = ap (λ (b : Bool). f y || b) (any_snoc f ys x) ∙ assoc (f y) (any f ys) (f x)
  where
    assoc : (a b c : Bool) → (a || (b || c)) ≡ ((a || b) || c)
    assoc true b c = refl
    assoc false b c = refl

module _ (l : Layer) where
  -- one move more
  pub gained_snoc : (p : ℕ) (ms : List Block) (m : Block) → gained l p (ms ++ (m ∷ [])) ≡ (gained l p ms || (usable l m && adds p m))
  unfolding gained
  gained_snoc p ms m = any_snoc (λ x. usable l x && adds p x) ms m

  pub raised_snoc : (v : ℕ) (ms : List Block) (m : Block) → raised l v (ms ++ (m ∷ [])) ≡ highest (raised l v ms) (cond (usable l m) (offered l v (effect_on v m)) (l.val v))
  unfolding raised
  raised_snoc v [] m = highest_comm (cond (usable l m) (offered l v (effect_on v m)) (l.val v)) (l.val v)
  raised_snoc v (x ∷ ms) m =
      let a = cond (usable l x) (offered l v (effect_on v x)) (l.val v) in
      let b = cond (usable l m) (offered l v (effect_on v m)) (l.val v) in
      ap (highest a) (raised_snoc v ms m) ∙ sym (highest_assoc a (raised l v ms) b)

-- each move marked as used is usable in the layer
pub record UsedIn (k : Task) (l : Layer) (used : List Bool) : Type 0 where
  pub usable_there : (b : ℕ) → b < length k.moves → get_or used b false ≡ true → usable l (get_or k.moves b []) ≡ true

-- the next layer from the first b moves, in the arrays
pub record StepBy (k : Task) (l : Layer) (b : ℕ) (flags : List Bool) (values : List ℤ) (used : List Bool) : Type 0 where
  pub truths : Truths k.props flags (λ p. l.has p || gained l p (take b k.moves))
  pub row : Values effect_size k.vars values (λ v. raised l v (take b k.moves))
  pub uses : (c : ℕ) → c < b → get_or used c false ≡ usable l (get_or k.moves c [])

or_assoc : (a b c : Bool) → ((a || b) || c) ≡ (a || (b || c))
or_assoc true b c = refl
or_assoc false b c = refl

step_next :
    {k : Task} {l : Layer} {b : ℕ} {flags flags' : List Bool} {values values' : List ℤ} {used : List Bool} {t : Bool}
    → StepBy k l b flags values used
    → b < length k.moves
    → b < length used
    → (t ≡ usable l (get_or k.moves b []))
    → Truths k.props flags' (λ p. (l.has p || gained l p (take b k.moves)) || (usable l (get_or k.moves b []) && adds p (get_or k.moves b [])))
    → Values effect_size k.vars values' (λ v. highest (raised l v (take b k.moves)) (cond (usable l (get_or k.moves b [])) (offered l v (effect_on v (get_or k.moves b []))) (l.val v)))
    → StepBy k l (b + 1) flags' values' (set used b t)
step_next {k} {l} {b} {used} {t} s h room e ts vs =
    record {
      truths =
          truths_same
          (λ p i.
          or_assoc (l.has p) (gained l p ms) (usable l m && adds p m)
          ∙ ap (λ (x : Bool). l.has p || x) (sym (ap (gained l p) more ∙ gained_snoc l p ms m)))
          ts;
      row = values_same (λ v i. sym (ap (raised l v) more ∙ raised_snoc l v ms m)) vs;
      uses =
          λ c i.
          below_suc c b (omega arith)
          (λ before. get_or-set_other used b c t false (λ q. omega arith) ∙ s.uses c before)
          (λ q.
          subst (λ (x : ℕ). get_or (set used b t) x false ≡ usable l (get_or k.moves x [])) (sym q)
          (get_or-set_same used b t false room ∙ e));
    }
  where
    ms : List Block
    ms = take b k.moves

    m : Block
    m = get_or k.moves b []

    more : take (b + 1) k.moves ≡ ms ++ (m ∷ [])
    more = ap (λ (n : ℕ). take n k.moves) (add-one b) ∙ take-suc k.moves b [] h

-- what the step needs: a table with its marks, a layer in two arrays, the same two to begin the next one, room for the moves used
pub record MovesReady (table marks : List ℕ) (moves : ℕ) (has : List Bool) (row : List ℤ) (flags : List Bool) (values : List ℤ) (used : List Bool) : Type 0 where
  pub task : Task
  pub over : Layer
  pub outlined : Outline normal table marks task
  pub count : moves ≡ length task.moves
  pub state : LayerState (ranges_of normal task) has row over
  pub flags_room : task.props ≤ length flags
  pub values_room : task.vars ≤ length values
  pub used_room : moves ≤ length used

-- the first b moves are taken in
pub record UsingMoves (table marks : List ℕ) (moves : ℕ) (has : List Bool) (row : List ℤ) (flags : List Bool) (values : List ℤ) (used : List Bool) (b : ℕ) (flags' : List Bool) (values' : List ℤ) (used' : List Bool) : Type 0 where
  pub same_flags : length flags' ≡ length flags
  pub same_values : length values' ≡ length values
  pub same_used : length used' ≡ length used
  pub same_rest : (c : ℕ) → b ≤ c → get_or used' c false ≡ get_or used c false
  pub is :
      (k : Task) (l : Layer)
      → Outline normal table marks k
      → moves ≡ length k.moves
      → LayerState (ranges_of normal k) has row l
      → UsedIn k l used
      → Truths k.props flags l.has
      → Values effect_size k.vars values l.val
      → StepBy k l b flags' values' used'

module _ {table marks : List ℕ} {moves : ℕ} {has : List Bool} {row : List ℤ} {flags : List Bool} {values : List ℤ} {used : List Bool} where
  pub using_start : UsingMoves table marks moves has row flags values used 0 flags values used
  unfolding gained any raised
  using_start =
      record {
        same_flags = refl;
        same_values = refl;
        same_used = refl;
        same_rest = λ c i. refl;
        is =
            λ k l o c w m ts vs.
            record {
              truths = truths_same (λ p i. or_none (l.has p)) ts;
              row = vs;
              uses = λ x i. absurd (omega arith);
            };
      }

  module _ {b : ℕ} {flags' : List Bool} {values' : List ℤ} {used' : List Bool} (s : UsingMoves table marks moves has row flags values used b flags' values' used') where
    pub using_next :
        {part : List ℕ} {flags'' : List Bool} {values'' : List ℤ} {t : Bool}
        → b < moves
        → moves ≤ length used
        → part ≡ part_at table marks b
        → TakenIn part (get_or used' b false) has row flags' values' flags'' values'' t
        → UsingMoves table marks moves has row flags values used (b + 1) flags'' values'' (set used' b t)
    using_next {t} h room e r =
        record {
          same_flags = r.same_flags ∙ s.same_flags;
          same_values = r.same_values ∙ s.same_values;
          same_used = length-set used' b t ∙ s.same_used;
          same_rest = λ c i. get_or-set_other used' b c t false (λ q. omega arith) ∙ s.same_rest c (omega arith);
          is =
              λ k l o c w m ts vs.
              let i : b < length k.moves = omega (arith, c) in
              let p = s.is k l o c w m ts vs in
              let q =
              r.is (ranges_of normal k) (get_or k.moves b []) l (λ x. l.has x || gained l x (take b k.moves)) (λ x. raised l x (take b k.moves))
              refl (subst (λ (x : List ℕ). Left (ranges_of normal k) x 1 (get_or k.moves b [])) (sym e) (move_left o.ok b i (o.move b i))) (move_ok o.ok b i).once w (λ f. m.usable_there b i (sym (s.same_rest b (omega arith)) ∙ f)) p.truths p.row (λ v. raised_old l v (take b k.moves)) in
              step_next p i (omega (arith, s.same_used)) q.0 q.1 q.2;
        }

-- the next layer, and the moves that made it
pub record MovesUsed (table marks : List ℕ) (moves : ℕ) (has : List Bool) (row : List ℤ) (flags : List Bool) (values : List ℤ) (used : List Bool) (flags' : List Bool) (values' : List ℤ) (used' : List Bool) : Type 0 where
  pub same_flags : length flags' ≡ length flags
  pub same_values : length values' ≡ length values
  pub same_used : length used' ≡ length used
  pub is :
      (k : Task) (l : Layer)
      → Outline normal table marks k
      → moves ≡ length k.moves
      → LayerState (ranges_of normal k) has row l
      → UsedIn k l used
      → Truths k.props flags l.has
      → Values effect_size k.vars values l.val
      → Truths k.props flags' (next k.moves l).has
      × Values effect_size k.vars values' (next k.moves l).val
      × Truths (length k.moves) used' (λ b. usable l (get_or k.moves b []))

pub using_end :
    {table marks : List ℕ} {moves : ℕ} {has : List Bool} {row : List ℤ} {flags : List Bool} {values : List ℤ} {used : List Bool}
    {b : ℕ} {flags' : List Bool} {values' : List ℤ} {used' : List Bool}
    → UsingMoves table marks moves has row flags values used b flags' values' used'
    → moves ≤ b
    → moves ≤ length used
    → MovesUsed table marks moves has row flags values used flags' values' used'
unfolding next
using_end {b} {used'} s h room =
    record {
      same_flags = s.same_flags;
      same_values = s.same_values;
      same_used = s.same_used;
      is =
          λ k l o c w m ts vs.
          let p = s.is k l o c w m ts vs in
          let e : take b k.moves ≡ k.moves = take_all b k.moves (omega (arith, c)) in (
            truths_same (λ q i. ap (λ (ms : List Block). l.has q || gained l q ms) e) p.truths,
            values_same (λ v i. ap (raised l v) e) p.row,
            record { long = omega (arith, c, s.same_used); same = λ x i. p.uses x (omega (arith, c)) },
          );
    }

-- what the move at b is taken in with
module _ {table marks : List ℕ} {moves : ℕ} {has : List Bool} {row : List ℤ} {flags : List Bool} {values : List ℤ} {used : List Bool} (p : MovesReady table marks moves has row flags values used) {b : ℕ} (h : b < moves) where
  pub ready_part : PartIn table marks b
  ready_part = outline_part p.outlined b (omega (arith, p.count))

  pub ready_takeable : {part : List ℕ} {flags' : List Bool} {values' : List ℤ} → part ≡ part_at table marks b → length flags' ≡ length flags → length values' ≡ length values → Takeable part has row flags' values'
  ready_takeable {part} e lf lv =
      record {
        ranges = ranges_of normal p.task;
        block = get_or p.task.moves b [];
        over = p.over;
        left =
            let i : b < length p.task.moves = omega (arith, p.count) in
            subst (λ (x : List ℕ). Left (ranges_of normal p.task) x 1 (get_or p.task.moves b [])) (sym e)
            (move_left p.outlined.ok b i (p.outlined.move b i));
        state = p.state;
        flags_room = omega (arith, p.flags_room);
        values_room = omega (arith, p.values_room);
      }
