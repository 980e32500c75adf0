-- The set of helpful moves: gathered from the last move down, from the layers in memory. Assumes nothing.
use Rattle.std.specs.Prelude.{ℕ, zero, suc, ◌+◌, ◌*◌, ◌-◌, ◌^◌, ◌≤◌, ◌<◌, ◌≡◌, refl, Bool, false, cond, ◌&&◌, ℤ, pos, drop}
use Rattle.std.proofs.Math.Nat.{pow-succ', pow-le-pow_right, mul-zero}
use native.Mathlib.Omega.{arith}
use Rattle.std.proofs.Math.Path.{sym, ap, ap₂}
use Rattle.std.proofs.Common.{◌∙◌, drop_of_length-le, drop-cons}
use mathlib.Core.List.{List, []}
use Rattle.std.proofs.Math.ListN.{length, get_or, length-drop}
use Rattle.std.proofs.Math.Seq.{get_or-drop}
use Rattle.model.specs.Lists.{any}
use Rattle.model.specs.Task.{normal, Block, Task}
use Rattle.model.specs.Move.{move_at}
use Rattle.model.specs.Layer.{Layer, usable, layer_at}
use Rattle.model.specs.Plan.{Wants, supports, helpful, set_of}
use Rattle.model.proofs.Theorems.Laws.Sets.{set_small}
use Rattle.block.specs.Parts.{ranges_of}
use Rattle.targets.specs.declared.Targets.{Targets}
use Rattle.targets.specs.Encoding.{Encodes}
use Rattle.block.specs.Sums.{LayerRow}
use Rattle.achievers.specs.Search.{Parts}
use Rattle.taking.specs.Descending.{SmallTargets}
use Rattle.descent.specs.Layers.{Stored}
use Rattle.stored_layer.specs.Stored.{stored_props, stored_moves, stored_room, stored_entries, stored_values}
use Rattle.stored_layer.specs.View.{held_by, held_at, number_at, view_has, view_used}
use Rattle.helpful.specs.Support.{Scene}

-- ---- the moves from b on

-- a table's moves, layer 0 of a memory, and the wants of layer 1
pub record Gatherable (table marks : List ℕ) (wanted : List Bool) (targets layers row : List ℤ) (props moves : ℕ) : Type 0 where
  pub task : Task
  pub over : Layer
  pub wants : Wants
  pub parts : Parts table marks task
  pub many : length task.moves ≡ moves
  pub few : moves ≤ 64
  pub low : props ≤ 120
  pub room : props + moves ≤ length layers
  pub used : (b : ℕ) → b < moves → held_at layers props 0 b ≡ usable over (move_at task b)
  pub scene : Scene (ranges_of normal task) wanted targets layers row (over, wants)

module _ {table marks : List ℕ} {wanted : List Bool} {targets layers row : List ℤ} {props moves : ℕ} (x : Gatherable table marks wanted targets layers row props moves) where
  -- is the move helpful
  abbrev pub helpful_in : Block → Bool
  helpful_in = helpful x.over x.wants

  -- the set of the moves from b on
  abbrev pub set_from : ℕ → ℕ
  set_from b = set_of helpful_in (drop b x.task.moves)

  pub set_none : 0 ≡ set_from moves
  unfolding set_of
  set_none = sym (ap (set_of helpful_in) (drop_of_length-le x.task.moves {i = moves} (omega (arith, x.many))))

  pub set_all : (b : ℕ) {set : ℕ} → b ≤ 0 → set ≡ set_from b → set ≡ set_of helpful_in x.task.moves
  set_all zero h e = e
  set_all (suc b) h e = absurd (omega arith)

  -- one move more
  set_more : (b : ℕ) → b < moves → set_from b ≡ cond (helpful_in (move_at x.task b)) 1 0 + 2 * set_from (suc b)
  unfolding set_of move_at
  set_more b h = ap (set_of helpful_in) (drop-cons x.task.moves b [] (omega (arith, x.many)))

  module _ (b : ℕ) {set : ℕ} (h : 0 < b) (le : b ≤ moves) (e : set ≡ set_from b) where
    pub set_fits : 2 * set + 1 < 2 ^ 64
    set_fits =
        let n = length (drop b x.task.moves) in
        let less : suc n ≤ 64 = omega (arith, length-drop b x.task.moves, x.many, x.few) in
        let wide : 2 ^ suc n ≤ 2 ^ 64 = pow-le-pow_right (omega arith) less in
        omega (arith, e, set_small helpful_in (drop b x.task.moves), pow-succ' 2 n)

    pub set_next : (t : Bool) → helpful_in (move_at x.task (b - 1)) ≡ t → cond t 1 0 + 2 * set ≡ set_from (b - 1)
    set_next t is =
        let back : suc (b - 1) ≡ b = omega arith in
        ap (λ (y : ℕ). cond t 1 0 + 2 * y) (e ∙ ap set_from (sym back))
        ∙ ap (λ (u : Bool). cond u 1 0 + 2 * set_from (suc (b - 1))) (sym is)
        ∙ sym (set_more (b - 1) (omega arith))

  module _ {b : ℕ} (lt : b < moves) where
    -- whether a move is helpful, by the two tests
    pub tested :
        {used supporting : Bool} → used ≡ held_at layers props 0 b → supporting ≡ any (supports x.over x.wants) (move_at x.task b)
        → helpful_in (move_at x.task b) ≡ (used && supporting)
    unfolding helpful
    tested e q = ap₂ (λ (u g : Bool). u && g) (sym (x.used b lt) ∙ sym e) (sym q)

    pub unused : {used : Bool} → used ≡ held_at layers props 0 b → used ≡ false → helpful_in (move_at x.task b) ≡ false
    unused e q = tested e refl ∙ ap (λ (u : Bool). u && any (supports x.over x.wants) (move_at x.task b)) q

-- ---- from the layers in memory

-- layers 0 to m of a table's task, m above 0, and the wants of layer 1
pub record LayerOne (table marks : List ℕ) (layers : List ℤ) (props moves : ℕ) (upper : Targets) : Type 0 where
  pub top : ℕ
  pub vars : ℕ
  pub stored : Stored table marks layers props vars moves top
  pub below : 0 < top
  pub wants : Wants
  pub encoded : Encodes stored.task.props stored.task.vars upper wants
  pub small : SmallTargets wants

pub record HelpfulSet {table marks : List ℕ} {layers : List ℤ} {props moves : ℕ} {upper : Targets} (x : LayerOne table marks layers props moves upper) (r : ℕ) : Type 0 where
  pub is : r ≡ set_of (helpful (layer_at x.stored.task x.stored.start 0) x.wants) x.stored.task.moves

module _ {table marks : List ℕ} {layers : List ℤ} {props moves : ℕ} {upper : Targets} (x : LayerOne table marks layers props moves upper) where
  pub one_room : props + moves ≤ length layers
  one_room = stored_entries x.stored.memory

  -- the row behind the entries is layer 0's,
  pub row_values : {row : List ℤ} → row ≡ drop (props + moves) layers → LayerRow x.stored.task.vars row (layer_at x.stored.task x.stored.start 0).val
  unfolding number_at
  row_values {row} e =
      stored_values x.stored.memory {t = 0} (omega arith)
      (omega (arith, ap length e, length-drop (props + moves) layers, stored_room x.stored.memory {t = 0} (omega arith)))
      (λ v i.
      let place : props + moves + v ≡ props + moves + x.vars * 0 + v = omega (arith, mul-zero x.vars) in
      ap (λ (l : List ℤ). get_or l v (pos 0)) e ∙ get_or-drop (props + moves) layers v (pos 0) ∙ ap (λ (j : ℕ). get_or layers j (pos 0)) place)

  -- and the entries before it say what it has
  pub entries_has : (p : ℕ) → p < x.stored.task.props → held_by (get_or layers p (pos 0)) 0 ≡ (layer_at x.stored.task x.stored.start 0).has p
  unfolding held_at
  entries_has p h =
      let place : p ≡ 0 + p = omega arith in
      ap (λ (i : ℕ). held_by (get_or layers i (pos 0)) 0) place ∙ view_has x.stored.memory.ok x.stored.memory.held (omega (arith, x.below)) p h

  abbrev pub layer_gatherable : {row : List ℤ} → row ≡ drop (props + moves) layers → Gatherable table marks upper.props upper.target layers row props moves
  layer_gatherable {row} e =
      record {
        task = x.stored.task;
        over = layer_at x.stored.task x.stored.start 0;
        wants = x.wants;
        parts = x.stored.parts;
        many = x.stored.memory.moves_is;
        few = stored_moves x.stored.memory;
        low = stored_props x.stored.memory;
        room = one_room;
        used =
            λ b h.
            ap (λ (i : ℕ). held_at layers i 0 b) (sym x.stored.memory.props_is)
            ∙ view_used x.stored.memory.ok x.stored.memory.held x.below b (omega (arith, x.stored.memory.moves_is));
        scene =
            record {
              long = omega (arith, one_room, x.stored.memory.props_is);
              has = entries_has;
              values = row_values e;
              wants = x.encoded;
              small = x.small;
            };
      }
