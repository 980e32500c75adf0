-- A task without its terms of weight 0: it meets every check that the task meets, has the same edges, real moves do the same, the same
-- lists solve it, and it has the same normal form; and back again, terms of weight 0 put into a task. Assumes nothing.
use Rattle.std.specs.Prelude.{ℕ, zero, suc, ◌*◌, ◌<◌, ◌≡◌, ◌↔◌, Bool, true, false, not, T, ℤ, pos, neg_ℤ, ◌+ℤ◌, ◌-ℤ◌, length}
use Rattle.std.proofs.Common.{arith, sym, ◌∙◌, subst}
use Rattle.std.proofs.Math.Path.{refl, ap, ap₂, transport}
use Rattle.std.proofs.Math.Bool.{◌&&◌, ◌||◌}
use mathlib.Core.List.{List, [], ◌∷◌, ◌++◌, map}
use Rattle.std.proofs.Math.Option.{some}
use Rattle.std.proofs.Math.Dec.{eqb}
use Rattle.std.proofs.lemmas.List.{length-map}
use Rattle.std.proofs.Math.ListN.{get_or-map}
use Rattle.model.specs.Limits.{Limits}
use Rattle.model.specs.Lists.{all, any, any_below}
use Rattle.model.specs.Task.{Form, normal, Term, kept, Comparison, at_least, above, at_most, below, equal, Condition, Kind, assign, increase, decrease, Effect, Item, need, add, delete, condition, effect, Block, Task, terms_of, is_add, is_delete, adds, deletes, effect_on, clashes}
use Rattle.model.specs.Move.{State, compares, holds, applicable, value, changed, changed_by, real, move_at, Solves}
use Rattle.model.specs.NormalForm.{negated, signed_term, signed_sum, least, normal_condition, mirrored, normal_effect, normal_item, normal_block, normal_task}
use Rattle.model.specs.Circle.{is_assign, item_edge, edge, walk_to, circular}
use Rattle.model.specs.Command.{task_bytes}
use Rattle.model.specs.Calls.{normal_bytes}
use Rattle.model.specs.Theorems.Reading.WellFormed.{All, TermOk, SumOk, ItemOk, Once, BlockOk, GoalItem, TaskOk}
use Rattle.model.proofs.Theorems.Reading.Kept.{kept_again, kept_all, kept_length, kept_rising, kept_negated, kept_sum}
use Rattle.model.proofs.Theorems.NormalForm.Blocks.{All-of-map}
use Rattle.model.specs.Theorems.NormalForm.ZeroTerms.{block_without, item_without, without_zero}

-- ---- the normal form: "the normal form drops it"
-- sums of which the same is kept
record Alike (ts us : List Term) : Type 0 where
  same : kept ts ≡ kept us

alike_negated : {ts us : List Term} → Alike ts us → Alike (negated ts) (negated us)
alike_negated {ts} {us} e = record { same = kept_negated ts ∙ ap negated e.same ∙ sym (kept_negated us) }

alike_signed : {ts us : List Term} → Alike ts us → signed_sum ts ≡ signed_sum us
unfolding signed_sum
alike_signed e = ap (map signed_term) e.same

alike_least : {ts us : List Term} → Alike ts us → (c : ℤ) → least ts c ≡ least us c
unfolding least
alike_least e c = ap (λ (l : List Term). condition (record { terms = l; comparison = at_least; bound = c })) (alike_signed e)

alike_condition : {ts us : List Term} → Alike ts us → (o : Comparison) (c : ℤ) → normal_condition o ts c ≡ normal_condition o us c
unfolding normal_condition
alike_condition e at_least c = ap (λ (i : Item). i ∷ []) (alike_least e c)
alike_condition e above c = ap (λ (i : Item). i ∷ []) (alike_least e (c +ℤ pos 1))
alike_condition e at_most c = ap (λ (i : Item). i ∷ []) (alike_least (alike_negated e) (neg_ℤ c))
alike_condition e below c = ap (λ (i : Item). i ∷ []) (alike_least (alike_negated e) (pos 1 -ℤ c))
alike_condition e equal c = ap₂ (λ (i j : Item). i ∷ j ∷ []) (alike_least e c) (alike_least (alike_negated e) (neg_ℤ c))

alike_mirrored : {ts us : List Term} → Alike ts us → (k : Kind) (v : ℕ) (c : ℤ) → mirrored k v ts c ≡ mirrored k v us c
unfolding mirrored
alike_mirrored e k v c = rw (alike_signed e, alike_signed (alike_negated e)) refl

alike_effect : {ts us : List Term} → Alike ts us → (k : Kind) (v : ℕ) (c : ℤ) → normal_effect k v ts c ≡ normal_effect k v us c
unfolding normal_effect
alike_effect e assign v c = alike_mirrored e assign v c
alike_effect e increase v c = alike_mirrored e increase v c
alike_effect e decrease v c = alike_mirrored (alike_negated e) increase v (neg_ℤ c)

kept_alike : (ts : List Term) → Alike (kept ts) ts
kept_alike ts = record { same = kept_again ts }

normal_item_lem : (i : Item) → normal_item (item_without i) ≡ normal_item i
unfolding normal_item item_without
normal_item_lem (need p) = refl
normal_item_lem (add p) = refl
normal_item_lem (delete p) = refl
normal_item_lem (condition c) = alike_condition (kept_alike c.terms) c.comparison c.bound
normal_item_lem (effect e) = alike_effect (kept_alike e.terms) e.kind e.var e.base

normal_block_lem : (b : Block) → normal_block (block_without b) ≡ normal_block b
unfolding normal_block block_without
normal_block_lem [] = refl
normal_block_lem (i ∷ b) = ap₂ ◌++◌ (normal_item_lem i) (normal_block_lem b)

normal_blocks : (bs : List Block) → map normal_block (map block_without bs) ≡ map normal_block bs
normal_blocks [] = refl
normal_blocks (b ∷ bs) = ap₂ (λ (c : Block) (cs : List Block). c ∷ cs) (normal_block_lem b) (normal_blocks bs)

pub without_normal : (k : Task) → normal_task (without_zero k) ≡ normal_task k
unfolding normal_task without_zero
without_normal k =
    λ i.
    record {
      props = k.props;
      vars = 2 * k.vars;
      moves = normal_blocks k.moves i;
      goal = normal_block_lem k.goal i;
    }

-- byte for byte
pub without_normal_bytes : (k : Task) → normal_bytes (without_zero k) ≡ normal_bytes k
unfolding normal_bytes
without_normal_bytes k = ap (task_bytes normal) (without_normal k)

-- ---- tests of a block's items
-- a test that a condition and an effect pass with and without their terms of weight 0
module _
    (f : Item → Bool)
    (same-condition : (c : Condition) → f (item_without (condition c)) ≡ f (condition c))
    (same_effect : (e : Effect) → f (item_without (effect e)) ≡ f (effect e)) where
  item_test : (i : Item) → f (item_without i) ≡ f i
  unfolding item_without
  item_test (need p) = refl
  item_test (add p) = refl
  item_test (delete p) = refl
  item_test (condition c) = same-condition c
  item_test (effect e) = same_effect e

  any_without : (b : Block) → any f (block_without b) ≡ any f b
  unfolding any block_without
  any_without [] = refl
  any_without (i ∷ b) = ap₂ ◌||◌ (item_test i) (any_without b)

  all_without : (b : Block) → all f (block_without b) ≡ all f b
  unfolding all block_without
  all_without [] = refl
  all_without (i ∷ b) = ap₂ ◌&&◌ (item_test i) (all_without b)

-- ---- edges: "It makes no := edge"
module _ (u v : ℕ) where
  block_edge : (b : Block) → any (item_edge u v) (block_without b) ≡ any (item_edge u v) b
  unfolding item_edge item_without
  block_edge b =
      any_without (item_edge u v) (λ c. refl)
      (λ e. ap (λ (ts : List Term). is_assign e.kind && eqb e.var v && any (λ t. eqb t.var u) ts) (kept_again e.terms))
      b

  blocks_edge : (bs : List Block) → any (λ m. any (item_edge u v) m) (map block_without bs) ≡ any (λ m. any (item_edge u v) m) bs
  unfolding any
  blocks_edge [] = refl
  blocks_edge (b ∷ bs) = ap₂ ◌||◌ (block_edge b) (blocks_edge bs)

  pub without_edge : (k : Task) → edge (without_zero k) u v ≡ edge k u v
  unfolding edge without_zero
  without_edge k = blocks_edge k.moves

without_walk : (k : Task) (n v : ℕ) → walk_to (without_zero k) n v ≡ walk_to k n v
unfolding walk_to without_zero
without_walk k zero v = refl
without_walk k (suc n) v =
    λ i. any_below (λ u. elim (without_edge u v k i) [ true ↦ without_walk k n u i | false ↦ false ]) k.vars

pub without_circular : (k : Task) → circular (without_zero k) ≡ circular k
unfolding circular without_zero
without_circular k = λ i. any_below (λ v. without_walk k k.vars v i) k.vars

-- ---- real moves: "a real step passes over it"
pub without_applicable : (s : State) (b : Block) → applicable s (block_without b) ≡ applicable s b
unfolding applicable holds item_without
without_applicable s b =
    all_without (holds s) (λ c. ap (λ (z : ℤ). compares c.comparison z c.bound) (kept_sum s.val c.terms)) (λ e. refl) b

without_adds : (p : ℕ) (b : Block) → adds p (block_without b) ≡ adds p b
unfolding adds is_add item_without
without_adds p b = any_without (is_add p) (λ c. refl) (λ e. refl) b

without_deletes : (p : ℕ) (b : Block) → deletes p (block_without b) ≡ deletes p b
unfolding deletes is_delete item_without
without_deletes p b = any_without (is_delete p) (λ c. refl) (λ e. refl) b

without_change : (s : State) (v : ℕ) (b : Block) → changed_by s v (effect_on v (block_without b)) ≡ changed_by s v (effect_on v b)
unfolding effect_on changed_by value block_without item_without
without_change s v [] = refl
without_change s v (need p ∷ b) = without_change s v b
without_change s v (add p ∷ b) = without_change s v b
without_change s v (delete p ∷ b) = without_change s v b
without_change s v (condition c ∷ b) = without_change s v b
without_change s v (effect e ∷ b) = either (eqb e.var v) (without_change s v b)
  where
    less : Effect
    less = record { kind = e.kind; var = e.var; terms = kept e.terms; base = e.base }

    either :
        (on_v : Bool)
        → changed_by s v (effect_on v (block_without b)) ≡ changed_by s v (effect_on v b)
        → changed_by s v (elim on_v [ true ↦ some less | false ↦ effect_on v (block_without b) ])
        ≡ changed_by s v (elim on_v [ true ↦ some e | false ↦ effect_on v b ])
    either true later = ap (λ (z : ℤ). changed e.kind (s.val v) (z +ℤ e.base)) (kept_sum s.val e.terms)
    either false later = later

pub without_real : (b : Block) (s : State) → real (block_without b) s ≡ real b s
unfolding real
without_real b s =
    λ i.
    record {
      has = λ p. without_adds p b i || (s.has p && not (without_deletes p b i));
      val = λ v. without_change s v b i;
    }

without_move : (k : Task) (b : ℕ) → move_at (without_zero k) b ≡ block_without (move_at k b)
unfolding move_at without_zero block_without
without_move k b = get_or-map block_without k.moves b []

pub without_moves : (k : Task) → length (without_zero k).moves ≡ length k.moves
unfolding without_zero
without_moves k = length-map k.moves block_without

pub move_applicable : (k : Task) (b : ℕ) (s : State) → applicable s (move_at (without_zero k) b) ≡ applicable s (move_at k b)
move_applicable k b s = ap (applicable s) (without_move k b) ∙ without_applicable s (move_at k b)

pub after_move : (k : Task) (b : ℕ) (s : State) → real (move_at (without_zero k) b) s ≡ real (move_at k b) s
after_move k b s = ap (λ (m : Block). real m s) (without_move k b) ∙ without_real (move_at k b) s

same_solutions : (k : Task) (bs : List ℕ) (s : State) → Solves real (without_zero k) s bs ≡ Solves real k s bs
unfolding without_zero
same_solutions k [] s = ap T (without_applicable s k.goal)
same_solutions k (b ∷ bs) s =
    λ i.
    (b < without_moves k i)
    × T (move_applicable k b s i)
    × (ap (λ (x : State). Solves real (without_zero k) x bs) (after_move k b s) ∙ same_solutions k bs (real (move_at k b) s)) i

-- a list solves the task exactly when it solves the task without its terms of weight 0
pub without_solves : (k : Task) (bs : List ℕ) (s : State) → Solves real (without_zero k) s bs ↔ Solves real k s bs
without_solves k bs s = (transport (same_solutions k bs s), transport (sym (same_solutions k bs s)))

-- ---- checks
module _ (L : Limits) (f : Form) (vars : ℕ) where
  sum_ok : (ts : List Term) → SumOk L f vars ts → SumOk L f vars (kept ts)
  sum_ok ts ok =
      record {
        terms = kept_all (TermOk L f vars) ts ok.terms;
        few = omega (arith, kept_length ts, ok.few);
        rising = kept_rising ts ok.rising;
      }

  item_ok : (props : ℕ) (i : Item) → ItemOk L f props vars i → ItemOk L f props vars (item_without i)
  unfolding item_without
  item_ok props (need p) ok = ok
  item_ok props (add p) ok = ok
  item_ok props (delete p) ok = ok
  item_ok props (condition c) ok =
      record { sum = sum_ok c.terms ok.sum; comparison = ok.comparison; bound = ok.bound }
  item_ok props (effect e) ok =
      record { var = ok.var; kind = ok.kind; sum = sum_ok e.terms ok.sum; base = ok.base }

item_clashes : (i : Item) (b : Block) → any (clashes (item_without i)) (block_without b) ≡ any (clashes i) b
unfolding clashes item_without
item_clashes (need p) b = any_without (clashes (need p)) (λ c. refl) (λ e. refl) b
item_clashes (add p) b = any_without (clashes (add p)) (λ c. refl) (λ e. refl) b
item_clashes (delete p) b = any_without (clashes (delete p)) (λ c. refl) (λ e. refl) b
item_clashes (condition c) b = any_without (clashes (condition c)) (λ d. refl) (λ e. refl) b
item_clashes (effect e) b = any_without (clashes (effect e)) (λ c. refl) (λ f. refl) b

block_once : (b : Block) → Once b → Once (block_without b)
unfolding block_without
block_once [] once = tt
block_once (i ∷ b) once = (subst (λ (x : Bool). T (not x)) (sym (item_clashes i b)) once.0, block_once b once.1)

pub goal_item : (i : Item) → GoalItem i → GoalItem (item_without i)
unfolding item_without
goal_item (need p) g = g
goal_item (add p) g = g
goal_item (delete p) g = g
goal_item (condition c) g = g
goal_item (effect e) g = g

-- the task meets every check that it met
pub without_ok : {L : Limits} {f : Form} (k : Task) → TaskOk L f k → TaskOk L f (without_zero k)
unfolding without_zero block_without
without_ok {L} {f} k ok =
    record {
      props = ok.props;
      vars = ok.vars;
      moves = omega (arith, without_moves k, ok.moves);
      blocks = All-of-map (BlockOk L f k.props k.vars) block_without k.moves block_ok ok.blocks;
      goal = block_ok k.goal ok.goal;
      goal_items = All-of-map GoalItem item_without k.goal goal_item ok.goal_items;
      no_circle = without_circular k ∙ ok.no_circle;
    }
  where
    block_ok : (b : Block) → BlockOk L f k.props k.vars b → BlockOk L f k.props k.vars (block_without b)
    block_ok b h =
        record {
          items = All-of-map (ItemOk L f k.props k.vars) item_without b (item_ok L f k.vars k.props) h.items;
          once = block_once b h.once;
        }

-- ---- terms of weight 0 put in
module _ (L : Limits) (f : Form) (vars : ℕ) where
  -- "It still counts among the eight and keeps the rising order": of each sum all terms count
  abbrev pub SumsOk : Block → Type 0
  SumsOk b = All (λ (i : Item). SumOk L f vars (terms_of i)) b

  item_filled : (props : ℕ) (i : Item) → ItemOk L f props vars (item_without i) → SumOk L f vars (terms_of i) → ItemOk L f props vars i
  unfolding item_without terms_of
  item_filled props (need p) ok sum = ok
  item_filled props (add p) ok sum = ok
  item_filled props (delete p) ok sum = ok
  item_filled props (condition c) ok sum = record { sum = sum; comparison = ok.comparison; bound = ok.bound }
  item_filled props (effect e) ok sum = record { var = ok.var; kind = ok.kind; sum = sum; base = ok.base }

  block_filled : (props : ℕ) (b : Block) → BlockOk L f props vars (block_without b) → SumsOk b → BlockOk L f props vars b
  unfolding block_without
  block_filled props b ok sums = record { items = items b ok.items sums; once = once b ok.once }
    where
      items : (b : Block) → All (ItemOk L f props vars) (map item_without b) → SumsOk b → All (ItemOk L f props vars) b
      items [] h s = tt
      items (i ∷ b) h s = (item_filled props i h.0 s.0, items b h.1 s.1)

      once : (b : Block) → Once (map item_without b) → Once b
      once [] h = tt
      once (i ∷ b) h = (subst (λ (x : Bool). T (not x)) (item_clashes i b) h.0, once b h.1)

  blocks_filled : (props : ℕ) (bs : List Block) → All (BlockOk L f props vars) (map block_without bs) → All SumsOk bs → All (BlockOk L f props vars) bs
  blocks_filled props [] ok sums = tt
  blocks_filled props (b ∷ bs) ok sums = (block_filled props b ok.0 sums.0, blocks_filled props bs ok.1 sums.1)

goal_filled : (b : Block) → All GoalItem (block_without b) → All GoalItem b
unfolding block_without item_without
goal_filled [] g = tt
goal_filled (need p ∷ b) g = (tt, goal_filled b g.1)
goal_filled (add p ∷ b) g = absurd g.0
goal_filled (delete p ∷ b) g = absurd g.0
goal_filled (condition c ∷ b) g = (tt, goal_filled b g.1)
goal_filled (effect e ∷ b) g = absurd g.0

-- a task meets every check where it does so without its terms of weight 0 and its sums do so with them
pub filled_ok :
    {L : Limits} {f : Form} (k : Task)
    → TaskOk L f (without_zero k)
    → All (SumsOk L f k.vars) k.moves
    → SumsOk L f k.vars k.goal
    → TaskOk L f k
unfolding without_zero
filled_ok {L} {f} k ok moves goal =
    record {
      props = ok.props;
      vars = ok.vars;
      moves = omega (arith, without_moves k, ok.moves);
      blocks = blocks_filled L f k.vars k.props k.moves ok.blocks moves;
      goal = block_filled L f k.vars k.props k.goal ok.goal goal;
      goal_items = goal_filled k.goal ok.goal_items;
      no_circle = sym (without_circular k) ∙ ok.no_circle;
    }
