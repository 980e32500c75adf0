-- A real move, its items one after the other: each effect's value in the state before the move, and the loop. Assumes nothing.
use Rattle.std.specs.Prelude.{ℕ, zero, suc, ◌+◌, ◌*◌, ◌≤◌, ◌<◌, ◌≡◌, refl, Bool, true, false, List, ℤ, pos, nat_abs, ◌+ℤ◌, length, get_or, set, take, drop}
use Rattle.std.proofs.Common.{arith, sym, ap, ap₂, ◌∙◌, length-set}
use Rattle.integer.specs.BigEndian.{signed}
use Rattle.model.specs.Limits.{largest_value}
use Rattle.model.specs.Seen.{kind_of}
use Rattle.model.specs.Task.{Kind, decrease, Effect, Block}
use Rattle.model.specs.Move.{State, value, changed}
use Rattle.model.proofs.Theorems.Printing.Operands.{kind_back}
use Rattle.block.specs.Items.{Ranges, left_end, EffectIs, Found, behind, Moves, Next, next_ahead}
use Rattle.block.specs.declared.ItemAt.{ItemAt}
use Rattle.block.specs.declared.ItemAt.TheVariants.{Need, Add, Delete, Condition as ConditionAt, Effect as EffectAt, End}
use Rattle.block.specs.Sums.{Row, IsValue, value_of}
use Rattle.block.specs.Closing.{Closed, closed_room, closes_effect}
use Rattle.block.specs.Blocks.{effect_value, effect_base, next_is}
use Rattle.block.specs.Streams.{Addable, SumAt, item_by, item_cases, item_add, item_delete, item_effect, sum_item}
use Rattle.real_move.specs.Running.{Runs, Runnable, Ran, Running, running_start, running_need, running_add, running_delete, running_condition, running_effect, running_end}

-- ---- one effect's value

-- any other number than 0 and 1 is −=
pub kind_rest : (n : ℕ) → (n ≡ 0 → ⊥) → (n ≡ 1 → ⊥) → kind_of n ≡ decrease
unfolding kind_of
kind_rest zero h g = absurd (h refl)
kind_rest (suc zero) h g = absurd (g refl)
kind_rest (suc (suc n)) h g = refl

-- an effect of this kind on v stands there, over a state
pub record EffectOver (k : Ranges) (part : List ℕ) (kd v : ℕ) (z : ℤ) (from n : ℕ) (values : List ℤ) (s : State) (e : Effect) : Type 0 where
  pub is : EffectIs k part kd z from n e
  pub var : e.var ≡ v
  pub reads : Row k.vars values s.val

-- r is what the effect makes of v, in every reading
pub record IsResult (part : List ℕ) (kd v : ℕ) (z : ℤ) (from n : ℕ) (values : List ℤ) (r : ℤ) : Type 0 where
  pub is : (k : Ranges) (s : State) (e : Effect) → EffectOver k part kd v z from n values s e → r ≡ changed e.kind (s.val v) (value s e)

module _ {k : Ranges} {part : List ℕ} {kd v : ℕ} {z : ℤ} {from n : ℕ} {values : List ℤ} {s : State} {e : Effect} (g : EffectOver k part kd v z from n values s e) where
  over_small : v < k.vars
  over_small = omega (arith, g.var, g.is.ok.var)

  pub over_room : v < length values
  over_room = omega (arith, over_small, g.reads.long)

  over_value : get_or values v (pos 0) ≡ s.val v
  over_value = g.reads.same v over_small

  pub over_size : nat_abs (get_or values v (pos 0)) ≤ largest_value
  over_size = rw over_value (g.reads.size v over_small)

  pub over_result :
      {y : ℤ}
      → IsValue part from n z values y
      → changed (kind_of kd) (get_or values v (pos 0)) y ≡ changed e.kind (s.val v) (value s e)
  over_result {y} q =
      ap (λ (x : Kind). changed x (get_or values v (pos 0)) y) (ap kind_of (sym g.is.kind) ∙ kind_back e.kind)
      ∙ ap₂ (changed e.kind) over_value (effect_value s g.reads g.is q)

-- ---- the loop

pub record Going (part : List ℕ) (values : List ℤ) (has₀ : List Bool) (next₀ : List ℤ) (at : ℕ) (has : List Bool) (next : List ℤ) : Type 0 where
  pub within : at ≤ length part
  pub same_has : length has ≡ length has₀
  pub same_next : length next ≡ length next₀
  pub is : (k : Ranges) (b : Block) (s : State) → Runs part values has₀ next₀ k b s → Running k part b s at has next

-- no addition, deletion or effect
abbrev pub Idle : ItemAt → Type 0
Idle (Need p after) = Unit {0}
Idle (Add p after) = ⊥
Idle (Delete p after) = ⊥
Idle (ConditionAt o z from n after) = Unit {0}
Idle (EffectAt kd v z from n after) = ⊥
Idle End = Unit {0}

pub going_start : {part : List ℕ} {values : List ℤ} {has : List Bool} {next : List ℤ} → 1 ≤ length part → Going part values has next 1 has next
going_start h = record { within = h; same_has = refl; same_next = refl; is = λ k b s r. running_start r }

module _ {part : List ℕ} {values : List ℤ} {has₀ : List Bool} {next₀ : List ℤ} {at : ℕ} {has : List Bool} {next : List ℤ} (g : Going part values has₀ next₀ at has next) where
  -- the item that comes next, in a reading
  found : {i : ItemAt} → Next part at i → {k : Ranges} {b : Block} {s : State} (r : Runs part values has₀ next₀ k b s) → Found k part (g.is k b s r).rest i
  found n {k} {b} {s} r = let w = g.is k b s r in n.found k w.rest w.left

  pub going_add : {p after : ℕ} → Next part at (Add p after) → Going part values has₀ next₀ after (set has p true) next
  going_add {p} n =
      record {
        within = n.moves.1;
        same_has = length-set has p true ∙ g.same_has;
        same_next = g.same_next;
        is = λ k b s r. running_add (g.is k b s r) (found n r);
      }

  pub going_delete : {p after : ℕ} → Next part at (Delete p after) → Going part values has₀ next₀ after (set has p false) next
  going_delete {p} n =
      record {
        within = n.moves.1;
        same_has = length-set has p false ∙ g.same_has;
        same_next = g.same_next;
        is = λ k b s r. running_delete (g.is k b s r) (found n r);
      }

  -- an item that changes nothing
  pub going_pass : at < length part → {x : ItemAt} → Next part at x → Idle x → Going part values has₀ next₀ (behind x) has next
  unfolding behind
  going_pass h {x} n idle =
      record {
        within = (next_ahead h n).1;
        same_has = g.same_has;
        same_next = g.same_next;
        is = λ k b s r. go x n.moves idle (g.is k b s r) (found n r);
      }
    where
      go :
          (y : ItemAt)
          → Moves at (length part) y
          → Idle y
          → {k : Ranges} {b : Block} {s : State} (w : Running k part b s at has next)
          → Found k part w.rest y
          → Running k part b s (behind y) has next
      go (Need p after) m i w f = running_need w f
      go (Add p after) m i w f = absurd i
      go (Delete p after) m i w f = absurd i
      go (ConditionAt o z from l after) m i w f = running_condition w f
      go (EffectAt kd v z from l after) m i w f = absurd i
      go End m i w f = absurd (omega arith)

  -- an effect, over the state before the move
  going_over :
      {kd v : ℕ} {z : ℤ} {from m after : ℕ} (n : Next part at (EffectAt kd v z from m after)) {k : Ranges} {b : Block} {s : State}
      (r : Runs part values has₀ next₀ k b s)
      → EffectOver k part kd v z from m values s (found n r).it
  going_over n r = record { is = (found n r).is; var = (found n r).var; reads = r.row }

  pub going_effect :
      {kd v : ℕ} {z : ℤ} {from m after : ℕ} {x : ℤ}
      → Next part at (EffectAt kd v z from m after)
      → IsResult part kd v z from m values x
      → Going part values has₀ next₀ after has (set next v x)
  going_effect {v} {x} n q =
      record {
        within = n.moves.1;
        same_has = g.same_has;
        same_next = length-set next v x ∙ g.same_next;
        is = λ k b s r. running_effect (g.is k b s r) (found n r) (q.is k s (found n r).it (going_over n r));
      }

  pub going_end : length part ≤ at → Ran part values has₀ next₀ has next
  going_end h = record { is = λ k b s r. let w = g.is k b s r in running_end w (left_end h w.left) }

  -- what the caller's reading gives
  module _ (o : Runnable part values has₀ next₀) where
    pub going_add_room : {p after : ℕ} → Next part at (Add p after) → p < length has
    going_add_room n =
        let w = g.is o.ranges o.block o.over o.runs in
        omega (arith, (found n o.runs).ok, w.long_has)

    pub going_delete_room : {p after : ℕ} → Next part at (Delete p after) → p < length has
    going_delete_room n =
        let w = g.is o.ranges o.block o.over o.runs in
        omega (arith, (found n o.runs).ok, w.long_has)

    pub going_base : {kd v : ℕ} {z : ℤ} {from m after : ℕ} → Next part at (EffectAt kd v z from m after) → nat_abs z ≤ 1_000_000
    going_base n = effect_base (found n o.runs).is

    pub going_effect_room : {kd v : ℕ} {z : ℤ} {from m after : ℕ} → Next part at (EffectAt kd v z from m after) → v < length next
    going_effect_room n =
        let w = g.is o.ranges o.block o.over o.runs in
        omega (arith, (found n o.runs).followed.ok.var, (found n o.runs).var, w.long_next)

    -- the items that are left
    pub going_addable : at < length part → Addable part at values
    going_addable h =
        let w = g.is o.ranges o.block o.over o.runs in
        record { inside = h; ranges = o.ranges; rest = w.rest; left = w.left; val = o.over.val; row = o.runs.row }

    pub going_value_room : {kd v : ℕ} {z : ℤ} {from m after : ℕ} → Next part at (EffectAt kd v z from m after) → v < length values
    going_value_room n = over_room (going_over n o.runs)

    pub going_value_size : {kd v : ℕ} {z : ℤ} {from m after : ℕ} → Next part at (EffectAt kd v z from m after) → nat_abs (get_or values v (pos 0)) ≤ largest_value
    going_value_size n = over_size (going_over n o.runs)

-- ---- one command

-- the n terms of an item are added up, and the items before it are taken in
pub record Takable (part : List ℕ) (from n : ℕ) (total : ℤ) (values : List ℤ) (has : List Bool) (next : List ℤ) : Type 0 where
  pub inside : from < length part
  pub sum : SumAt part from values n total
  pub has₀ : List Bool
  pub next₀ : List ℤ
  pub going : Going part values has₀ next₀ from has next
  pub runnable : Runnable part values has₀ next₀

-- it is taken in too
pub record Taken (part : List ℕ) (from n : ℕ) (total : ℤ) (values : List ℤ) (has : List Bool) (next : List ℤ) (has' : List Bool) (next' : List ℤ) (r : ℕ) : Type 0 where
  pub is :
      from < length part
      → SumAt part from values n total
      → (has₀ : List Bool) (next₀ : List ℤ)
      → Going part values has₀ next₀ from has next
      → Runnable part values has₀ next₀
      → (r ≡ behind (item_by part from n)) × Going part values has₀ next₀ r has' next'

module _ {part : List ℕ} {from n : ℕ} {total : ℤ} {values : List ℤ} where
  -- what the item is, in the caller's reading
  took :
      from < length part
      → SumAt part from values n total
      → {has₀ : List Bool} {next₀ : List ℤ} {has : List Bool} {next : List ℤ}
      → Going part values has₀ next₀ from has next
      → Runnable part values has₀ next₀
      → {x : ItemAt}
      → item_by part from n ≡ x
      → Next part from x
  took h s g o e = next_is (sum_item (going_addable g o h) s) e

  module _ {has : List Bool} {next : List ℤ} (t : Takable part from n total values has next) where
    pub taken_item : {x : ItemAt} → item_by part from n ≡ x → Next part from x
    taken_item e = took t.inside t.sum t.going t.runnable e

    pub taken_room : from + 4 * n < length part
    taken_room =
        let a = going_addable t.going t.runnable t.inside in
        closed_room (t.sum.closed a.ranges a.rest a.left)

  module _ (has : List Bool) (next : List ℤ) where
    pub taken_add : {p : ℕ} → get_or part (from + 4 * n) 0 ≡ 0x2B → p ≡ get_or part (from + 4 * n + 1) 0 → Taken part from n total values has next (set has p true) next (from + 4 * n + 2)
    unfolding behind
    taken_add {p} e q =
        record {
          is = λ h s has₀ next₀ g o.
              let x = item_add part from n e in
              (sym (ap behind x), rw q (going_add g (took h s g o x)));
        }

    pub taken_delete : {p : ℕ} → get_or part (from + 4 * n) 0 ≡ 0x2D → p ≡ get_or part (from + 4 * n + 1) 0 → Taken part from n total values has next (set has p false) next (from + 4 * n + 2)
    unfolding behind
    taken_delete {p} e q =
        record {
          is = λ h s has₀ next₀ g o.
              let x = item_delete part from n e in
              (sym (ap behind x), rw q (going_delete g (took h s g o x)));
        }

    -- an effect's result, from the sum and the constant
    pub taken_effect :
        {kd v : ℕ} {z y r : ℤ}
        → get_or part (from + 4 * n) 0 ≡ 0x46
        → kd ≡ get_or part (from + 4 * n + 1) 0
        → v ≡ get_or part (from + 4 * n + 2) 0
        → z ≡ signed (take 4 (drop (from + 4 * n + 3) part))
        → y ≡ total +ℤ z
        → nat_abs y ≤ 8_000_000_001_000_000
        → r ≡ changed (kind_of kd) (get_or values v (pos 0)) y
        → Taken part from n total values has next has (set next v r) (from + 4 * n + 7)
    unfolding behind
    taken_effect {kd} {v} {z} {y} {r} e ek ev ez ey small is =
        record {
          is = λ h s has₀ next₀ g o.
              let x : item_by part from n ≡ EffectAt kd v z from n (from + 4 * n + 7) = rw (ek, ev, ez) (item_effect part from n e) in
              (sym (ap behind x), going_effect g (took h s g o x) (record { is = λ k st f w. is ∙ over_result w (value_of s.sum ey small) }));
        }

    -- a condition changes nothing
    idle_passed :
        {r : ℕ}
        → ((k : Ranges) (rest : Block) → Closed k part from n rest → (Idle (item_by part from n)) × (r ≡ behind (item_by part from n)))
        → Taken part from n total values has next has next r
    idle_passed {r} f =
        record {
          is = λ h s has₀ next₀ g o.
              let a = going_addable g o h in
              let q = f a.ranges a.rest (s.closed a.ranges a.rest a.left) in
              (q.1, rw q.1 (going_pass g h (took h s g o refl) q.0));
        }

    pub taken_condition : get_or part (from + 4 * n) 0 ≡ 0x43 → Taken part from n total values has next has next (from + 4 * n + 6)
    unfolding behind
    taken_condition e =
        idle_passed
        (λ k rest closed.
        item_cases part from n (λ x. Idle x × (from + 4 * n + 6 ≡ behind x))
        (λ f. absurd (omega (arith, e, f)))
        (λ f. absurd (omega (arith, e, f)))
        (λ f. absurd (omega (arith, e, f)))
        (λ f. (tt, refl))
        (λ c1 c2 c3 c4. absurd (c4 e)))

    pub taken_need :
        (get_or part (from + 4 * n) 0 ≡ 0x2B → ⊥)
        → (get_or part (from + 4 * n) 0 ≡ 0x2D → ⊥)
        → (get_or part (from + 4 * n) 0 ≡ 0x46 → ⊥)
        → (get_or part (from + 4 * n) 0 ≡ 0x43 → ⊥)
        → Taken part from n total values has next has next (from + 4 * n + 2)
    unfolding behind
    taken_need h1 h2 h3 h4 =
        idle_passed
        (λ k rest closed.
        item_cases part from n (λ x. Idle x × (from + 4 * n + 2 ≡ behind x))
        (λ f. (tt, refl))
        (λ f. absurd (h1 f))
        (λ f. absurd (h2 f))
        (λ f. absurd (h4 f))
        (λ c1 c2 c3 c4. absurd (h3 (closes_effect closed c1 c2 c3 c4))))
