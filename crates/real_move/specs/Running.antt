-- A real move on the copy that it changes: one item more is taken in. Assumes nothing.
use Rattle.std.specs.Prelude.{ℕ, ◌≤◌, ◌<◌, ◌≡◌, Bool, not, ◌&&◌, List, [], ◌∷◌, T, ℤ, pos, length, get_or, set}
use Rattle.std.proofs.Common.{arith, ◌∙◌, subst, get_or-set_same}
use Rattle.std.proofs.Math.Decide.{ℕ_discrete}
use Rattle.std.proofs.Math.Path.{refl, sym, ap}
use Rattle.std.proofs.Math.Bool.{true, false}
use Rattle.std.proofs.Math.Option.{Option}
use Rattle.std.proofs.Math.ListN.{length-set}
use Rattle.model.specs.Lists.{any}
use Rattle.model.specs.Task.{Effect, Item, need, add, delete, effect, Block, is_add, is_delete, adds, deletes, effect_on, clashes}
use Rattle.model.specs.Move.{State, value, changed, real}
use Rattle.model.specs.Theorems.Reading.WellFormed.{Once}
use Rattle.block.specs.Items.{Ranges, Left, Followed, ConditionFound, EffectFound}
use Rattle.block.specs.Sums.{Row}
use Rattle.real_move.specs.Changes.{truth_after, value_after, value_start, truth_add, truth_add_other, truth_delete, truth_delete_other, effect_here, effect_other, no_effect, at_other}

-- ---- a move and what it is run on

-- block b stands in the part, over the state s, whose values `values` and `next` hold, and whose propositions `has` holds
pub record Runs (part : List ℕ) (values : List ℤ) (has : List Bool) (next : List ℤ) (k : Ranges) (b : Block) (s : State) : Type 0 where
  pub left : Left k part 1 b
  pub once : Once b
  pub row : Row k.vars values s.val
  pub truths : (p : ℕ) → p < k.props → get_or has p false ≡ s.has p
  pub next_row : (v : ℕ) → v < k.vars → get_or next v (pos 0) ≡ s.val v
  pub long_has : k.props ≤ length has
  pub long_next : k.vars ≤ length next

pub record Runnable (part : List ℕ) (values : List ℤ) (has : List Bool) (next : List ℤ) : Type 0 where
  pub ranges : Ranges
  pub block : Block
  pub over : State
  pub runs : Runs part values has next ranges block over

-- the arrays hold the state after the move
pub record Reached (k : Ranges) (b : Block) (s : State) (has : List Bool) (next : List ℤ) : Type 0 where
  pub truths : (p : ℕ) → p < k.props → get_or has p false ≡ (real b s).has p
  pub values : (v : ℕ) → v < k.vars → get_or next v (pos 0) ≡ (real b s).val v

pub record Ran (part : List ℕ) (values : List ℤ) (has : List Bool) (next : List ℤ) (has' : List Bool) (next' : List ℤ) : Type 0 where
  pub is : (k : Ranges) (b : Block) (s : State) → Runs part values has next k b s → Reached k b s has' next'

-- the items before `at` are taken in
pub record Running (k : Ranges) (part : List ℕ) (b : Block) (s : State) (at : ℕ) (has : List Bool) (next : List ℤ) : Type 0 where
  pub rest : Block
  pub left : Left k part at rest
  pub once : Once rest
  pub truths : (p : ℕ) → p < k.props → (real b s).has p ≡ truth_after (get_or has p false) p rest
  pub values : (v : ℕ) → v < k.vars → (real b s).val v ≡ value_after s v (effect_on v rest) (get_or next v (pos 0))
  pub long_has : k.props ≤ length has
  pub long_next : k.vars ≤ length next

pub running_start :
    {part : List ℕ} {values : List ℤ} {has : List Bool} {next : List ℤ} {k : Ranges} {b : Block} {s : State}
    → Runs part values has next k b s
    → Running k part b s 1 has next
unfolding real truth_after
running_start {b} {s} r =
    record {
      rest = b;
      left = r.left;
      once = r.once;
      truths = λ p h. ap (λ (x : Bool). truth_after x p b) (sym (r.truths p h));
      values = λ v h. value_start s v (effect_on v b) ∙ ap (value_after s v (effect_on v b)) (sym (r.next_row v h));
      long_has = r.long_has;
      long_next = r.long_next;
    }

module _ {k : Ranges} {part : List ℕ} {b : Block} {s : State} {at : ℕ} {has : List Bool} {next : List ℤ} (r : Running k part b s at has next) where
  -- the item is named once
  alone : {after : ℕ} {i : Item} (f : Followed k part after r.rest i) → T (not (any (clashes i) f.others)) × Once f.others
  alone f = subst Once f.is r.once

  truths_left : {after : ℕ} {i : Item} (f : Followed k part after r.rest i) (p : ℕ) → p < k.props → (real b s).has p ≡ truth_after (get_or has p false) p (i ∷ f.others)
  truths_left f p h = r.truths p h ∙ ap (truth_after (get_or has p false) p) f.is

  values_left : {after : ℕ} {i : Item} (f : Followed k part after r.rest i) (v : ℕ) → v < k.vars → (real b s).val v ≡ value_after s v (effect_on v (i ∷ f.others)) (get_or next v (pos 0))
  values_left f v h = r.values v h ∙ ap (λ (l : Block). value_after s v (effect_on v l) (get_or next v (pos 0))) f.is

  -- an item that changes nothing
  pub running_skip :
      {after : ℕ} {i : Item} (f : Followed k part after r.rest i)
      → ((x : Bool) (p : ℕ) (o : Block) → truth_after x p (i ∷ o) ≡ truth_after x p o)
      → ((v : ℕ) (o : Block) → effect_on v (i ∷ o) ≡ effect_on v o)
      → Running k part b s after has next
  running_skip f same none-there =
      record {
        rest = f.others;
        left = f.left;
        once = (alone f).1;
        truths = λ p h. truths_left f p h ∙ same (get_or has p false) p f.others;
        values = λ v h. values_left f v h ∙ ap (λ (o : Option Effect). value_after s v o (get_or next v (pos 0))) (none-there v f.others);
        long_has = r.long_has;
        long_next = r.long_next;
      }

  pub running_need : {after p : ℕ} → Followed k part after r.rest (need p) → Running k part b s after has next
  unfolding truth_after adds deletes any is_add is_delete effect_on
  running_need f = running_skip f (λ x p o. refl) (λ v o. refl)

  pub running_condition : {o : ℕ} {z : ℤ} {from n after : ℕ} → ConditionFound k part o z from n after r.rest → Running k part b s after has next
  unfolding truth_after adds deletes any is_add is_delete effect_on
  running_condition f = running_skip f.followed (λ x p o. refl) (λ v o. refl)

  -- a truth is stored
  stored_truth :
      (x : Bool) (q : ℕ) {after : ℕ} {i : Item} (f : Followed k part after r.rest i)
      → q < k.props
      → ((v : ℕ) (o : Block) → effect_on v (i ∷ o) ≡ effect_on v o)
      → ((h : Bool) (p : ℕ) → q ≡ p → truth_after h p (i ∷ f.others) ≡ truth_after x p f.others)
      → ((h : Bool) (p : ℕ) → (q ≡ p → ⊥) → truth_after h p (i ∷ f.others) ≡ truth_after h p f.others)
      → Running k part b s after (set has q x) next
  stored_truth x q {after} {i} f small none-there here other =
      record {
        rest = f.others;
        left = f.left;
        once = (alone f).1;
        truths = λ p h. truths_left f p h ∙ by p (ℕ_discrete q p);
        values = λ v h. values_left f v h ∙ ap (λ (o : Option Effect). value_after s v o (get_or next v (pos 0))) (none-there v f.others);
        long_has = omega (arith, r.long_has, length-set has q x);
        long_next = r.long_next;
      }
    where
      room : q < length has
      room = omega (arith, r.long_has)

      by : (p : ℕ) → Dec (q ≡ p) → truth_after (get_or has p false) p (i ∷ f.others) ≡ truth_after (get_or (set has q x) p false) p f.others
      by p (yes e) =
          here (get_or has p false) p e
          ∙ ap (λ (y : Bool). truth_after y p f.others) (sym (ap (λ (n : ℕ). get_or (set has q x) n false) (sym e) ∙ get_or-set_same has q x false room))
      by p (no e) =
          other (get_or has p false) p e ∙ ap (λ (y : Bool). truth_after y p f.others) (sym (at_other has q p x false e))

  pub running_add : {after q : ℕ} → Followed k part after r.rest (add q) → Running k part b s after (set has q true) next
  unfolding effect_on
  running_add {after} {q} f =
      stored_truth true q f f.ok (λ v o. refl)
      (λ h p e. truth_add h p q f.others (alone f).0 e)
      (λ h p e. truth_add_other h p q f.others e)

  pub running_delete : {after q : ℕ} → Followed k part after r.rest (delete q) → Running k part b s after (set has q false) next
  unfolding effect_on
  running_delete {after} {q} f =
      stored_truth false q f f.ok (λ v o. refl)
      (λ h p e. truth_delete h p q f.others e)
      (λ h p e. truth_delete_other h p q f.others e)

  -- a value is stored
  pub running_effect :
      {kd u : ℕ} {z : ℤ} {from n after : ℕ} (f : EffectFound k part kd u z from n after r.rest) {x : ℤ}
      → x ≡ changed f.it.kind (s.val u) (value s f.it)
      → Running k part b s after has (set next u x)
  unfolding truth_after adds deletes any is_add is_delete value_after
  running_effect {u} {after} f {x} e =
      record {
        rest = g.others;
        left = g.left;
        once = (alone g).1;
        truths = λ p h. truths_left g p h;
        values = λ v h. values_left g v h ∙ by v (ℕ_discrete u v);
        long_has = r.long_has;
        long_next = omega (arith, r.long_next, length-set next u x);
      }
    where
      g : Followed k part after r.rest (effect f.it)
      g = f.followed

      room : u < length next
      room = omega (arith, r.long_next, g.ok.var, f.var)

      by : (v : ℕ) → Dec (u ≡ v) → value_after s v (effect_on v (effect f.it ∷ g.others)) (get_or next v (pos 0)) ≡ value_after s v (effect_on v g.others) (get_or (set next u x) v (pos 0))
      by v (yes q) =
          let at-v : f.it.var ≡ v = f.var ∙ q in
          ap (λ (o : Option Effect). value_after s v o (get_or next v (pos 0))) (effect_here f.it v g.others at-v)
          ∙ ap (λ (i : ℕ). changed f.it.kind (s.val i) (value s f.it)) (sym q)
          ∙ sym e
          ∙ sym (ap (λ (i : ℕ). get_or (set next u x) i (pos 0)) (sym q) ∙ get_or-set_same next u x (pos 0) room)
          ∙ ap (λ (o : Option Effect). value_after s v o (get_or (set next u x) v (pos 0)))
          (sym (ap (λ (i : ℕ). effect_on i g.others) (sym at-v) ∙ no_effect f.it g.others (alone g).0))
      by v (no q) =
          ap (λ (o : Option Effect). value_after s v o (get_or next v (pos 0))) (effect_other f.it v g.others (λ t. q (sym f.var ∙ t)))
          ∙ ap (value_after s v (effect_on v g.others)) (sym (at_other next u v x (pos 0) q))

  -- nothing is left
  pub running_end : r.rest ≡ [] → Reached k b s has next
  unfolding truth_after adds deletes any effect_on value_after
  running_end e =
      record {
        truths = λ p h. sym (r.truths p h ∙ ap (truth_after (get_or has p false) p) e ∙ keep (get_or has p false));
        values = λ v h. sym (r.values v h ∙ ap (λ (l : Block). value_after s v (effect_on v l) (get_or next v (pos 0))) e);
      }
    where
      keep : (x : Bool) → (x && true) ≡ x
      keep true = refl
      keep false = refl
