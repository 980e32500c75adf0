-- The part that blocks, in the written table: each part of a normal form came from one item of the written goal, and with a goal that
-- still holds that item no list of moves solves the table as written. Assumes nothing.
use Rattle.std.specs.Prelude.{ℕ, ◌+◌, ◌-◌, ◌≤◌, ◌<◌, ◌≡◌, refl, List, [], ◌∷◌, ◌++◌, ltb, length, get_or}
use Rattle.std.proofs.Common.{sym, ap, ap₂, ◌∙◌, subst, inl, inr, append_assoc, arith, ltb→lt, nltb→le, length-append, get_or-append-add}
use Rattle.std.proofs.Math.Dec.{not_T}
use Rattle.std.proofs.Math.ListN.{get_or-append}
use Rattle.model.specs.Limits.{Limits}
use Rattle.model.specs.Lists.{In}
use Rattle.model.specs.Task.{written, Item, need, Block, Task}
use Rattle.model.specs.NormalForm.{normal_item, normal_block, normal_task, normal_state}
use Rattle.model.specs.Move.{State, real, relaxed, Solves}
use Rattle.model.specs.Blocking.{goal_part}
use Rattle.model.specs.Theorems.Reading.WellFormed.{TaskOk}
use Rattle.model.proofs.Theorems.Laws.Booleans.{T-cases}
use Rattle.model.proofs.Theorems.Laws.Listed.{in_left, in_right, in_at}
use Rattle.model.proofs.Theorems.NormalForm.Task.{normal_ok}
use Rattle.model.proofs.Theorems.NormalForm.Moves.{written_normal}
use Rattle.model.proofs.Theorems.Layers.Relaxation.{real_solves_relaxed}
use Rattle.model.specs.Theorems.Blocking.Goals.{with_goal}
use Rattle.model.proofs.Theorems.Blocking.Goals.{part_ok, solves_part}
use Rattle.model.specs.Theorems.Blocking.Reason.{Unreachable}
use Rattle.model.proofs.Theorems.Blocking.Reason.{keeping_unreachable}
use Rattle.model.specs.Theorems.Blocking.Written.{CameFrom}

-- ---- each part came from an item
came_later : (i : Item) (g : Block) (n : ℕ) → length (normal_item i) ≤ n → CameFrom g (n - length (normal_item i)) → CameFrom (i ∷ g) n
unfolding normal_block
came_later i g n h c =
    let sum = length-append (normal_item i) (normal_block c.before) in
    record {
      before = i ∷ c.before;
      item = c.item;
      behind = c.behind;
      is = ap (λ (b : Block). i ∷ b) c.is;
      low = omega (arith, sum, c.low);
      high = omega (arith, sum, c.high);
    }

-- whatever part of the normal form it is
pub came_from : (g : Block) (n : ℕ) → n < length (normal_block g) → CameFrom g n
unfolding normal_block
came_from [] n h = absurd (omega arith)
came_from (i ∷ g) n h =
    T-cases (ltb n (length (normal_item i)))
    (λ here.
    record {
      before = [];
      item = i;
      behind = g;
      is = refl;
      low = omega arith;
      high = omega (arith, ltb→lt n (length (normal_item i)) here);
    })
    (λ later.
    let past : length (normal_item i) ≤ n = nltb→le n (length (normal_item i)) (not_T (ltb n (length (normal_item i))) later) in
    came_later i g n past
    (came_from g (n - length (normal_item i)) (omega (arith, length-append (normal_item i) (normal_block g)))))

-- ---- and from no other
-- two cuts of one list, each with n in the normal form of its item, are the same cut
one_cut :
    (x y : Block) (i j : Item) (p q : Block) (n : ℕ)
    → x ++ i ∷ p ≡ y ++ j ∷ q
    → length (normal_block x) ≤ n
    → n < length (normal_block x) + length (normal_item i)
    → length (normal_block y) ≤ n
    → n < length (normal_block y) + length (normal_item j)
    → (x ≡ y) × (i ≡ j)
unfolding normal_block
one_cut [] [] i j p q n e a b c d = (refl, cc)
one_cut [] (h ∷ y) i j p q n e a b c d =
    let same : i ≡ h = cc in
    let long : length (normal_item i) ≡ length (normal_item h) = ap (λ (z : Item). length (normal_item z)) same in
    absurd (omega (arith, length-append (normal_item h) (normal_block y)))
one_cut (h ∷ x) [] i j p q n e a b c d =
    let same : h ≡ j = cc in
    let long : length (normal_item h) ≡ length (normal_item j) = ap (λ (z : Item). length (normal_item z)) same in
    absurd (omega (arith, length-append (normal_item h) (normal_block x)))
one_cut (h ∷ x) (l ∷ y) i j p q n e a b c d =
    let same : h ≡ l = cc in
    let rest : x ++ i ∷ p ≡ y ++ j ∷ q = cc in
    let long : length (normal_item h) ≡ length (normal_item l) = ap (λ (z : Item). length (normal_item z)) same in
    let sum-x = length-append (normal_item h) (normal_block x) in
    let sum-y = length-append (normal_item l) (normal_block y) in
    let later =
    one_cut x y i j p q (n - length (normal_item h)) rest (omega (arith, sum-x)) (omega (arith, sum-x)) (omega (arith, sum-y, long))
    (omega (arith, sum-y, long)) in
    (ap₂ (λ (z : Item) (b : Block). z ∷ b) same later.0, later.1)

-- a part came from one item alone: so many items stand before it, and this is the one
pub came_one : (g : Block) (n : ℕ) (a b : CameFrom g n) → (a.before ≡ b.before) × (a.item ≡ b.item)
came_one g n a b =
    one_cut a.before b.before a.item b.item a.behind b.behind n (sym a.is ∙ b.is) a.low a.high b.low b.high

-- ---- the item stands in the goal, and the part in the item's normal form
pub item_in : {g : Block} {n : ℕ} (c : CameFrom g n) → In c.item g
item_in c = subst (In c.item) (sym c.is) (in_right c.item c.before (c.item ∷ c.behind) (inl refl))

normal_append : (a b : Block) → normal_block (a ++ b) ≡ normal_block a ++ normal_block b
unfolding normal_block
normal_append [] b = refl
normal_append (i ∷ a) b =
    ap (λ (c : Block). normal_item i ++ c) (normal_append a b) ∙ sym (append_assoc (normal_item i) (normal_block a) (normal_block b))

-- "= c is S ≥ c, then −S ≥ −c": one of the parts that the item is written as in the normal form
pub part_of_item : (k : Task) (n : ℕ) (c : CameFrom k.goal n) → In (goal_part (normal_task k) n) (normal_item c.item)
unfolding goal_part normal_task normal_block
part_of_item k n c =
    let own = normal_item c.item in
    let front = normal_block c.before in
    let place : n ≡ length front + (n - length front) = omega (arith, c.low) in
    let inside : n - length front < length own = omega (arith, c.low, c.high) in
    let at : get_or (normal_block k.goal) n (need 0) ≡ get_or own (n - length front) (need 0) =
    ap (λ (g : Block). get_or (normal_block g) n (need 0)) c.is
    ∙ ap (λ (g : Block). get_or g n (need 0)) (normal_append c.before (c.item ∷ c.behind))
    ∙ ap (λ (m : ℕ). get_or (front ++ (own ++ normal_block c.behind)) m (need 0)) place
    ∙ get_or-append-add front (own ++ normal_block c.behind) (n - length front) (need 0)
    ∙ get_or-append own (normal_block c.behind) (need 0) (n - length front) inside in
    subst (λ (i : Item). In i own) (sym at) (in_at own (n - length front) (need 0) inside)

-- the parts of an item of a goal stand in the normal form of the goal
parts_kept : (i : Item) (g : Block) (p : Item) → In i g → In p (normal_item i) → In p (normal_block g)
unfolding normal_block
parts_kept i [] p stands own = absurd stands
parts_kept i (j ∷ g) p (inl e) own = in_left p (normal_item j) (normal_block g) (subst (λ (x : Item). In p (normal_item x)) e own)
parts_kept i (j ∷ g) p (inr stands) own = in_right p (normal_item j) (normal_block g) (parts_kept i g p stands own)

-- ---- the reason, in the written table
module _ (k : Task) (s : State) (n : ℕ) (c : CameFrom k.goal n) where
  abbrev part : Item
  part = goal_part (normal_task k) n

  part_kept : (g : Block) → In c.item g → In part (normal_block g)
  part_kept g stands = parts_kept c.item g part stands (part_of_item k n c)

  module _ (blocks : Unreachable (normal_task k) (normal_state s) part) where
    -- with a goal that still holds the item, no list of relaxed moves solves the normal form,
    pub keeping_item_relaxed :
        (g : Block) → In c.item g → (list : List ℕ) → Solves relaxed (normal_task (with_goal k g)) (normal_state s) list → ⊥
    unfolding normal_task
    keeping_item_relaxed g stands list solves =
        keeping_unreachable (normal_task k) (normal_state s) part blocks (normal_block g) (part_kept g stands) list solves

    -- and no list of moves, of any length, solves the table as written; "that one part alone" is the goal `item ∷ []`
    pub keeping_item :
        {L : Limits} → TaskOk L written k
        → (g : Block)
        → In c.item g
        → (list : List ℕ)
        → Solves real (with_goal k g) s list
        → ⊥
    unfolding normal_task
    keeping_item {L} ok g stands list solves =
        blocks list
        (real_solves_relaxed (part_ok (normal_ok L k ok) part (part_kept k.goal (item_in c))) (normal_state s) list
        (solves_part real (normal_task k) (normal_block g) part (part_kept g stands) (normal_state s) list
        ((written_normal (with_goal k g) list s).0 solves)))
