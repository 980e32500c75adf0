-- "The PDDL text writes it out": tables that differ only in terms of weight 0 have different texts, and these have the same plans.
-- Assumes nothing.
use Rattle.std.specs.Prelude.{ℕ, ◌≡◌, refl, ◌↔◌, length}
use Rattle.std.proofs.Common.{arith, sym, ap, ap₂, ◌∙◌, subst, inl, inr}
use mathlib.Core.List.{List, [], ◌∷◌, map, head-eq_of_cons-eq, tail-eq_of_cons-eq}
use Rattle.integer.specs.BigEndian.{AllBytes}
use Rattle.model.specs.Limits.{Limits}
use Rattle.model.specs.Lists.{In}
use Rattle.model.specs.Task.{Form, written, Term, kept, Item, need, add, delete, condition, effect, Block, Task, terms_of}
use Rattle.model.specs.Move.{State, real, Solves}
use Rattle.model.specs.Command.{task_bytes}
use Rattle.model.specs.Reading.{only}
use Rattle.model.specs.StateTable.{state_of}
use Rattle.model.specs.Pddl.{task_text}
use Rattle.model.specs.PddlMeaning.{TextPlan}
use Rattle.model.specs.Theorems.Reading.WellFormed.{All, GoalItem}
use Rattle.model.proofs.Theorems.Reading.Accepted.{reading_task, reading_form, reading_canonical}
use Rattle.model.proofs.Theorems.Reading.Kept.{kept_in, kept_again}
use Rattle.model.proofs.Theorems.NormalForm.Blocks.{All-of-map}
use Rattle.model.specs.Theorems.NormalForm.ZeroTerms.{item_without, block_without, without_zero}
use Rattle.model.proofs.Theorems.NormalForm.ZeroTerms.{without_solves, goal_item}
use Rattle.model.specs.Theorems.Pddl.Text.{conditions_of, effects_of}
use Rattle.model.proofs.Theorems.Pddl.Text.{whole_goal, one_text}
use Rattle.model.specs.Theorems.Pddl.Calls.{Wrote, task_in, state_in}
use Rattle.model.proofs.Theorems.Pddl.Calls.{text_plans}
use Rattle.model.specs.Theorems.Pddl.ZeroTerms.{ZeroIn}

-- ---- a block from its conditions, its effects and how they are mixed

-- the first item of a list in front of what is made of the others
abbrev pick : Block → (Block → Block) → Block
pick [] f = []
pick (i ∷ is) f = i ∷ f is

mixed : Block → Block → Block → Block
mixed [] cs es = []
mixed (need p ∷ b) cs es = pick cs (λ ds. mixed b ds es)
mixed (add p ∷ b) cs es = pick es (λ fs. mixed b cs fs)
mixed (delete p ∷ b) cs es = pick es (λ fs. mixed b cs fs)
mixed (condition c ∷ b) cs es = pick cs (λ ds. mixed b ds es)
mixed (effect e ∷ b) cs es = pick es (λ fs. mixed b cs fs)

mixed_whole : (b : Block) → mixed (block_without b) (conditions_of b) (effects_of b) ≡ b
unfolding mixed block_without item_without conditions_of effects_of
mixed_whole [] = refl
mixed_whole (need p ∷ b) = ap (λ (c : Block). need p ∷ c) (mixed_whole b)
mixed_whole (add p ∷ b) = ap (λ (c : Block). add p ∷ c) (mixed_whole b)
mixed_whole (delete p ∷ b) = ap (λ (c : Block). delete p ∷ c) (mixed_whole b)
mixed_whole (condition c ∷ b) = ap (λ (d : Block). condition c ∷ d) (mixed_whole b)
mixed_whole (effect e ∷ b) = ap (λ (c : Block). effect e ∷ c) (mixed_whole b)

one_block :
    (b c : Block)
    → block_without b ≡ block_without c
    → conditions_of b ≡ conditions_of c
    → effects_of b ≡ effects_of c
    → b ≡ c
one_block b c shape conditions effects =
    sym (mixed_whole b) ∙ (λ i. mixed (shape i) (conditions i) (effects i)) ∙ mixed_whole c

one_list :
    (bs cs : List Block)
    → map block_without bs ≡ map block_without cs
    → map conditions_of bs ≡ map conditions_of cs
    → map effects_of bs ≡ map effects_of cs
    → bs ≡ cs
one_list [] [] shape conditions effects = refl
one_list [] (c ∷ cs) shape conditions effects = absurd (omega (arith, ap length shape))
one_list (b ∷ bs) [] shape conditions effects = absurd (omega (arith, ap length shape))
one_list (b ∷ bs) (c ∷ cs) shape conditions effects =
    ap₂ (λ (d : Block) (ds : List Block). d ∷ ds)
    (one_block b c (head-eq_of_cons-eq shape) (head-eq_of_cons-eq conditions) (head-eq_of_cons-eq effects))
    (one_list bs cs (tail-eq_of_cons-eq shape) (tail-eq_of_cons-eq conditions) (tail-eq_of_cons-eq effects))

-- ---- tasks that differ only in terms of weight 0
module _ (k n : Task) (s t : State) (same : without_zero k ≡ without_zero n) (text : task_text k s ≡ task_text n t) where
  one_moves : k.moves ≡ n.moves
  unfolding without_zero
  one_moves =
      let e = one_text k n s t text in
      one_list k.moves n.moves (ap (λ (x : Task). x.moves) same) e.conditions e.effects

  -- if their texts are the same, so are they
  pub one_task : All GoalItem k.goal → All GoalItem n.goal → k ≡ n
  one_task k-goal n-goal =
      let e = one_text k n s t text in
      let goal : k.goal ≡ n.goal = sym (whole_goal k.goal k-goal) ∙ e.goal ∙ whole_goal n.goal n-goal in
      λ i. record { props = e.props i; vars = e.vars i; moves = one_moves i; goal = goal i }

-- a list that stays as it is has elements that stay as they are
each_same : {A : Type 0} (f : A → A) (xs : List A) → map f xs ≡ xs → (x : A) → In x xs → f x ≡ x
each_same f [] e x i = absurd i
each_same f (y ∷ ys) e x (inl same) = ap f same ∙ head-eq_of_cons-eq e ∙ sym same
each_same f (y ∷ ys) e x (inr i) = each_same f ys (tail-eq_of_cons-eq e) x i

terms_without : (i : Item) → terms_of (item_without i) ≡ kept (terms_of i)
unfolding terms_of item_without kept
terms_without (need p) = refl
terms_without (add p) = refl
terms_without (delete p) = refl
terms_without (condition c) = refl
terms_without (effect e) = refl

block_differs : (b : Block) → ZeroIn b → block_without b ≡ b → ⊥
unfolding block_without
block_differs b z same =
    let stays : item_without z.item ≡ z.item = each_same item_without b same z.item z.in_block in
    let whole : terms_of z.item ≡ kept (terms_of z.item) = sym (ap terms_of stays) ∙ terms_without z.item in
    let weighs = (kept_in z.term (terms_of z.item) (subst (In z.term) whole z.in_sum)).1 in
    omega (arith, weighs, z.weightless)

item_twice : (i : Item) → item_without (item_without i) ≡ item_without i
unfolding item_without
item_twice (need p) = refl
item_twice (add p) = refl
item_twice (delete p) = refl
item_twice (condition c) =
    ap (λ (ts : List Term). condition (record { terms = ts; comparison = c.comparison; bound = c.bound })) (kept_again c.terms)
item_twice (effect e) =
    ap (λ (ts : List Term). effect (record { kind = e.kind; var = e.var; terms = ts; base = e.base })) (kept_again e.terms)

map_twice : {A : Type 0} (f : A → A) → ((x : A) → f (f x) ≡ f x) → (xs : List A) → map f (map f xs) ≡ map f xs
map_twice f h [] = refl
map_twice f h (x ∷ xs) = λ i. h x i ∷ map_twice f h xs i

block_twice : (b : Block) → block_without (block_without b) ≡ block_without b
unfolding block_without
block_twice b = map_twice item_without item_twice b

task_twice : (k : Task) → without_zero (without_zero k) ≡ without_zero k
unfolding without_zero
task_twice k =
    λ i.
    record {
      props = k.props;
      vars = k.vars;
      moves = map_twice block_without block_twice k.moves i;
      goal = block_twice k.goal i;
    }

module _ (k : Task) (s t : State) (text : task_text (without_zero k) s ≡ task_text k t) where
  -- "The PDDL text writes it out": where a sum of a move has a term of weight 0, the text without it is another, in any state
  pub zero_in_move : (m : Block) → In m k.moves → ZeroIn m → ⊥
  unfolding without_zero
  zero_in_move m i z =
      block_differs m z (each_same block_without k.moves (one_moves (without_zero k) k s t (task_twice k) text) m i)

  -- so it is where a sum of the goal has one
  pub zero_in_goal : All GoalItem k.goal → ZeroIn k.goal → ⊥
  unfolding without_zero block_without
  zero_in_goal conditions z =
      block_differs k.goal z
      (ap (λ (x : Task). x.goal)
      (one_task (without_zero k) k s t (task_twice k) text (All-of-map GoalItem item_without k.goal goal_item conditions) conditions))

-- ---- over bytes
written_bytes : {L : Limits} {t bs x : List ℕ} (w : Wrote L t bs x) → AllBytes t → t ≡ task_bytes written (task_in w)
written_bytes {L} {t} w all =
    reading_canonical L (only written) t w.read all
    ∙ ap (λ (f : Form). task_bytes f (task_in w)) (reading_form L written t w.read)

-- two tables of bytes that differ only in terms of weight 0 and have the same text are the same
pub one_table :
    {L : Limits} {t u bs cs x y : List ℕ} (w : Wrote L t bs x) (z : Wrote L u cs y)
    → x ≡ y
    → without_zero (task_in w) ≡ without_zero (task_in z)
    → AllBytes t
    → AllBytes u
    → t ≡ u
one_table {L} {t} {u} w z text same all-t all-u =
    let one : task_in w ≡ task_in z =
    one_task (task_in w) (task_in z) (state_in w) (state_in z) same (w.text ∙ text ∙ sym z.text)
    (reading_task L written t w.read).goal_items (reading_task L written u z.read).goal_items
    in
    written_bytes w all-t ∙ ap (task_bytes written) one ∙ sym (written_bytes z all-u)

-- "no contribution": the texts of such tables with the same state have the same plans
module _ {L : Limits} {t u bs x y : List ℕ} (w : Wrote L t bs x) (z : Wrote L u bs y) (same : without_zero (task_in w) ≡ without_zero (task_in z)) (ms : List ℕ) where
  abbrev solved : Task → Type 0
  solved k = Solves real k (state_of k.props bs) ms

  pub same_plans : TextPlan x ms ↔ TextPlan y ms
  unfolding without_zero
  same_plans =
      let k = without_solves (task_in w) ms (state_in w) in
      let n = without_solves (task_in z) ms (state_in z) in (
        λ p. (text_plans z ms).1 (n.0 (subst solved same (k.1 ((text_plans w ms).0 p)))),
        λ p. (text_plans w ms).1 (k.0 (subst solved (sym same) (n.1 ((text_plans z ms).0 p)))),
      )
