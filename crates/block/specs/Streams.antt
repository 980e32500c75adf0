-- A block read command by command: the terms of a sum are added up as they come, and the command behind them says which item they make.
-- Assumes nothing.
use Rattle.std.specs.Prelude.{ℕ, ◌+◌, ◌*◌, ◌≤◌, ◌<◌, Bool, cond, List, T, eqb, ℤ, pos, nat_abs, ◌+ℤ◌, length, get_or, take, drop}
use native.Mathlib.Omega.{arith}
use Rattle.std.proofs.Math.Path.{◌≡◌, refl, sym, ap}
use Rattle.std.proofs.Common.{◌∙◌, eq-eqb, eqb→eq}
use Rattle.std.proofs.Math.Bool.{true, false, not}
use Rattle.integer.specs.BigEndian.{signed}
use Rattle.model.specs.Limits.{paper, largest_value}
use Rattle.model.specs.Task.{Form, Comparison, Term, Item, need, add, delete, condition, effect, Block, terms_of}
use Rattle.model.specs.Lists.{all}
use Rattle.model.specs.Command.{comparison_code}
use Rattle.model.specs.Move.{State, compares, holds}
use Rattle.model.specs.Theorems.Reading.WellFormed.{ItemOk, SumOk}
use Rattle.model.proofs.Theorems.Laws.Booleans.{true_t, cond_cases}
use Rattle.block.specs.Items.{Ranges, Left, Terms, TermAt, IsVariable, IsScaled, Found, behind, Moves, Next}
use Rattle.block.specs.Closing.{Passed, pass_start, pass_room, pass_more, pass_step, pass_end, Closed, closed_room, found_need, found_add, found_delete, found_condition, found_effect, closes_effect}
use Rattle.block.specs.Sums.{Row, Adding, few_terms, adding_start, adding_term, adding_room, adding_small, adding_step, adding_end, IsSum}
use Rattle.block.specs.Blocks.{Passing, Deciding, all_true, all_false, StateRow, IsTest, condition_test}
use Rattle.block.specs.declared.ItemAt.{ItemAt}
use Rattle.block.specs.declared.ItemAt.TheVariants.{Need, Add, Delete, Condition as ConditionAt, Effect as EffectAt}

-- ---- the sum

-- items are left there, before the part's end, over some values
pub record Addable (part : List ℕ) (from : ℕ) (values : List ℤ) : Type 0 where
  pub inside : from < length part
  pub ranges : Ranges
  pub rest : Block
  pub left : Left ranges part from rest
  pub val : ℕ → ℤ
  pub row : Row ranges.vars values val

-- n terms of the item at `from` are passed and add up to `total`, in every reading
pub record Summing (part : List ℕ) (from : ℕ) (values : List ℤ) (n : ℕ) (total : ℤ) : Type 0 where
  pub within : from + 4 * n < length part
  pub few : n ≤ 8
  pub small : nat_abs total ≤ n * 1_000_000_000_000_000
  pub passed : (k : Ranges) (rest : Block) → Left k part from rest → Passed k part from n rest
  pub adds : (m : ℕ) (k : Ranges) (ts : List Term) (f : ℕ → ℤ) → Terms k part from m ts → Row k.vars values f → n ≤ m → Adding k part from m f ts n total

-- all its terms are, and the command behind them closes it
pub record SumAt (part : List ℕ) (from : ℕ) (values : List ℤ) (n : ℕ) (total : ℤ) : Type 0 where
  pub closed : (k : Ranges) (rest : Block) → Left k part from rest → Closed k part from n rest
  pub sum : IsSum part from n values total

pub summing_start : {part : List ℕ} {from : ℕ} {values : List ℤ} → from < length part → Summing part from values 0 (pos 0)
summing_start h =
    record {
      within = omega arith;
      few = omega arith;
      small = omega arith;
      passed = λ k rest l. pass_start h l;
      adds = λ m k ts f t r l. adding_start f t;
    }

-- the sum of an item is within the limits
item_sum : (f : Form) (props vars : ℕ) (i : Item) → ItemOk paper f props vars i → SumOk paper f vars (terms_of i)
unfolding terms_of paper
item_sum f props vars (need p) ok = record { terms = tt; few = omega arith; rising = tt }
item_sum f props vars (add p) ok = record { terms = tt; few = omega arith; rising = tt }
item_sum f props vars (delete p) ok = record { terms = tt; few = omega arith; rising = tt }
item_sum f props vars (condition c) ok = ok.sum
item_sum f props vars (effect e) ok = ok.sum

passed_terms : {k : Ranges} {part : List ℕ} {from n : ℕ} {rest : Block} (p : Passed k part from n rest) → Terms k part from (length (terms_of p.item)) (terms_of p.item)
passed_terms {k} p =
    record { after = _; bytes = p.whole; many = refl; ok = item_sum k.form k.props k.vars p.item p.ok }

module _ {part : List ℕ} {from : ℕ} {values : List ℤ} (a : Addable part from values) {n : ℕ} {total : ℤ} (g : Summing part from values n total) where
  own : Passed a.ranges part from n a.rest
  own = g.passed a.ranges a.rest a.left

  abbrev terms : List Term
  terms = terms_of own.item

  own_adding : Adding a.ranges part from (length terms) a.val terms n total
  own_adding = g.adds (length terms) a.ranges terms a.val (passed_terms own) a.row (omega (arith, own.many))

  module _ (e : get_or part (from + 4 * n) 0 ≡ 0x57) where
    step : (k : Ranges) (rest : Block) → Left k part from rest → Passed k part from (n + 1) rest
    step k rest l = pass_step (g.passed k rest l) e

    more : n < length terms
    more = omega (arith, own.many, pass_more own e)

    pub summing_term : TermAt part (from + 4 * n)
    summing_term = adding_term more own_adding

    pub summing_room : {v : ℕ} → IsVariable part (from + 4 * n) v → v < length values
    summing_room q = adding_room more own_adding a.row q

    pub summing_value : {v : ℕ} → IsVariable part (from + 4 * n) v → nat_abs (get_or values v (pos 0)) ≤ largest_value
    summing_value q = adding_small more own_adding a.row q

    -- one term more
    pub summing_more :
        {v : ℕ} {x r : ℤ}
        → IsVariable part (from + 4 * n) v
        → IsScaled part (from + 4 * n) (get_or values v (pos 0)) x
        → r ≡ total +ℤ x
        → nat_abs r ≤ nat_abs total + nat_abs x
        → Summing part from values (n + 1) r
    summing_more {v} {x} {r} q s is size =
        record {
          within = pass_room (step a.ranges a.rest a.left);
          few = omega (arith, more, few_terms (passed_terms own));
          small = omega (arith, g.small, s.small);
          passed = step;
          adds = λ m k ts f t w l. rw is (adding_step (omega arith) (g.adds m k ts f t w (omega arith)) w q s);
        }

  -- the command behind the terms
  pub summing_end : (get_or part (from + 4 * n) 0 ≡ 0x57 → ⊥) → SumAt part from values n total
  summing_end e =
      record {
        closed = λ k rest l. pass_end (g.passed k rest l) e;
        sum = record { is = λ k ts f t r. adding_end (omega arith) (g.adds n k ts f t r (omega arith)); small = omega (arith, g.few, g.small) };
      }

-- ---- the item

-- the bytes of a command in a block, with its operands
unfoldable pub width_by : ℕ → ℕ
width_by c = cond (eqb c 0x57) 4 (cond (eqb c 0x43) 6 (cond (eqb c 0x46) 7 2))

-- the item that the command at `at` closes, its n terms standing from `from` on
unfoldable pub item_by : List ℕ → ℕ → ℕ → ItemAt
item_by part from n =
    let at = from + 4 * n in
    let c = get_or part at 0 in
    cond (eqb c 0x50) (Need (get_or part (at + 1) 0) (at + 2))
    (cond (eqb c 0x2B) (Add (get_or part (at + 1) 0) (at + 2))
    (cond (eqb c 0x2D) (Delete (get_or part (at + 1) 0) (at + 2))
    (cond (eqb c 0x43) (ConditionAt (get_or part (at + 1) 0) (signed (take 4 (drop (at + 2) part))) from n (at + 6))
    (EffectAt (get_or part (at + 1) 0) (get_or part (at + 2) 0) (signed (take 4 (drop (at + 3) part))) from n (at + 7)))))

-- which command it is
module _ (part : List ℕ) (from n : ℕ) where
  code : ℕ
  code = get_or part (from + 4 * n) 0

  pub item_cases :
      (P : ItemAt → Type 0)
      → (get_or part (from + 4 * n) 0 ≡ 0x50 → P (Need (get_or part (from + 4 * n + 1) 0) (from + 4 * n + 2)))
      → (get_or part (from + 4 * n) 0 ≡ 0x2B → P (Add (get_or part (from + 4 * n + 1) 0) (from + 4 * n + 2)))
      → (get_or part (from + 4 * n) 0 ≡ 0x2D → P (Delete (get_or part (from + 4 * n + 1) 0) (from + 4 * n + 2)))
      → (get_or part (from + 4 * n) 0 ≡ 0x43 → P (ConditionAt (get_or part (from + 4 * n + 1) 0) (signed (take 4 (drop (from + 4 * n + 2) part))) from n (from + 4 * n + 6)))
      → ((get_or part (from + 4 * n) 0 ≡ 0x50 → ⊥) → (get_or part (from + 4 * n) 0 ≡ 0x2B → ⊥) → (get_or part (from + 4 * n) 0 ≡ 0x2D → ⊥) → (get_or part (from + 4 * n) 0 ≡ 0x43 → ⊥) → P (EffectAt (get_or part (from + 4 * n + 1) 0) (get_or part (from + 4 * n + 2) 0) (signed (take 4 (drop (from + 4 * n + 3) part))) from n (from + 4 * n + 7)))
      → P (item_by part from n)
  unfolding item_by code
  item_cases P a b c d e =
      cond_cases P (eqb code 0x50) _ _ (λ t. a (eqb→eq code 0x50 t))
      (λ h1. cond_cases P (eqb code 0x2B) _ _ (λ t. b (eqb→eq code 0x2B t))
      (λ h2. cond_cases P (eqb code 0x2D) _ _ (λ t. c (eqb→eq code 0x2D t))
      (λ h3. cond_cases P (eqb code 0x43) _ _ (λ t. d (eqb→eq code 0x43 t))
      (λ h4. e (other 0x50 h1) (other 0x2B h2) (other 0x2D h3) (other 0x43 h4)))))
    where
      other : (m : ℕ) → (T (eqb code m) → ⊥) → code ≡ m → ⊥
      other m h q = h (true_t (eq-eqb code m q))

  module _ {k : Ranges} {rest : Block} (closed : Closed k part from n rest) where
    pub item_found : Found k part rest (item_by part from n)
    item_found =
        item_cases (Found k part rest)
        (λ e. found_need closed _ e refl)
        (λ e. found_add closed _ e refl)
        (λ e. found_delete closed _ e refl)
        (λ e. found_condition closed _ _ e refl refl)
        (λ h1 h2 h3 h4. found_effect closed _ _ _ h1 h2 h3 h4 refl refl refl)

    pub item_moves : Moves from (length part) (item_by part from n)
    item_moves =
        item_cases (Moves from (length part))
        (λ e. (omega arith, (found_need closed _ e refl).left.bytes.within))
        (λ e. (omega arith, (found_add closed _ e refl).left.bytes.within))
        (λ e. (omega arith, (found_delete closed _ e refl).left.bytes.within))
        (λ e. (omega arith, (found_condition closed _ _ e refl refl).followed.left.bytes.within))
        (λ h1 h2 h3 h4. (omega arith, (found_effect closed _ _ _ h1 h2 h3 h4 refl refl refl).followed.left.bytes.within))

    -- the next command stands behind its operands
    pub item_behind : behind (item_by part from n) ≡ from + 4 * n + width_by (get_or part (from + 4 * n) 0)
    unfolding behind width_by
    item_behind =
        item_cases (λ x. behind x ≡ from + 4 * n + width_by (get_or part (from + 4 * n) 0))
        (λ e. rw e refl)
        (λ e. rw e refl)
        (λ e. rw e refl)
        (λ e. rw e refl)
        (λ h1 h2 h3 h4. rw (closes_effect closed h1 h2 h3 h4) refl)

  -- by its code
  pub item_add : get_or part (from + 4 * n) 0 ≡ 0x2B → item_by part from n ≡ Add (get_or part (from + 4 * n + 1) 0) (from + 4 * n + 2)
  unfolding item_by
  item_add e = rw (e, item_by) refl

  pub item_delete : get_or part (from + 4 * n) 0 ≡ 0x2D → item_by part from n ≡ Delete (get_or part (from + 4 * n + 1) 0) (from + 4 * n + 2)
  unfolding item_by
  item_delete e = rw (e, item_by) refl

  pub item_effect :
      get_or part (from + 4 * n) 0 ≡ 0x46
      → item_by part from n ≡ EffectAt (get_or part (from + 4 * n + 1) 0) (get_or part (from + 4 * n + 2) 0) (signed (take 4 (drop (from + 4 * n + 3) part))) from n (from + 4 * n + 7)
  unfolding item_by
  item_effect e = rw (e, item_by) refl

-- so the item is known
pub sum_item : {part : List ℕ} {from : ℕ} {values : List ℤ} {n : ℕ} {total : ℤ} → Addable part from values → SumAt part from values n total → Next part from (item_by part from n)
sum_item {part} {from} {values} {n} a s =
    record {
      moves = item_moves part from n (s.closed a.ranges a.rest a.left);
      found = λ k rest l. item_found part from n (s.closed k rest l);
    }

pub sum_behind :
    {part : List ℕ} {from : ℕ} {values : List ℤ} {n : ℕ} {total : ℤ}
    → Addable part from values
    → SumAt part from values n total
    → behind (item_by part from n) ≡ from + 4 * n + width_by (get_or part (from + 4 * n) 0)
sum_behind {part} {from} {values} {n} a s = item_behind part from n (s.closed a.ranges a.rest a.left)

-- ---- does it fail

-- what the two memories hold
abbrev pub Over : List Bool → List ℤ → Ranges → State → Type 0
Over has values k s = StateRow k has values s

abbrev pub Asked : State → Block → Bool
Asked s b = all (holds s) b

-- a sum stands there, over a state
pub record Judged (part : List ℕ) (from n : ℕ) (total : ℤ) (has : List Bool) : Type 0 where
  pub values : List ℤ
  pub addable : Addable part from values
  pub sum : SumAt part from values n total
  pub over : State
  pub row : StateRow addable.ranges has values over

-- the item decides the answer, or it does not change it
abbrev pub Verdict : List ℕ → List Bool → List ℤ → Bool → ItemAt → Type 0
Verdict part has values r x = (r ≡ true → Deciding part (Over has values) Asked false x) × (r ≡ false → Passing part (Over has values) Asked x)

pub record Judgement (part : List ℕ) (from n : ℕ) (total : ℤ) (has : List Bool) (r : Bool) : Type 0 where
  pub is : (values : List ℤ) → SumAt part from values n total → Verdict part has values r (item_by part from n)

module _ {part : List ℕ} {from n : ℕ} {total : ℤ} {has : List Bool} (j : Judged part from n total has) where
  own_closed : Closed j.addable.ranges part from n j.addable.rest
  own_closed = j.sum.closed j.addable.ranges j.addable.rest j.addable.left

  -- the command stands within the part
  pub judged_room : from + 4 * n < length part
  judged_room = closed_room own_closed

  module _ (e : get_or part (from + 4 * n) 0 ≡ 0x50) where
    pub need_within : from + 4 * n + 2 ≤ length part
    need_within = (found_need own_closed _ e refl).left.bytes.within

    pub need_room : get_or part (from + 4 * n + 1) 0 < length has
    need_room = omega (arith, (found_need own_closed _ e refl).ok, j.row.long)

  pub condition_within : get_or part (from + 4 * n) 0 ≡ 0x43 → from + 4 * n + 6 ≤ length part
  condition_within e = (found_condition own_closed _ _ e refl refl).followed.left.bytes.within

module _ {part : List ℕ} {from n : ℕ} {total : ℤ} {has : List Bool} where
  pub judge_need :
      {r : Bool}
      → get_or part (from + 4 * n) 0 ≡ 0x50
      → not r ≡ get_or has (get_or part (from + 4 * n + 1) 0) false
      → Judgement part from n total has r
  unfolding holds
  judge_need {r} e q =
      record {
        is = λ values s.
            item_cases part from n (Verdict part has values r)
            (λ f.
            (λ t k st w h o. all_false (holds st) (sym (w.has _ h) ∙ sym q ∙ ap not t) o, λ t k st w h o. all_true (holds st) (sym (w.has _ h) ∙ sym q ∙ ap not t) o))
            (λ f. absurd (omega (arith, e, f)))
            (λ f. absurd (omega (arith, e, f)))
            (λ f. absurd (omega (arith, e, f)))
            (λ h1 h2 h3 h4. absurd (h1 e));
      }

  pub judge_condition :
      {r : Bool}
      → get_or part (from + 4 * n) 0 ≡ 0x43
      → ((o : Comparison) → comparison_code o ≡ get_or part (from + 4 * n + 1) 0 → not r ≡ compares o total (signed (take 4 (drop (from + 4 * n + 2) part))))
      → Judgement part from n total has r
  judge_condition {r} e q =
      record {
        is = λ values s.
            let test : IsTest part (get_or part (from + 4 * n + 1) 0) (signed (take 4 (drop (from + 4 * n + 2) part))) from n values (not r) =
            record { is = λ k ts f o t w c. q o c ∙ ap (λ (z : ℤ). compares o z (signed (take 4 (drop (from + 4 * n + 2) part)))) (s.sum.is k ts f t w) } in
            item_cases part from n (Verdict part has values r)
            (λ f. absurd (omega (arith, e, f)))
            (λ f. absurd (omega (arith, e, f)))
            (λ f. absurd (omega (arith, e, f)))
            (λ f.
            (λ t k st c w h o. all_false (holds st) (condition_test st w.row h test ∙ ap not t) o, λ t k st c w h o. all_true (holds st) (condition_test st w.row h test ∙ ap not t) o))
            (λ h1 h2 h3 h4. absurd (h4 e));
      }

  pub judge_other :
      (get_or part (from + 4 * n) 0 ≡ 0x50 → ⊥)
      → (get_or part (from + 4 * n) 0 ≡ 0x43 → ⊥)
      → Judgement part from n total has false
  unfolding holds
  judge_other h g =
      record {
        is = λ values s.
            item_cases part from n (Verdict part has values false)
            (λ f. absurd (h f))
            (λ f. (λ t. absurd (differs t), λ t k st w q o. all_true (holds st) refl o))
            (λ f. (λ t. absurd (differs t), λ t k st w q o. all_true (holds st) refl o))
            (λ f. absurd (g f))
            (λ h1 h2 h3 h4. (λ t. absurd (differs t), λ t k st x w u q o. all_true (holds st) refl o));
      }
    where
      differs : ◌≡◌ {A = Bool} false true → ⊥
      differs t = let z : ◌≡◌ {A = ℕ} 0 1 = cc in omega arith
