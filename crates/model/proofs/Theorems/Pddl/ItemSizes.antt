-- How long the PDDL text of a block is: at most ten bytes for each byte of the block, and what stands around it. Assumes nothing.
use Rattle.std.specs.Prelude.{ℕ, suc, ◌+◌, ◌*◌, ◌^◌, ◌≤◌, ◌<◌, ◌≡◌, ℤ, pos, negsuc, length}
use Prim.Native.String.{String}
use native.Mathlib.Omega.{arith}
use Rattle.std.proofs.Math.Path.{refl}
use mathlib.Core.List.{List, [], ◌∷◌}
use Rattle.std.proofs.Math.IntN.{nat_abs}
use Rattle.std.proofs.Math.ListN.{length-append}
use Rattle.model.specs.Limits.{paper}
use Rattle.model.specs.Task.{written, Term, Comparison, at_least, above, at_most, below, equal, Condition, Kind, assign, increase, decrease, Effect, Item, need, add, delete, condition, effect, Block, terms_of}
use Rattle.model.specs.Command.{width, item_bytes, items_bytes, moves_bytes}
use Rattle.model.specs.Ascii.{ascii}
use Rattle.model.specs.Pddl.{Formula, atom, Change, gain, lose, number_text, atom_text, head_text, expression_text, comparison_text, formula_text, kind_text, change_text, lines, action_text, sum_of, compare_of, alter_of, formulas_of, changes_of, action_of, actions_from}
use Rattle.model.specs.Theorems.Reading.WellFormed.{All, TermOk, ConditionOk, EffectOk, ItemOk, BlockOk}
use Rattle.model.proofs.Theorems.Printing.Decimals.{decimal_within}
use Rattle.model.specs.Theorems.Printing.Items.{item_command}
use Rattle.model.proofs.Theorems.Printing.Items.{length_item}

-- ---- numbers and names

-- a number of at most k digits, and its sign
pub number_size : (k : ℕ) (z : ℤ) → nat_abs z < 10 ^ suc k → length (number_text z) ≤ suc k + 1
unfolding number_text ascii
number_size k (pos n) h = omega (arith, decimal_within k n h)
number_size k (negsuc n) h = omega (arith, decimal_within k (suc n) h)

pub atom_size : (p : ℕ) → p < 1000 → length (atom_text p) ≤ 6
unfolding atom_text ascii
atom_size p h = simp length-append (omega (arith, decimal_within 2 p h))

pub head_size : (v : ℕ) → v < 1000 → length (head_text v) ≤ 6
unfolding head_text ascii
head_size v h = simp length-append (omega (arith, decimal_within 2 v h))

lose_size : (p : ℕ) → p < 1000 → length (change_text (lose p)) ≤ 12
unfolding change_text ascii
lose_size p h = simp length-append (omega (arith, atom_size p h))

-- ---- sums, conditions and effects
comparison_size : (o : Comparison) → length (comparison_text o) ≤ 3
unfolding comparison_text ascii
comparison_size at_least = omega arith
comparison_size above = omega arith
comparison_size at_most = omega arith
comparison_size below = omega arith
comparison_size equal = omega arith

kind_size : (k : Kind) → length (kind_text k) ≤ 9
unfolding kind_text ascii
kind_size assign = omega arith
kind_size increase = omega arith
kind_size decrease = omega arith

module _ (vars : ℕ) (few_vars : vars ≤ 16) where
  sum_size :
      (ts : List Term) (c : ℤ)
      → All (TermOk paper written vars) ts
      → nat_abs c ≤ 1_000_000
      → length (expression_text (sum_of ts c)) ≤ 21 * length ts + 8
  unfolding sum_of expression_text ascii paper
  sum_size [] c ok small = omega (arith, number_size 6 c (omega arith))
  sum_size (t ∷ ts) c ok small =
      let weight : nat_abs t.weight ≤ 1000 = ok.0.weight in
      let var : t.var < vars = ok.0.var in
      simp length-append
      (omega (arith, sum_size ts c ok.1 small, number_size 3 t.weight (omega arith), head_size t.var (omega arith)))

  condition_size :
      (c : Condition) → ConditionOk paper written vars c → length (formula_text (compare_of c)) ≤ 21 * length c.terms + 22
  unfolding formula_text compare_of expression_text ascii paper
  condition_size c ok =
      let bound : nat_abs c.bound ≤ 1_000_000 = ok.bound in
      simp length-append
      (omega (
        arith,
        comparison_size c.comparison,
        sum_size c.terms (pos 0) ok.sum.terms (omega arith),
        number_size 6 c.bound (omega arith),
      ))

  effect_size : (e : Effect) → EffectOk paper written vars e → length (change_text (alter_of e)) ≤ 21 * length e.terms + 26
  unfolding change_text alter_of ascii paper
  effect_size e ok =
      let base : nat_abs e.base ≤ 1_000_000 = ok.base in
      let var : e.var < vars = ok.var in
      simp length-append
      (omega (
        arith,
        kind_size e.kind,
        head_size e.var (omega arith),
        sum_size e.terms e.base ok.sum.terms base,
      ))

-- ---- lists
module _ {A : Type 0} (indent : String) (print : A → List ℕ) where
  pub lines_none : length (lines indent print []) ≡ 1
  unfolding lines ascii
  lines_none = refl

  pub lines_more :
      (x : A) (xs : List A)
      → length (lines indent print (x ∷ xs)) ≡ 1 + length (ascii indent) + length (print x) + length (lines indent print xs)
  unfolding lines ascii
  lines_more x xs = simp length-append

-- ---- blocks
items_more : (i : Item) (b : Block) → length (items_bytes (i ∷ b)) ≡ length (item_bytes i) + length (items_bytes b)
unfolding items_bytes
items_more i b = length-append (item_bytes i) (items_bytes b)

-- what conditions and changes take, in two lists, the first so far to the right
abbrev listed : String → List Formula → List Change → ℕ
listed indent fs cs = length (lines indent formula_text fs) + length (lines "      " change_text cs)

module _ (props vars : ℕ) (few_props : props ≤ 120) (few_vars : vars ≤ 16) (indent : String) (narrow : length (ascii indent) ≤ 6) where
  -- an item adds a line for its condition or for its effect: at most ten bytes for each of its bytes
  pub block_size :
      (b : Block)
      → All (ItemOk paper written props vars) b
      → listed indent (formulas_of b) (changes_of b) ≤ 10 * length (items_bytes b) + 2
  unfolding formulas_of changes_of formula_text change_text item_bytes terms_of item_command width ascii
  block_size [] ok = omega (arith, lines_none indent formula_text, lines_none "      " change_text)
  block_size (need p ∷ b) ok =
      let small : p < props = ok.0 in
      omega (
        arith,
        narrow,
        items_more (need p) b,
        lines_more indent formula_text (atom p) (formulas_of b),
        atom_size p (omega arith),
        block_size b ok.1,
      )
  block_size (add p ∷ b) ok =
      let small : p < props = ok.0 in
      omega (
        arith,
        items_more (add p) b,
        lines_more "      " change_text (gain p) (changes_of b),
        atom_size p (omega arith),
        block_size b ok.1,
      )
  block_size (delete p ∷ b) ok =
      let small : p < props = ok.0 in
      omega (
        arith,
        items_more (delete p) b,
        lines_more "      " change_text (lose p) (changes_of b),
        lose_size p (omega arith),
        block_size b ok.1,
      )
  block_size (condition c ∷ b) ok =
      omega (
        arith,
        narrow,
        items_more (condition c) b,
        length_item (condition c),
        lines_more indent formula_text (compare_of c) (formulas_of b),
        condition_size vars few_vars c ok.0,
        block_size b ok.1,
      )
  block_size (effect e ∷ b) ok =
      omega (
        arith,
        items_more (effect e) b,
        length_item (effect e),
        lines_more "      " change_text (alter_of e) (changes_of b),
        effect_size vars few_vars e ok.0,
        block_size b ok.1,
      )

-- ---- moves
module _ (props vars : ℕ) (few_props : props ≤ 120) (few_vars : vars ≤ 16) where
  action_size :
      (n : ℕ) (b : Block)
      → n < 1000
      → All (ItemOk paper written props vars) b
      → length (action_text (action_of n b)) ≤ 10 * length (items_bytes b) + 80
  unfolding action_text action_of ascii
  action_size n b few ok =
      simp length-append
      (omega (arith, decimal_within 2 n few, block_size props vars few_props few_vars "      " (omega arith) b ok))

  pub actions_size :
      (n : ℕ) (ms : List Block)
      → n + length ms ≤ 64
      → All (BlockOk paper written props vars) ms
      → length (lines "  " action_text (actions_from n ms)) ≤ 10 * length (moves_bytes ms) + 73 * length ms + 1
  unfolding actions_from moves_bytes ascii
  actions_size n [] few ok = omega (arith, lines_none "  " action_text)
  actions_size n (m ∷ ms) few ok =
      omega (
        arith,
        lines_more "  " action_text (action_of n m) (actions_from (suc n) ms),
        action_size n m (omega arith) ok.0.items,
        actions_size (suc n) ms (omega arith) ok.1,
        length-append (items_bytes m) (moves_bytes ms),
      )
