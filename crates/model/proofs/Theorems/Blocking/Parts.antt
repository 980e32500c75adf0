-- The parts of a goal: which one is the first that a layer does not meet, and where its 50 or 43 stands in the normal table.
-- Assumes nothing.
use Rattle.std.specs.Prelude.{ℕ, zero, suc, ◌+◌, ◌≤◌, ◌<◌, refl, ◌↔◌, ◌⊎◌, true, false, take, drop}
use Rattle.std.proofs.Common.{lt_of_not-le, le_of_suc-le-suc, le_antisymm, sym, ◌∙◌, subst, inl, inr, true≢false, T_not}
use native.Mathlib.Omega.{arith}
use Rattle.std.proofs.Math.Path.{◌≡◌, ap}
use Rattle.std.proofs.Math.Bool.{not}
use mathlib.Core.List.{List, [], ◌∷◌, ◌++◌, append_assoc}
use Rattle.std.proofs.Math.Option.{Option, none, some}
use Rattle.std.proofs.Math.Dec.{T, not_T}
use Rattle.std.proofs.Math.ListN.{length, get_or, length-append}
use Rattle.std.proofs.Math.Seq.{get_or-append_seam}
use Rattle.model.specs.Task.{normal, Condition, Item, need, add, delete, condition, effect, Block, Task, terms_of}
use Rattle.model.specs.Command.{head, open_goal, end_table, code_of, term_bytes, item_bytes, items_bytes, moves_bytes, task_bytes}
use Rattle.model.specs.Layer.{Layer, holds_in, usable}
use Rattle.model.specs.Blocking.{goal_part, first_unmet, before_part, part_offset}
use Rattle.model.specs.Theorems.Reading.WellFormed.{All, GoalItem}
use Rattle.model.proofs.Theorems.Laws.Booleans.{T_true, true_t, not-false, false_not, T-stable}
use Rattle.model.proofs.Theorems.Laws.Searching.{All-at, at_all, all_all, All-all, first_from_cases}
use Rattle.model.specs.Theorems.Printing.Items.{item_command, item_operands, closing}
use Rattle.model.proofs.Theorems.Printing.Items.{item_parts}
use Rattle.model.specs.Theorems.Blocking.Parts.{FirstUnmet, unmet_size}

module _ {k : Task} {l : Layer} where
  not_later : {m n : ℕ} → FirstUnmet k l m → FirstUnmet k l n → m ≤ n
  not_later {n} a b = le_of_suc-le-suc (lt_of_not-le (λ h. true≢false (sym (a.before n h) ∙ b.unmet)))

  -- there is one at most
  pub first_one : {m n : ℕ} → FirstUnmet k l m → FirstUnmet k l n → m ≡ n
  first_one a b = le_antisymm (not_later a b) (not_later b a)

module _ (k : Task) (l : Layer) where
  holds_not : (u : ℕ) → (T (not (holds_in l (goal_part k u))) → ⊥) → holds_in l (goal_part k u) ≡ true
  holds_not u h = T_true (holds_in l (goal_part k u)) (T-stable (holds_in l (goal_part k u)) (λ f. h (not_T (holds_in l (goal_part k u)) f)))

  -- the search finds it, or the layer meets every part
  unmet_cases :
      (P : Option ℕ → Type 0)
      → ((n : ℕ) → FirstUnmet k l n → P (some n))
      → (((u : ℕ) → u < length k.goal → holds_in l (goal_part k u) ≡ true) → P none)
      → P (first_unmet k l)
  unfolding first_unmet
  unmet_cases P found nothing =
      first_from_cases (λ n. not (holds_in l (goal_part k n))) P 0 (length k.goal)
      (λ n low high t before.
      found n
      (record {
        inside = omega arith;
        unmet = not-false (holds_in l (goal_part k n)) (T_not (holds_in l (goal_part k n)) t);
        before = λ u h. holds_not u (before u (omega arith) h);
      }))
      (λ never. nothing (λ u h. holds_not u (never u (omega arith) (omega arith))))

  pub first_unmet_holds : (n : ℕ) → (first_unmet k l ≡ some n) ↔ FirstUnmet k l n
  first_unmet_holds n = (
    unmet_cases (λ o. o ≡ some n → FirstUnmet k l n) (λ m a e. let same : m ≡ n = cc in subst (FirstUnmet k l) same a)
        (λ met e. let z : ◌≡◌ {A = ℕ} 0 1 = cc in absurd (omega arith)),
    λ a. unmet_cases (λ o. o ≡ some n) (λ m b. ap some (first_one b a)) (λ met. absurd (true≢false (sym (met n a.inside) ∙ a.unmet))),
  )

  -- the layer meets the goal exactly where there is none
  pub unmet_none : (first_unmet k l ≡ none) ↔ (usable l k.goal ≡ true)
  unfolding usable goal_part
  unmet_none = (
    unmet_cases (λ o. o ≡ none → usable l k.goal ≡ true) (λ m a e. let z : ◌≡◌ {A = ℕ} 0 1 = cc in absurd (omega arith))
        (λ met e.
        T_true (usable l k.goal)
        (All-all (holds_in l) k.goal (at_all (λ i. T (holds_in l i)) k.goal (need 0) (λ i h. true_t (met i h))))),
    λ whole.
        unmet_cases (λ o. o ≡ none)
        (λ m a.
        absurd
        (false_not a.unmet (All-at (λ i. T (holds_in l i)) k.goal m (need 0) (all_all (holds_in l) k.goal (true_t whole)) a.inside)))
        (λ met. refl),
  )

  -- so where it does not meet the goal, there is one
  pub unmet_some : usable l k.goal ≡ false → (n : ℕ) × (first_unmet k l ≡ some n)
  unmet_some unmet = go (first_unmet k l) refl
    where
      go : (o : Option ℕ) → first_unmet k l ≡ o → (n : ℕ) × (first_unmet k l ≡ some n)
      go none e = absurd (true≢false (sym (unmet_none.0 e) ∙ unmet))
      go (some n) e = (n, e)

-- ---- where it stands
-- the bytes of a block from the command on that closes item n
abbrev from_item : Block → ℕ → List ℕ
from_item b n = closing (get_or b n (need 0)) ++ items_bytes (drop (suc n) b)

unmet_size_lem :
    (l : Layer) (b : Block) (n : ℕ)
    → n < length b
    → holds_in l (get_or b n (need 0)) ≡ false
    → ((u : ℕ) → u < n → holds_in l (get_or b u (need 0)) ≡ true)
    → unmet_size l b ≡ length (from_item b n)
unfolding unmet_size
unmet_size_lem l [] n h unmet before = absurd (omega arith)
unmet_size_lem l (i ∷ b) zero h unmet before = rw (unmet_size, unmet) refl
unmet_size_lem l (i ∷ b) (suc n) h unmet before =
    rw (unmet_size, before 0 (omega arith)) (unmet_size_lem l b n (omega arith) unmet (λ u g. before (suc u) (omega arith)))

-- a block's bytes, parted before the command that closes item n
items_parted :
    (b : Block) (n : ℕ) → n < length b → items_bytes b ≡ items_bytes (take n b) ++ term_bytes (terms_of (get_or b n (need 0))) ++ from_item b n
unfolding items_bytes closing
items_parted [] n h = absurd (omega arith)
items_parted (i ∷ b) zero h = rw (item_parts i) (append_assoc (term_bytes (terms_of i)) (closing i) (items_bytes b))
items_parted (i ∷ b) (suc n) h =
    let before = items_bytes (take n b) in
    let terms = term_bytes (terms_of (get_or b n (need 0))) in
    rw (items_parted b n (omega arith), append_assoc (item_bytes i) before terms, append_assoc (item_bytes i) (before ++ terms) (from_item b n)) refl

-- three lists, then two more, all behind each other
regroup : (a b c d e : List ℕ) → a ++ (b ++ c ++ (d ++ e)) ≡ a ++ b ++ c ++ d ++ e
regroup a b c d e =
    rw (append_assoc (a ++ b ++ c) d e, append_assoc (a ++ b) c (d ++ e), append_assoc a b (c ++ (d ++ e)), append_assoc b c (d ++ e)) refl

module _ (k : Task) (n : ℕ) (h : n < length k.goal) where
  -- The normal table, parted before the 50 or 43 of part n.
  pub part_print :
      task_bytes normal k ≡ before_part k n ++ closing (goal_part k n) ++ items_bytes (drop (suc n) k.goal) ++ code_of end_table ∷ []
  unfolding task_bytes before_part goal_part
  part_print =
      ap (λ (goal : List ℕ). front ++ (code_of open_goal ∷ goal) ++ code_of end_table ∷ []) (items_parted k.goal n h)
      ∙ ap (λ (table : List ℕ). table ++ code_of end_table ∷ [])
      (regroup front (code_of open_goal ∷ items_bytes (take n k.goal)) (term_bytes (terms_of part)) (closing part) (items_bytes (drop (suc n) k.goal)))
    where
      part : Item
      part = get_or k.goal n (need 0)

      front : List ℕ
      front = code_of (head normal) ∷ k.props ∷ k.vars ∷ length k.moves ∷ moves_bytes k.moves

  -- its length: up to the command of the part, from there to the goal's end, and the 45
  part_length : part_offset k n + length (from_item k.goal n) + 1 ≡ length (task_bytes normal k)
  unfolding part_offset goal_part
  part_length =
      let before = before_part k n in
      let command = closing (goal_part k n) in
      let rest = items_bytes (drop (suc n) k.goal) in
      rw part_print
      (omega (
        arith,
        length-append (before ++ command ++ rest) (code_of end_table ∷ []),
        length-append (before ++ command) rest,
        length-append before command,
        length-append command rest,
      ))

  -- the offset is within the table, behind the head and the 47
  pub offset_inside : (5 ≤ part_offset k n) × (part_offset k n < length (task_bytes normal k))
  unfolding part_offset before_part
  offset_inside =
      let front = code_of (head normal) ∷ k.props ∷ k.vars ∷ length k.moves ∷ moves_bytes k.moves in
      let goal = code_of open_goal ∷ items_bytes (take n k.goal) in (
        omega (arith, length-append (front ++ goal) (term_bytes (terms_of (goal_part k n))), length-append front goal),
        omega (arith, part_length),
      )

  -- "the offset .. of the .. 50 or 43 command": the byte there is the command of the part
  pub part_command : get_or (task_bytes normal k) (part_offset k n) 0 ≡ code_of (item_command (goal_part k n))
  unfolding part_offset closing
  part_command =
      let before = before_part k n in
      let command = closing (goal_part k n) in
      let rest = items_bytes (drop (suc n) k.goal) in
      let end = code_of end_table ∷ [] in
      ap (λ (table : List ℕ). get_or table (part_offset k n) 0)
      (part_print ∙ append_assoc (before ++ command) rest end ∙ append_assoc before command (rest ++ end))
      ∙ get_or-append_seam before (code_of (item_command (goal_part k n))) (item_operands (goal_part k n) ++ (rest ++ end)) 0

-- from the command of the first unmet part to the end of the table there are the unmet bytes and the 45
pub unmet_offset :
    (k : Task) (l : Layer) (n : ℕ) → first_unmet k l ≡ some n → part_offset k n + unmet_size l k.goal + 1 ≡ length (task_bytes normal k)
unfolding goal_part
unmet_offset k l n e =
    let a = (first_unmet_holds k l n).0 e in
    rw (unmet_size_lem l k.goal n a.inside a.unmet a.before) (part_length k n a.inside)

-- ---- which command, and that an offset names one part
command_code : (i : Item) → GoalItem i → (code_of (item_command i) ≡ 0x50) ⊎ (code_of (item_command i) ≡ 0x43)
unfolding code_of item_command
command_code (need p) g = inl refl
command_code (add p) g = absurd g
command_code (delete p) g = absurd g
command_code (condition c) g = inr refl
command_code (effect e) g = absurd g

-- an item's command and what follows it are no longer than the block, and longer than the same of a later item
from_short : (b : Block) (n : ℕ) → n < length b → length (from_item b n) ≤ length (items_bytes b)
from_short b n h =
    let before = items_bytes (take n b) ++ term_bytes (terms_of (get_or b n (need 0))) in
    rw (items_parted b n h) (omega (arith, length-append before (from_item b n)))

from_falls : (b : Block) (n m : ℕ) → n < m → m < length b → length (from_item b m) < length (from_item b n)
unfolding closing
from_falls [] n m h l = absurd (omega arith)
from_falls (i ∷ b) n zero h l = absurd (omega arith)
from_falls (i ∷ b) zero (suc m) h l = omega (arith, from_short b m (omega arith), length-append (item_operands i) (items_bytes b))
from_falls (i ∷ b) (suc n) (suc m) h l = from_falls b n m (omega arith) (omega arith)

module _ (k : Task) where
  -- "the first 50 or 43 command of the goal": one of them stands there,
  pub part_code :
      (n : ℕ) → n < length k.goal → All GoalItem k.goal
      → (get_or (task_bytes normal k) (part_offset k n) 0 ≡ 0x50) ⊎ (get_or (task_bytes normal k) (part_offset k n) 0 ≡ 0x43)
  unfolding goal_part
  part_code n h goal =
      rw (part_command k n h) (command_code (goal_part k n) (All-at GoalItem k.goal n (need 0) goal h))

  -- and of a condition the 43, whatever terms it closes, not the 57 of the first of them
  pub part_condition :
      (n : ℕ) (c : Condition) → n < length k.goal → goal_part k n ≡ condition c → get_or (task_bytes normal k) (part_offset k n) 0 ≡ 0x43
  unfolding code_of item_command
  part_condition n c h e = part_command k n h ∙ ap (λ (i : Item). code_of (item_command i)) e

  -- offsets rise with the parts,
  pub offset_rises : (n m : ℕ) → n < m → m < length k.goal → part_offset k n < part_offset k m
  offset_rises n m h l =
      omega (arith, part_length k n (omega arith), part_length k m l, from_falls k.goal n m h l)

  -- so an offset is that of one part
  pub offset_one : (n m : ℕ) → n < length k.goal → m < length k.goal → part_offset k n ≡ part_offset k m → n ≡ m
  offset_one n m h l e =
      le_antisymm (le_of_suc-le-suc (lt_of_not-le (λ less. omega (arith, offset_rises m n less h))))
      (le_of_suc-le-suc (lt_of_not-le (λ less. omega (arith, offset_rises n m less l))))
