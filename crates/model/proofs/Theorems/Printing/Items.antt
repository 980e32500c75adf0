-- Printed terms and items read back: an item is printed as its terms and then the command that closes it, and from there the
-- reading goes on with the item seen. Assumes nothing.
use Rattle.std.specs.Prelude.{ℕ, suc, ◌+◌, ◌*◌, ◌≤◌, ◌≡◌, true, false, not, List, [], ◌∷◌, ◌++◌, T, ℤ, nat_abs, length}
use Rattle.std.proofs.Common.{arith, lt→ltb, le→leb, length-append}
use Rattle.std.proofs.Math.Path.{refl, ap}
use Rattle.std.proofs.Math.Option.{some}
use Rattle.integer.specs.BigEndian.{signed_bytes, half}
use Rattle.integer.proofs.BigEndian.{length_signed_bytes}
use Rattle.model.specs.Limits.{Limits, base_in_range}
use Rattle.model.specs.Lists.{any}
use Rattle.model.specs.Task.{Form, Term, Condition, Effect, Item, need, add, delete, condition, effect, clashes, terms_of}
use Rattle.model.specs.Command.{close_condition, close_effect, code_of, width, comparison_code, kind_code, term_bytes, item_bytes, after_term}
use Rattle.model.specs.Seen.{Seen, byte_after, number_after, item_at, with_item, advance}
use Rattle.model.specs.Reading.{Wanted, head_wanted, leaves_open, wrong6, wrong5, operands, named_again, wrong16}
use Rattle.model.specs.Theorems.Reading.WellFormed.{All, SumOk, ConditionOk, EffectOk, ItemOk}
use Rattle.model.proofs.Theorems.Printing.Operands.{comparison_back, kind_back, comparison_range, kind_range, bound_range, bound_size}
use Rattle.model.specs.Theorems.Printing.Passing.{Left, SmallLimits}
use Rattle.model.proofs.Theorems.Printing.Passing.{left_byte, left_skip, left_number, may_follow}
use Rattle.model.specs.Theorems.Printing.Items.{item_command, item_operands}

-- ---- terms

pub length_terms : (ts : List Term) → length (term_bytes ts) ≡ 4 * length ts
unfolding term_bytes
length_terms [] = refl
length_terms (u ∷ ts) =
    let weight = signed_bytes 2 u.weight in
    omega (arith, length-append weight (term_bytes ts), length_signed_bytes 2 u.weight, length_terms ts)

pub item_parts : (i : Item) → item_bytes i ≡ term_bytes (terms_of i) ++ code_of (item_command i) ∷ item_operands i
unfolding item_bytes terms_of item_command item_operands term_bytes
item_parts (need p) = refl
item_parts (add p) = refl
item_parts (delete p) = refl
item_parts (condition c) = refl
item_parts (effect e) = refl

pub item_wanted : (w : Wanted) (i : Item) → head_wanted w (item_command i) ≡ true
unfolding item_command head_wanted
item_wanted w (need p) = refl
item_wanted w (add p) = refl
item_wanted w (delete p) = refl
item_wanted w (condition c) = refl
item_wanted w (effect e) = refl

pub item_lively : (w : Wanted) (s : Seen) (i : Item) → T (not (wrong16 w s (item_command i)))
unfolding wrong16 item_command
item_lively w s (need p) = tt
item_lively w s (add p) = tt
item_lively w s (delete p) = tt
item_lively w s (condition c) = tt
item_lively w s (effect e) = tt

pub item_counted : (s : Seen) (i : Item) → T (not (wrong6 s (item_command i)))
unfolding item_command wrong6
item_counted s (need p) = tt
item_counted s (add p) = tt
item_counted s (delete p) = tt
item_counted s (condition c) = tt
item_counted s (effect e) = tt

pub item_width : (i : Item) → suc (length (item_operands i)) ≡ width (item_command i)
unfolding item_command item_operands width
item_width (need p) = refl
item_width (add p) = refl
item_width (delete p) = refl
item_width (condition c) = rw (length_signed_bytes 4 c.bound) refl
item_width (effect e) = rw (length_signed_bytes 4 e.base) refl

pub length_item : (i : Item) → length (item_bytes i) ≡ 4 * length (terms_of i) + width (item_command i)
length_item i =
    rw (item_parts i)
    (omega (arith, length-append (term_bytes (terms_of i)) (code_of (item_command i) ∷ item_operands i), length_terms (terms_of i), item_width i))

pub item_sum :
    (L : Limits) (f : Form) (props vars : ℕ) (i : Item)
    → ItemOk L f props vars i
    → SumOk L f vars (terms_of i)
unfolding terms_of
item_sum L f props vars (need p) ok = record { terms = tt; few = omega arith; rising = tt }
item_sum L f props vars (add p) ok = record { terms = tt; few = omega arith; rising = tt }
item_sum L f props vars (delete p) ok = record { terms = tt; few = omega arith; rising = tt }
item_sum L f props vars (condition c) ok = ok.sum
item_sum L f props vars (effect e) ok = ok.sum

-- "Terms are left open where a command other than 57, 43 or 46 follows a term": an item's own terms are closed by its command
pub item_closes : (s : Seen) (i : Item) → s.terms ≡ terms_of i → leaves_open s (item_command i) ≡ false
unfolding item_command terms_of leaves_open after_term
item_closes s (need p) e = rw e refl
item_closes s (add p) e = rw e refl
item_closes s (delete p) e = rw e refl
item_closes s (condition c) e = may_follow s close_condition refl
item_closes s (effect f) e = may_follow s close_effect refl

-- 5: an item that no seen item clashes with is not "named again"
pub item_fresh :
    (L : Limits) (t : List ℕ) (s : Seen) (i : Item)
    → item_at t s (item_command i) ≡ some i
    → T (not (any (λ j. clashes j i) s.items))
    → T (not (wrong5 L t s (item_command i)))
unfolding item_command wrong5 named_again
item_fresh L t s (need p) e n = rw e n
item_fresh L t s (add p) e n = rw e n
item_fresh L t s (delete p) e n = rw e n
item_fresh L t s (condition c) e n = tt
item_fresh L t s (effect f) e n = rw e n

pub item_advance :
    (t : List ℕ) (s : Seen) (i : Item)
    → advance t s (item_command i) ≡ with_item s (width (item_command i)) (item_at t s (item_command i))
unfolding item_command advance
item_advance t s (need p) = refl
item_advance t s (add p) = refl
item_advance t s (delete p) = refl
item_advance t s (condition c) = refl
item_advance t s (effect e) = refl

module _ {L : Limits} (small : SmallLimits L) {t : List ℕ} (s : Seen) (rest : List ℕ) where
  constant_back :
      (i : ℕ) (z : ℤ)
      → Left t (s.at + i) (signed_bytes 4 z ++ rest)
      → nat_abs z ≤ L.constant + 1
      → number_after 4 t s i ≡ z
  unfolding number_after half
  constant_back i z here b = left_number 4 z rest here (omega arith) (omega (arith, small.constant))

  bound_back :
      (c : Condition)
      → Left t s.at (code_of close_condition ∷ comparison_code c.comparison ∷ (signed_bytes 4 c.bound ++ rest))
      → ConditionOk L s.header.form s.header.vars c
      → number_after 4 t s 2 ≡ c.bound
  bound_back c here ok = constant_back 2 c.bound (left_skip here 2) (bound_size L s.header.form c.bound ok.bound)

  base_back :
      (e : Effect)
      → Left t s.at (code_of close_effect ∷ kind_code e.kind ∷ e.var ∷ (signed_bytes 4 e.base ++ rest))
      → EffectOk L s.header.form s.header.vars e
      → number_after 4 t s 3 ≡ e.base
  base_back e here ok = constant_back 3 e.base (left_skip here 3) (omega (arith, ok.base))

  -- the operands that follow an item's command read back as the item
  pub item_back :
      (i : Item)
      → Left t s.at (code_of (item_command i) ∷ (item_operands i ++ rest))
      → s.terms ≡ terms_of i
      → ItemOk L s.header.form s.header.props s.header.vars i
      → item_at t s (item_command i) ≡ some i
  unfolding item_command item_operands terms_of item_at byte_after
  item_back (need p) here e ok = ap (λ (q : ℕ). some (need q)) (left_byte here 1)
  item_back (add p) here e ok = ap (λ (q : ℕ). some (add q)) (left_byte here 1)
  item_back (delete p) here e ok = ap (λ (q : ℕ). some (delete q)) (left_byte here 1)
  item_back (condition c) here e ok = rw (bound_back c here ok, left_byte here 1, comparison_back c.comparison, e) refl
  item_back (effect f) here e ok = rw (base_back f here ok, left_byte here 1, left_byte here 2, kind_back f.kind, e) refl

  -- and are in range
  pub item_ranges :
      (i : Item)
      → Left t s.at (code_of (item_command i) ∷ (item_operands i ++ rest))
      → ItemOk L s.header.form s.header.props s.header.vars i
      → All (λ o. T o.in_range) (operands L t s (item_command i))
  unfolding item_command item_operands operands byte_after base_in_range
  item_ranges (need p) here ok = (rw (left_byte here 1) (lt→ltb p s.header.props ok), tt)
  item_ranges (add p) here ok = (rw (left_byte here 1) (lt→ltb p s.header.props ok), tt)
  item_ranges (delete p) here ok = (rw (left_byte here 1) (lt→ltb p s.header.props ok), tt)
  item_ranges (condition c) here ok = (
    rw (left_byte here 1) (comparison_range s.header.form c.comparison ok.comparison),
    (rw (bound_back c here ok) (bound_range L s.header.form c.bound ok.bound), tt),
  )
  item_ranges (effect f) here ok = (
    rw (left_byte here 1) (kind_range s.header.form f.kind ok.kind),
    (
      rw (left_byte here 2) (lt→ltb f.var s.header.vars ok.var),
      (rw (base_back f here ok) (le→leb (nat_abs f.base) L.constant ok.base), tt),
    ),
  )
