-- Check 4, "operand out of range": signed ranges by two comparisons, and the first operand out of range as its offset behind
-- the command, 0 where there is none. Assumes nothing.
use Rattle.std.specs.Prelude.{ℕ, suc, ◌+◌, ◌≤◌, ◌<◌, ◌≡◌, Bool, true, false, ◌&&◌, List, [], ◌∷◌, leb, ltb, ℤ, pos, negsuc, neg_ℤ, nat_abs}
use Rattle.std.proofs.Common.{arith, sym, ap, ◌∙◌, le-leb, lt-ltb, le-ltb}
use Rattle.std.proofs.Math.Path.{refl}
use Rattle.std.proofs.Math.Option.{Option, none, some}
use Rattle.std.proofs.Math.Dec.{leb-suc-suc}
use Rattle.std.specs.Int.Signed.{le_z}
use Rattle.std.proofs.lemmas.Bool.{lt-leb}
use Rattle.model.specs.Limits.{paper, weight_in_range, base_in_range, bound_in_range}
use Rattle.model.specs.Task.{Form, written, normal}
use Rattle.model.specs.Command.{Command, start}
use Rattle.model.specs.Seen.{Seen}
use Rattle.model.specs.Reading.{Operand, first_wrong, operands}

unfoldable pub between : ℤ → ℤ → ℤ → Bool
between low z high = le_z low z && le_z z high

and-true : (b : Bool) → (b && true) ≡ b
and-true true = refl
and-true false = refl

-- the size of a number, by two comparisons
size_between : (m : ℕ) (z : ℤ) → between (negsuc m) z (pos (suc m)) ≡ leb (nat_abs z) (suc m)
unfolding between
size_between m (pos n) = refl
size_between m (negsuc n) = and-true (leb n m) ∙ sym (leb-suc-suc n m)

pub base_between : (z : ℤ) → between (neg_ℤ (pos paper.constant)) z (pos paper.constant) ≡ base_in_range paper z
unfolding base_in_range paper
base_between z = size_between 999_999 z

pub bound_written : (z : ℤ) → between (neg_ℤ (pos paper.constant)) z (pos paper.constant) ≡ bound_in_range paper written z
unfolding bound_in_range paper
bound_written z = size_between 999_999 z

pub bound_normal : (z : ℤ) → between (neg_ℤ (pos paper.constant)) z (pos (paper.constant + 1)) ≡ bound_in_range paper normal z
unfolding between bound_in_range
bound_normal z = refl

pub weight_normal : (z : ℤ) → between (pos 1) z (pos paper.weight) ≡ weight_in_range paper normal z
unfolding between weight_in_range
weight_normal (pos n) = refl
weight_normal (negsuc n) = refl

pub weight_written : (z : ℤ) → between (neg_ℤ (pos paper.weight)) z (pos paper.weight) ≡ weight_in_range paper written z
unfolding weight_in_range paper
weight_written z = size_between 999 z

-- ---- the first operand out of range

unfoldable pub offset_of : Option ℕ → ℕ
offset_of none = 0
offset_of (some o) = o

module _ (o : ℕ) (b : Bool) (os : List Operand) where
  pub wrong_first : b ≡ false → o ≡ offset_of (first_wrong (record { offset = o; in_range = b } ∷ os))
  unfolding offset_of first_wrong
  wrong_first e = rw e refl

  pub wrong_later : {n : ℕ} → b ≡ true → n ≡ offset_of (first_wrong os) → n ≡ offset_of (first_wrong (record { offset = o; in_range = b } ∷ os))
  unfolding first_wrong
  wrong_later e k = rw e k

pub wrong_none : 0 ≡ offset_of (first_wrong [])
unfolding offset_of first_wrong
wrong_none = refl

-- a command at an offset, under a head: what its operands' ranges depend on
unfoldable pub view_at : ℕ → Form → ℕ → ℕ → Seen
view_at at f props vars =
    record {
      at = at;
      place = start;
      header = record { form = f; props = props; vars = vars; moves = 0 };
      moves = [];
      items = [];
      terms = [];
      marks = [];
    }

unfoldable pub wrong_operand : List ℕ → ℕ → Form → ℕ → ℕ → Command → ℕ
wrong_operand t at f props vars c = offset_of (first_wrong (operands paper t (view_at at f props vars) c))

-- tests on a number that was read
pub at_most_no : (x y m : ℕ) → x ≡ y → m < x → leb y m ≡ false
at_most_no x y m e h = lt-leb y m (omega arith)

pub at_most_yes : (x y m : ℕ) → x ≡ y → x ≤ m → leb y m ≡ true
at_most_yes x y m e h = le-leb y m (omega arith)

pub below_no : (x y m : ℕ) → x ≡ y → m ≤ x → ltb y m ≡ false
below_no x y m e h = le-ltb y m (omega arith)

pub below_yes : (x y m : ℕ) → x ≡ y → x < m → ltb y m ≡ true
below_yes x y m e h = lt-ltb y m (omega arith)

-- a test of a number that was read, made by a call
pub through : {A : Type 0} (f : A → Bool) {x y : A} {r b : Bool} → x ≡ y → r ≡ f x → r ≡ b → f y ≡ b
through f e k h = sym (ap f e) ∙ sym k ∙ h
