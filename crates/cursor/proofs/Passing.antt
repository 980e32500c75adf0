-- What an operand that passes check 4 is below, and what check 4 as an offset is as model's definition. Assumes nothing.
use Rattle.std.specs.Prelude.{ℕ, zero, suc, ◌+◌, ◌%◌, ◌≤◌, ◌<◌, ◌≡◌, Bool, ◌&&◌, eqb, leb, ltb, get_or}
use Rattle.std.proofs.Common.{arith}
use Rattle.std.proofs.Math.Path.{refl}
use Rattle.std.proofs.Math.Bool.{true, false}
use mathlib.Core.List.{List, [], ◌∷◌}
use Rattle.std.proofs.Math.Option.{some}
use borrow.Author.Tests.{ltb-true, leb-true}
use Rattle.model.specs.Limits.{Limits, paper, vars_in_range, kind_in_range}
use Rattle.model.specs.Task as task
use Rattle.model.specs.Command.{Command, head, need_prop, add_prop, delete_prop, term, close_effect}
use Rattle.model.specs.Seen.{Seen, byte_after}
use Rattle.model.specs.Reading.{Operand, first_wrong, operands, refused_operand}
use Rattle.model.specs.Theorems.Reading.WellFormed.{All}
use Rattle.model.proofs.Theorems.Laws.Searching.{All-map}
use Rattle.model.proofs.Theorems.Reading.Places.{operands_near}
use Rattle.cursor.specs.declared.Cursor.{Cursor}
use Rattle.command.specs.Names.{form_of}
use Rattle.operand.specs.Ranges.{wrong_operand, view_at, offset_of}
use Rattle.cursor.specs.State.{wrong_at, refused_offset}

in_range_lem : (o : ℕ) (b : Bool) (os : List Operand) → 0 < o → offset_of (first_wrong (record { offset = o; in_range = b } ∷ os)) ≡ 0 → (b ≡ true) × (offset_of (first_wrong os) ≡ 0)
unfolding offset_of first_wrong
in_range_lem o true os h e = (refl, e)
in_range_lem o false os h e = absurd (omega arith)

module _ (t : List ℕ) (c : Cursor) where
  pub need_range : wrong_at t c need_prop ≡ 0 → get_or t (c.at + 1) 0 < c.props
  unfolding wrong_at wrong_operand operands byte_after view_at
  need_range e = ltb-true (get_or t (c.at + 1) 0) c.props (in_range_lem 1 (ltb (get_or t (c.at + 1) 0) c.props) [] (omega arith) e).0

  pub add_range : wrong_at t c add_prop ≡ 0 → get_or t (c.at + 1) 0 < c.props
  unfolding wrong_at wrong_operand operands byte_after view_at
  add_range e = need_range e

  pub delete_range : wrong_at t c delete_prop ≡ 0 → get_or t (c.at + 1) 0 < c.props
  unfolding wrong_at wrong_operand operands byte_after view_at
  delete_range e = need_range e

  pub term_range : wrong_at t c term ≡ 0 → get_or t (c.at + 1) 0 < c.vars
  unfolding wrong_at wrong_operand operands byte_after view_at
  term_range e = ltb-true (get_or t (c.at + 1) 0) c.vars (in_range_lem 1 (ltb (get_or t (c.at + 1) 0) c.vars) _ (omega arith) e).0

  pub effect_range : wrong_at t c close_effect ≡ 0 → get_or t (c.at + 2) 0 < c.vars
  unfolding wrong_at wrong_operand operands byte_after view_at
  effect_range e =
      let after = (in_range_lem 1 (kind_in_range (form_of c.form) (get_or t (c.at + 1) 0)) _ (omega arith) e).1 in
      ltb-true (get_or t (c.at + 2) 0) c.vars (in_range_lem 2 (ltb (get_or t (c.at + 2) 0) c.vars) _ (omega arith) after).0

  vars_most : (f : task.Form) (n : ℕ) → vars_in_range paper f n ≡ true → n ≤ 32
  unfolding vars_in_range paper
  vars_most task.written n e = omega (arith, leb-true n 16 e)
  vars_most task.normal n e = go (leb n 32) (eqb (n % 2) 0) (leb-true n 32) e
    where
      go : (a b : Bool) → (a ≡ true → n ≤ 32) → (a && b) ≡ true → n ≤ 32
      go true b f h = f refl
      go false b f h = f h

  pub head_range : (f : task.Form) → wrong_at t c (head f) ≡ 0 → (get_or t (c.at + 1) 0 ≤ 120) × (get_or t (c.at + 2) 0 ≤ 32) × (get_or t (c.at + 3) 0 ≤ 64)
  unfolding wrong_at wrong_operand operands byte_after view_at paper
  head_range f e =
      let first = in_range_lem 1 (leb (get_or t (c.at + 1) 0) 120) _ (omega arith) e in
      let second = in_range_lem 2 (vars_in_range paper f (get_or t (c.at + 2) 0)) _ (omega arith) first.1 in
      let third = in_range_lem 3 (leb (get_or t (c.at + 3) 0) 64) _ (omega arith) second.1 in
      (leb-true (get_or t (c.at + 1) 0) 120 first.0, vars_most f (get_or t (c.at + 2) 0) second.0, leb-true (get_or t (c.at + 3) 0) 64 third.0)

-- ---- the offset, as model's definition has it
offset_refused : (p : ℕ) (os : List Operand) → All (λ (o : Operand). 0 < o.offset) os → refused_offset p (offset_of (first_wrong os)) ≡ refused_operand p (first_wrong os)
unfolding refused_offset refused_operand offset_of first_wrong
offset_refused p [] a = refl
offset_refused p (o ∷ os) a = go (offset_refused p os a.1) o.in_range
  where
    at_offset : (n : ℕ) → 0 < n → refused_offset p n ≡ some (record { number = 4; place = p + n })
    at_offset zero h = absurd (omega arith)
    at_offset (suc n) h = refl

    go : refused_offset p (offset_of (first_wrong os)) ≡ refused_operand p (first_wrong os) → (b : Bool) → refused_offset p (offset_of (elim b [ true ↦ first_wrong os | false ↦ some o.offset ])) ≡ refused_operand p (elim b [ true ↦ first_wrong os | false ↦ some o.offset ])
    go later true = later
    go later false = at_offset o.offset a.0

offset_bound : (n : ℕ) (os : List Operand) → All (λ (o : Operand). o.offset ≤ n) os → offset_of (first_wrong os) ≤ n
unfolding offset_of first_wrong
offset_bound n [] a = omega arith
offset_bound n (o ∷ os) a = go o.in_range (offset_bound n os a.1)
  where
    go : (b : Bool) → offset_of (first_wrong os) ≤ n → offset_of (elim b [ true ↦ first_wrong os | false ↦ some o.offset ]) ≤ n
    go true later = later
    go false later = a.0

-- an operand stands close behind its command
pub wrong_near : (t : List ℕ) (at : ℕ) (f : task.Form) (props vars : ℕ) (k : Command) → wrong_operand t at f props vars k ≤ 3
unfolding wrong_operand
wrong_near t at f props vars k = offset_bound 3 (operands paper t (view_at at f props vars) k) (All-map (operands paper t (view_at at f props vars) k) (λ o h. h.1) (operands_near paper t (view_at at f props vars) k))

pub operands_refused : (p : ℕ) (L : Limits) (t : List ℕ) (s : Seen) (k : Command) → refused_offset p (offset_of (first_wrong (operands L t s k))) ≡ refused_operand p (first_wrong (operands L t s k))
operands_refused p L t s k = offset_refused p (operands L t s k) (All-map (operands L t s k) (λ o h. h.0) (operands_near L t s k))
