-- The numbers and places of refusals are small: the number of a table's or a state's is 1 to `full_number`, and a place of a table stands at
-- most three bytes behind the longest one. Assumes nothing.
use Rattle.std.specs.Prelude.{ℕ, zero, suc, ◌+◌, ◌*◌, ◌≤◌, ◌<◌, Bool, true, false, not, List, [], ◌∷◌, T, eqb, leb, ltb, length, get_or}
use Rattle.std.proofs.Math.Option.{Option, none, some}
use Rattle.std.proofs.Common.{arith, ltb→lt, nltb→le, lit≤}
use Rattle.model.specs.declared.Refusal.{Refusal}
use Rattle.model.specs.Limits.{Limits, full_number}
use Rattle.model.specs.Lists.{first_from}
use Rattle.model.specs.Circle.{circular}
use Rattle.model.specs.Command.{Command, head, open_move, open_goal, end_table, need_prop, add_prop, delete_prop, term, close_condition, close_effect, unknown, command_of, Place, start, preamble, in_move, in_goal, finished}
use Rattle.model.specs.Seen.{Seen, nothing_seen, advance}
use Rattle.model.specs.Reading.{Table, Verdict, accepted, refused, Wanted, wrong3, wrong2, wrong6, Operand, operands, first_wrong, wrong5, refused_at, refused_operand, first_refusal, refusal, table_of, verdict_of, at_end, done, step_with, read_command, continue, read_from, length_limit, reading, wrong16}
use Rattle.model.specs.StateTable.{value_offset, state_value, value_in_range, refused_value, refused_byte, state_refusal}
use Rattle.model.specs.Theorems.Reading.WellFormed.{All}
use Rattle.model.proofs.Theorems.Laws.Searching.{first_from_cases}
use Rattle.model.specs.Theorems.Reading.Places.{Full, IfRefused, IfSome, Near, SmallTo}

-- ---- one command
first_small : (P : Refusal → Type 0) (rs : List (Option Refusal)) → All (IfSome P) rs → IfSome P (first_refusal rs)
unfolding first_refusal
first_small P [] h = tt
first_small P (none ∷ rs) h = first_small P rs h.1
first_small P (some r ∷ rs) h = h.0

refused_at_small : (limit n : ℕ) (b : Bool) (p : ℕ) → 1 ≤ n → n ≤ full_number → p ≤ limit → IfSome (Full limit) (refused_at n b p)
unfolding refused_at
refused_at_small limit n true p g h k = record { positive = g; number = h; place = k }
refused_at_small limit n false p g h k = tt

pub operands_near : (L : Limits) (t : List ℕ) (s : Seen) (c : Command) → All Near (operands L t s c)
unfolding operands
operands_near L t s (head f) = ((lit≤ tt, lit≤ tt), ((lit≤ tt, lit≤ tt), ((lit≤ tt, lit≤ tt), tt)))
operands_near L t s open_move = tt
operands_near L t s open_goal = tt
operands_near L t s end_table = tt
operands_near L t s need_prop = ((lit≤ tt, lit≤ tt), tt)
operands_near L t s add_prop = ((lit≤ tt, lit≤ tt), tt)
operands_near L t s delete_prop = ((lit≤ tt, lit≤ tt), tt)
operands_near L t s term = ((lit≤ tt, lit≤ tt), ((lit≤ tt, lit≤ tt), tt))
operands_near L t s close_condition = ((lit≤ tt, lit≤ tt), ((lit≤ tt, lit≤ tt), tt))
operands_near L t s close_effect = ((lit≤ tt, lit≤ tt), ((lit≤ tt, lit≤ tt), ((lit≤ tt, lit≤ tt), tt)))
operands_near L t s unknown = tt

operand_small : (p : ℕ) (os : List Operand) → All Near os → IfSome (Full (p + 3)) (refused_operand p (first_wrong os))
unfolding first_wrong refused_operand
operand_small p [] h = tt
operand_small p (o ∷ os) h = go o.in_range (operand_small p os h.1)
  where
    go :
        (b : Bool) → IfSome (Full (p + 3)) (refused_operand p (first_wrong os))
        → IfSome (Full (p + 3)) (refused_operand p (elim b [ true ↦ first_wrong os | false ↦ some o.offset ]))
    go true rest = rest
    go false rest = record { positive = lit≤ tt; number = lit≤ tt; place = omega (arith, h.0.1) }

refusal_small : (L : Limits) (w : Wanted) (t : List ℕ) (s : Seen) (c : Command) → IfSome (Full (s.at + 3)) (refusal L w t s c)
unfolding refusal
refusal_small L w t s c =
    first_small (Full (s.at + 3))
    (refused_at 3 (wrong3 w s c) s.at
    ∷ refused_at 2 (wrong2 t s c) s.at
    ∷ refused_at 6 (wrong6 s c) s.at
    ∷ refused_at 16 (wrong16 w s c) s.at
    ∷ refused_operand s.at (first_wrong (operands L t s c))
    ∷ refused_at 5 (wrong5 L t s c) s.at
    ∷ []) (
      refused_at_small (s.at + 3) 3 (wrong3 w s c) s.at (lit≤ tt) (lit≤ tt) (omega arith),
      (
        refused_at_small (s.at + 3) 2 (wrong2 t s c) s.at (lit≤ tt) (lit≤ tt) (omega arith),
        (
          refused_at_small (s.at + 3) 6 (wrong6 s c) s.at (lit≤ tt) (lit≤ tt) (omega arith),
          (
            refused_at_small (s.at + 3) 16 (wrong16 w s c) s.at (lit≤ tt) (lit≤ tt) (omega arith),
            (
              operand_small s.at (operands L t s c) (operands_near L t s c),
              (refused_at_small (s.at + 3) 5 (wrong5 L t s c) s.at (lit≤ tt) (lit≤ tt) (omega arith), tt),
            ),
          ),
        ),
      ),
    )

-- ---- the whole table
pub small_wider : {k l m n : ℕ} {r : Refusal} → k ≤ l → m ≤ n → SmallTo k m r → SmallTo l n r
small_wider g h s = record { positive = s.positive; number = omega (arith, s.number); place = omega (arith, s.place) }

verdict_small : (t : List ℕ) (k : Table) → IfRefused (Full (length t + 3)) (verdict_of k)
unfolding verdict_of
verdict_small t k = go (circular k.task)
  where
    go : (b : Bool) → IfRefused (Full (length t + 3)) (elim b [ true ↦ refused (record { number = 7; place = 0 }) | false ↦ accepted k ])
    go true = record { positive = lit≤ tt; number = lit≤ tt; place = omega arith }
    go false = tt

end_small : (t : List ℕ) (s : Seen) (p : Place) → IfRefused (Full (length t + 3)) (at_end t s p)
unfolding at_end
end_small t s start = record { positive = lit≤ tt; number = lit≤ tt; place = omega arith }
end_small t s preamble = record { positive = lit≤ tt; number = lit≤ tt; place = omega arith }
end_small t s in_move = record { positive = lit≤ tt; number = lit≤ tt; place = omega arith }
end_small t s in_goal = record { positive = lit≤ tt; number = lit≤ tt; place = omega arith }
end_small t s finished = verdict_small t (table_of s)

read_from_small : (L : Limits) (w : Wanted) (t : List ℕ) (n : ℕ) (s : Seen) → IfRefused (Full (length t + 3)) (read_from L w t n s)
unfolding read_from read_command step_with continue
read_from_small L w t zero s = record { positive = lit≤ tt; number = lit≤ tt; place = omega arith }
read_from_small L w t (suc n) s = go (ltb s.at (length t)) (ltb→lt s.at (length t)) (λ d. read_from_small L w t n d)
  where
    c : Command
    c = command_of (get_or t s.at 0)

    stepped :
        (r : Option Refusal) → IfSome (Full (length t + 3)) r
        → ((d : Seen) → IfRefused (Full (length t + 3)) (read_from L w t n d))
        → IfRefused (Full (length t + 3)) (continue (λ d. read_from L w t n d) (step_with t s c r))
    stepped none h rest = rest (advance t s c)
    stepped (some r) h rest = h

    within : s.at < length t → IfSome (Full (length t + 3)) (refusal L w t s c)
    within h = if_some (refusal L w t s c) (refusal_small L w t s c)
      where
        if_some : (r : Option Refusal) → IfSome (Full (s.at + 3)) r → IfSome (Full (length t + 3)) r
        if_some none x = tt
        if_some (some r) x = small_wider (omega arith) (omega arith) x

    go :
        (b : Bool) → (T b → s.at < length t)
        → ((d : Seen) → IfRefused (Full (length t + 3)) (read_from L w t n d))
        → IfRefused (Full (length t + 3))
        (continue (λ d. read_from L w t n d) (elim b [ true ↦ step_with t s c (refusal L w t s c) | false ↦ done (at_end t s s.place) ]))
    go true inside rest = stepped (refusal L w t s c) (within (inside tt)) rest
    go false inside rest = end_small t s s.place

pub refused_wider : {k l m n : ℕ} (v : Verdict) → k ≤ l → m ≤ n → IfRefused (SmallTo k m) v → IfRefused (SmallTo l n) v
refused_wider (accepted t) g h s = tt
refused_wider (refused r) g h s = small_wider g h s

-- a table that is longer than its limit is refused at place 0
pub reading_refused : (L : Limits) (w : Wanted) (t : List ℕ) → IfRefused (Full (length_limit L w t + 3)) (reading L w t)
unfolding reading
reading_refused L w t = go (ltb (length_limit L w t) (length t)) (nltb→le (length_limit L w t) (length t))
  where
    go :
        (b : Bool) → (T (not b) → length t ≤ length_limit L w t)
        → IfRefused (Full (length_limit L w t + 3)) (elim b [ true ↦ refused (record { number = 1; place = 0 }) | false ↦ read_from L w t (suc (length t)) nothing_seen ])
    go true short = record { positive = lit≤ tt; number = lit≤ tt; place = omega arith }
    go false short =
        let fits : length t ≤ length_limit L w t = short tt in
        refused_wider (read_from L w t (suc (length t)) nothing_seen) (omega arith) (omega arith) (read_from_small L w t (suc (length t)) nothing_seen)

-- ---- a state
pub state_refused : (L : Limits) (props vars : ℕ) (bs : List ℕ) → IfSome (Full (props + 4 * vars)) (state_refusal L props vars bs)
unfolding state_refusal refused_byte refused_value value_offset
state_refused L props vars bs = go (eqb (length bs) (value_offset props vars))
  where
    wrong_byte : ℕ → Bool
    wrong_byte p = not (leb (get_or bs p 0) 1)

    wrong_value : ℕ → Bool
    wrong_value v = not (value_in_range L (state_value props bs v))

    value : IfSome (Full (props + 4 * vars)) (refused_value props (first_from wrong_value 0 vars))
    value =
        first_from_cases wrong_value (λ (o : Option ℕ). IfSome (Full (props + 4 * vars)) (refused_value props o)) 0 vars
        (λ v low high bad before. record { positive = lit≤ tt; number = lit≤ tt; place = omega arith })
        (λ never. tt)

    byte : IfSome (Full (props + 4 * vars)) (refused_byte (first_from wrong_byte 0 props) (refused_value props (first_from wrong_value 0 vars)))
    byte =
        first_from_cases wrong_byte
        (λ (o : Option ℕ). IfSome (Full (props + 4 * vars)) (refused_byte o (refused_value props (first_from wrong_value 0 vars)))) 0 props
        (λ p low high bad before. record { positive = lit≤ tt; number = lit≤ tt; place = omega arith })
        (λ never. value)

    go :
        (b : Bool)
        → IfSome (Full (props + 4 * vars))
        (elim b [
          | true ↦ refused_byte (first_from wrong_byte 0 props) (refused_value props (first_from wrong_value 0 vars))
          | false ↦ some (record { number = 8; place = 0 })
        ])
    go true = byte
    go false = record { positive = lit≤ tt; number = lit≤ tt; place = omega arith }
