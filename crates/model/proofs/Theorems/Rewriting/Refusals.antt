-- The rewriter "makes all checks but 16": it accepts and refuses as read does wherever read does not refuse with 16, and never gives 16
-- itself. Assumes nothing.
use Prim.Native.Nat.{ℕ, zero, suc, ◌≤◌}
use Rattle.std.proofs.Common.{arith, sym, ◌∙◌, subst, inl, inr}
use Rattle.std.specs.Prelude.{◌≡◌, ◌⊎◌, ltb, length, get_or}
use Rattle.std.proofs.Math.Path.{refl}
use Rattle.std.proofs.Math.Bool.{Bool, true, false}
use mathlib.Core.List.{List, [], ◌∷◌}
use Rattle.std.proofs.Math.Option.{Option, none, some}
use Rattle.std.proofs.Math.Dec.{lit≤}
use Rattle.model.specs.declared.Refusal.{Refusal}
use Rattle.model.specs.Limits.{Limits}
use Rattle.model.specs.Circle.{circular}
use Rattle.model.specs.Command.{Command, head, open_move, open_goal, end_table, need_prop, add_prop, delete_prop, term, close_condition, close_effect, unknown, command_of, Place, start, preamble, in_move, in_goal, finished}
use Rattle.model.specs.Seen.{Seen, nothing_seen, advance}
use Rattle.model.specs.Reading.{Table, Verdict, accepted, refused, both, stored, head_wanted, wrong3, wrong2, wrong6, checks16, wrong16, operands, first_wrong, wrong5, refused_at, refused_operand, first_refusal, refusal, table_of, verdict_of, at_end, done, step_with, read_command, continue, read_from, length_limit, reading}
use Rattle.model.specs.Theorems.Reading.Places.{IfSome, IfRefused}

-- ---- one command

same_head : (c : Command) → head_wanted both c ≡ head_wanted stored c
unfolding head_wanted
same_head (head f) = refl
same_head open_move = refl
same_head open_goal = refl
same_head end_table = refl
same_head need_prop = refl
same_head add_prop = refl
same_head delete_prop = refl
same_head term = refl
same_head close_condition = refl
same_head close_effect = refl
same_head unknown = refl

unchecked : (s : Seen) (c : Command) → wrong16 stored s c ≡ false
unfolding wrong16 checks16
unchecked s (head f) = refl
unchecked s open_move = refl
unchecked s open_goal = refl
unchecked s end_table = refl
unchecked s need_prop = refl
unchecked s add_prop = refl
unchecked s delete_prop = refl
unchecked s term = refl
unchecked s close_condition = refl
unchecked s close_effect = refl
unchecked s unknown = refl

-- the numbers of the checks of a table, 16 apart
abbrev Checked : Refusal → Type 0
Checked r = r.number ≤ 7

-- read's refusal of a command and the rewriter's are the same, or read's is 16
module _ (L : Limits) (t : List ℕ) (s : Seen) (c : Command) (P : Option Refusal → Option Refusal → Type 0)
    (same : (r : Refusal) → Checked r → P (some r) (some r))
    (sixteen : (r : Refusal) (o : Option Refusal) → r.number ≡ 16 → IfSome Checked o → P (some r) o)
    (neither : P none none)
  where
    both_refusals : P (refusal L both t s c) (refusal L stored t s c)
    unfolding refusal wrong3 first_refusal refused_at refused_operand
    both_refusals =
        rw (← same_head c, unchecked s c)
        (go (wrong3 both s c) (wrong2 t s c) (wrong6 s c) (wrong16 both s c) (first_wrong (operands L t s c)) (wrong5 L t s c))
      where
        behind : Option ℕ → Bool → List (Option Refusal)
        behind o n = refused_operand s.at o ∷ refused_at 5 n s.at ∷ []

        later : (o : Option ℕ) (n : Bool) → IfSome Checked (first_refusal (behind o n))
        later (some o) n = lit≤ tt
        later none true = lit≤ tt
        later none false = tt

        go :
            (h k l m : Bool) (o : Option ℕ) (n : Bool)
            → P (first_refusal (refused_at 3 h s.at ∷ refused_at 2 k s.at ∷ refused_at 6 l s.at ∷ refused_at 16 m s.at ∷ behind o n))
            (first_refusal (refused_at 3 h s.at ∷ refused_at 2 k s.at ∷ refused_at 6 l s.at ∷ none ∷ behind o n))
        go true k l m o n = same (record { number = 3; place = s.at }) (lit≤ tt)
        go false true l m o n = same (record { number = 2; place = s.at }) (lit≤ tt)
        go false false true m o n = same (record { number = 6; place = s.at }) (lit≤ tt)
        go false false false true o n = sixteen (record { number = 16; place = s.at }) (first_refusal (behind o n)) refl (later o n)
        go false false false false (some o) n = same _ (lit≤ tt)
        go false false false false none true = same (record { number = 5; place = s.at }) (lit≤ tt)
        go false false false false none false = neither

-- ---- the whole table
abbrev Is16 : Verdict → Type 0
Is16 (accepted k) = ⊥
Is16 (refused r) = r.number ≡ 16

-- read's verdict and the rewriter's
abbrev Alike : Verdict → Verdict → Type 0
Alike a b = ((a ≡ b) ⊎ Is16 a) × IfRefused Checked b

end_checked : (t : List ℕ) (s : Seen) (p : Place) → IfRefused Checked (at_end t s p)
unfolding at_end verdict_of
end_checked t s start = lit≤ tt
end_checked t s preamble = lit≤ tt
end_checked t s in_move = lit≤ tt
end_checked t s in_goal = lit≤ tt
end_checked t s finished = go (circular (table_of s).task)
  where
    go : (b : Bool) → IfRefused Checked (elim b [ true ↦ refused (record { number = 7; place = 0 }) | false ↦ accepted (table_of s) ])
    go true = lit≤ tt
    go false = tt

module _ (L : Limits) (t : List ℕ) where
  from_alike : (n : ℕ) (s : Seen) → Alike (read_from L both t n s) (read_from L stored t n s)
  unfolding read_from read_command step_with continue
  from_alike zero s = (inl refl, lit≤ tt)
  from_alike (suc n) s = go (ltb s.at (length t)) (λ d. from_alike n d)
    where
      c : Command
      c = command_of (get_or t s.at 0)

      next : Option Refusal → Verdict
      next o = continue (λ d. read_from L stored t n d) (step_with t s c o)

      checked : (o : Option Refusal) → IfSome Checked o → ((d : Seen) → Alike (read_from L both t n d) (read_from L stored t n d)) → IfRefused Checked (next o)
      checked none h rest = (rest (advance t s c)).1
      checked (some r) h rest = h

      go :
          (b : Bool)
          → ((d : Seen) → Alike (read_from L both t n d) (read_from L stored t n d))
          → Alike (continue (λ d. read_from L both t n d) (elim b [ true ↦ step_with t s c (refusal L both t s c) | false ↦ done (at_end t s s.place) ]))
          (continue (λ d. read_from L stored t n d) (elim b [ true ↦ step_with t s c (refusal L stored t s c) | false ↦ done (at_end t s s.place) ]))
      go true rest =
          both_refusals L t s c (λ a o. Alike (continue (λ d. read_from L both t n d) (step_with t s c a)) (next o))
          (λ r h. (inl refl, h)) (λ r o h few. (inr h, checked o few rest)) (rest (advance t s c))
      go false rest = (inl refl, end_checked t s s.place)

  both_alike : Alike (reading L both t) (reading L stored t)
  unfolding reading length_limit
  both_alike = go (ltb (length_limit L stored t) (length t))
    where
      go :
          (b : Bool)
          → Alike (elim b [ true ↦ refused (record { number = 1; place = 0 }) | false ↦ read_from L both t (suc (length t)) nothing_seen ])
          (elim b [ true ↦ refused (record { number = 1; place = 0 }) | false ↦ read_from L stored t (suc (length t)) nothing_seen ])
      go true = (inl refl, lit≤ tt)
      go false = from_alike (suc (length t)) nothing_seen

  -- what read accepts, the rewriter accepts
  pub stored_accepts : {k : Table} → reading L both t ≡ accepted k → reading L stored t ≡ accepted k
  stored_accepts {k} e = go both_alike.0
    where
      go : (reading L both t ≡ reading L stored t) ⊎ Is16 (reading L both t) → reading L stored t ≡ accepted k
      go (inl same) = sym same ∙ e
      go (inr h) = absurd (subst Is16 e h)

  -- "makes all checks but 16": what read refuses with another number, the rewriter refuses with that number, at that place
  pub stored_refuses : {r : Refusal} → reading L both t ≡ refused r → (r.number ≡ 16 → ⊥) → reading L stored t ≡ refused r
  stored_refuses {r} e other = go both_alike.0
    where
      go : (reading L both t ≡ reading L stored t) ⊎ Is16 (reading L both t) → reading L stored t ≡ refused r
      go (inl same) = sym same ∙ e
      go (inr h) = absurd (other (subst Is16 e h))

  -- its numbers are those of the other checks, 1 to 7
  pub stored_numbers : {r : Refusal} → reading L stored t ≡ refused r → r.number ≤ 7
  stored_numbers e = subst (IfRefused Checked) e both_alike.1

  -- so the rewriter never refuses with 16
  pub never_16 : {r : Refusal} → reading L stored t ≡ refused r → r.number ≡ 16 → ⊥
  never_16 e is = omega (arith, stored_numbers e)
