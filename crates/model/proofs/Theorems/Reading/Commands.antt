-- One command of a table (document 01, "each command, in this order"): the number and place of the refusal when a check fails,
-- and what has been seen when none does. `Checks` says what the passed checks of each command give. Assumes nothing.
use Prim.Native.Nat.{ℕ, ◌+◌, ◌≤◌, ◌<◌}
use Rattle.std.proofs.Common.{arith, sym, ap, ◌∙◌, subst, T_not, eqb→eq, lt→ltb}
use Rattle.std.specs.Prelude.{◌≡◌, Bool, true, false, ◌||◌, not, List, [], ◌∷◌, T, eqb, ltb, length}
use Rattle.std.proofs.Math.Path.{refl}
use Rattle.std.proofs.Math.Option.{Option, none, some}
use Rattle.std.proofs.Math.Dec.{ltb→lt, nltb→le}
use Rattle.std.proofs.Math.ListN.{get_or}
use Rattle.model.specs.declared.Refusal.{Refusal}
use Rattle.model.specs.Limits.{Limits}
use Rattle.model.specs.Task.{written, normal}
use Rattle.model.specs.Command.{Command, head, open_move, open_goal, end_table, need_prop, add_prop, delete_prop, term, close_condition, close_effect, unknown, code_of, commands, with_code, command_of, width, Place, start, preamble, in_move, in_goal, finished, in_place}
use Rattle.model.specs.Seen.{Seen, advance}
use Rattle.model.specs.Reading.{Wanted, Operand, head_wanted, leaves_open, wrong3, wrong2, wrong6, operands, first_wrong, wrong5, refused_at, refused_operand, first_refusal, refusal, at_end, Step, more, done, refused, step_with, read_command, wrong16}
use Rattle.model.specs.Theorems.Reading.WellFormed.{All}
use Rattle.model.proofs.Theorems.Laws.Booleans.{T_true, not-false}
use Rattle.model.specs.Theorems.Reading.Commands.{Passes}

-- ---- the refusal of a command: 3, 2, 6, 16, 4, 5, the first that fails

module _ (L : Limits) (w : Wanted) (t : List ℕ) (s : Seen) (c : Command) where
  pub refusal_3 : wrong3 w s c ≡ true → refusal L w t s c ≡ some (record { number = 3; place = s.at })
  unfolding refusal first_refusal refused_at
  refusal_3 h = rw h refl

  pub refusal_2 : wrong3 w s c ≡ false → wrong2 t s c ≡ true → refusal L w t s c ≡ some (record { number = 2; place = s.at })
  unfolding refusal first_refusal refused_at
  refusal_2 h k = rw (h, k) refl

  pub refusal_6 : wrong3 w s c ≡ false → wrong2 t s c ≡ false → wrong6 s c ≡ true → refusal L w t s c ≡ some (record { number = 6; place = s.at })
  unfolding refusal first_refusal refused_at
  refusal_6 h k l = rw (h, k, l) refl

  pub refusal_16 : wrong3 w s c ≡ false → wrong2 t s c ≡ false → wrong6 s c ≡ false → wrong16 w s c ≡ true → refusal L w t s c ≡ some (record { number = 16; place = s.at })
  unfolding refusal first_refusal refused_at
  refusal_16 h k l m = rw (h, k, l, m) refl

  pub refusal_4 : (o : ℕ) → wrong3 w s c ≡ false → wrong2 t s c ≡ false → wrong6 s c ≡ false → wrong16 w s c ≡ false → first_wrong (operands L t s c) ≡ some o → refusal L w t s c ≡ some (record { number = 4; place = s.at + o })
  unfolding refusal first_refusal refused_at refused_operand
  refusal_4 o h k l j m = rw (h, k, l, j, m) refl

  pub refusal_5 : wrong3 w s c ≡ false → wrong2 t s c ≡ false → wrong6 s c ≡ false → wrong16 w s c ≡ false → first_wrong (operands L t s c) ≡ none → wrong5 L t s c ≡ true → refusal L w t s c ≡ some (record { number = 5; place = s.at })
  unfolding refusal first_refusal refused_at refused_operand
  refusal_5 h k l j m n = rw (h, k, l, j, m, n) refl

  pub refusal_none : wrong3 w s c ≡ false → wrong2 t s c ≡ false → wrong6 s c ≡ false → wrong16 w s c ≡ false → first_wrong (operands L t s c) ≡ none → wrong5 L t s c ≡ false → refusal L w t s c ≡ none
  unfolding refusal first_refusal refused_at refused_operand
  refusal_none h k l j m n = rw (h, k, l, j, m, n) refl

-- 4: "the first such one"
pub first_wrong_here : (o : Operand) (os : List Operand) → o.in_range ≡ false → first_wrong (o ∷ os) ≡ some o.offset
unfolding first_wrong
first_wrong_here o os h = rw (h, first_wrong) refl

pub first_wrong_later : (o : Operand) (os : List Operand) → o.in_range ≡ true → first_wrong (o ∷ os) ≡ first_wrong os
unfolding first_wrong
first_wrong_later o os h = rw (h, first_wrong) refl

pub first_wrong_none : (os : List Operand) → All (λ (o : Operand). T o.in_range) os → first_wrong os ≡ none
unfolding first_wrong
first_wrong_none [] a = refl
first_wrong_none (o ∷ os) a = first_wrong_later o os (T_true o.in_range a.0) ∙ first_wrong_none os a.1

-- ---- what is read: the refusal, or one command more, or the end
module _ (L : Limits) (w : Wanted) (t : List ℕ) (s : Seen) where
  pub read_command_refused : (c : Command) (r : Refusal) → s.at < length t → command_of (get_or t s.at 0) ≡ c → refusal L w t s c ≡ some r → read_command L w t s ≡ done (refused r)
  unfolding read_command step_with
  read_command_refused c r h e k = rw (T_true (ltb s.at (length t)) (lt→ltb s.at (length t) h), read_command, e, k) refl

  pub read_command_more : (c : Command) → s.at < length t → command_of (get_or t s.at 0) ≡ c → refusal L w t s c ≡ none → read_command L w t s ≡ more (advance t s c)
  unfolding read_command step_with
  read_command_more c h e k = rw (T_true (ltb s.at (length t)) (lt→ltb s.at (length t) h), read_command, e, k) refl

  pub read_command_end : length t ≤ s.at → read_command L w t s ≡ done (at_end t s s.place)
  unfolding read_command step_with
  read_command_end h = rw (not-false (ltb s.at (length t)) (λ b. omega (arith, ltb→lt s.at (length t) b)), read_command) refl

-- every command takes at least one byte
pub width_positive : (c : Command) → 0 < width c
unfolding width
width_positive (head f) = omega arith
width_positive open_move = omega arith
width_positive open_goal = omega arith
width_positive end_table = omega arith
width_positive need_prop = omega arith
width_positive add_prop = omega arith
width_positive delete_prop = omega arith
width_positive term = omega arith
width_positive close_condition = omega arith
width_positive close_effect = omega arith
width_positive unknown = omega arith

-- what holds of every command with the code b, and of an unknown one, holds of the command that b stands for
with_code_cases : (b : ℕ) (P : Command → Type 0) → ((c : Command) → b ≡ code_of c → P c) → P unknown → (cs : List Command) → P (with_code b cs)
unfolding with_code
with_code_cases b P known other [] = other
with_code_cases b P known other (c ∷ cs) =
    go (eqb b (code_of c)) (eqb→eq b (code_of c)) (with_code_cases b P known other cs)
  where
    go : (e : Bool) → (T e → b ≡ code_of c) → P (with_code b cs) → P (elim e [ true ↦ c | false ↦ with_code b cs ])
    go true same later = known c (same tt)
    go false same later = later

pub command_of_cases : (b : ℕ) (P : Command → Type 0) → ((c : Command) → b ≡ code_of c → P c) → P unknown → P (command_of b)
unfolding command_of
command_of_cases b P known other = with_code_cases b P known other commands

-- no refusal
abbrev Silent : Option Refusal → Type 0
Silent none = Unit {0}
Silent (some r) = ⊥

refused_at_silent : (n : ℕ) (b : Bool) (p : ℕ) → Silent (refused_at n b p) → T (not b)
unfolding refused_at
refused_at_silent n true p h = h
refused_at_silent n false p h = tt

operands_silent : (p : ℕ) (os : List Operand) → Silent (refused_operand p (first_wrong os)) → All (λ (o : Operand). T o.in_range) os
unfolding refused_operand first_wrong
operands_silent p [] h = tt
operands_silent p (o ∷ os) h = go o.in_range (operands_silent p os) h
  where
    go : (b : Bool) → (Silent (refused_operand p (first_wrong os)) → All (λ (u : Operand). T u.in_range) os) → Silent (refused_operand p (elim b [ true ↦ first_wrong os | false ↦ some o.offset ])) → T b × All (λ (u : Operand). T u.in_range) os
    go true later k = (tt, later k)
    go false later k = absurd k

first_refusal_cases : (rs : List (Option Refusal)) (P : Option Refusal → Type 0) → ((r : Refusal) → P (some r)) → (All Silent rs → P none) → P (first_refusal rs)
unfolding first_refusal
first_refusal_cases [] P refuse pass = pass tt
first_refusal_cases (none ∷ rs) P refuse pass = first_refusal_cases rs P refuse (λ a. pass (tt, a))
first_refusal_cases (some r ∷ rs) P refuse pass = refuse r

-- "bytes after 45": no command stands there
pub none_finished : (c : Command) → in_place finished c ≡ false
unfolding in_place
none_finished (head f) = refl
none_finished open_move = refl
none_finished open_goal = refl
none_finished end_table = refl
none_finished need_prop = refl
none_finished add_prop = refl
none_finished delete_prop = refl
none_finished term = refl
none_finished close_condition = refl
none_finished close_effect = refl
none_finished unknown = refl

-- no unknown command stands in its place
unknown_misplaced : (w : Wanted) (s : Seen) → T (wrong3 w s unknown)
unfolding wrong3 in_place
unknown_misplaced w s = go s.place
  where
    go : (p : Place) → T (not (in_place p unknown) || not (head_wanted w unknown) || leaves_open s unknown)
    go start = tt
    go preamble = tt
    go in_move = tt
    go in_goal = tt
    go finished = tt

pub unknown_refused : {L : Limits} {w : Wanted} {t : List ℕ} {s : Seen} → Passes L w t s unknown → ⊥
unknown_refused {w} {s} h = T_not (wrong3 w s unknown) h.placed (unknown_misplaced w s)

-- the byte of a known command stands for it
pub command_of_code : (c : Command) → (c ≡ unknown → ⊥) → command_of (code_of c) ≡ c
unfolding command_of with_code commands code_of
command_of_code (head written) k = refl
command_of_code (head normal) k = refl
command_of_code open_move k = refl
command_of_code open_goal k = refl
command_of_code end_table k = refl
command_of_code need_prop k = refl
command_of_code add_prop k = refl
command_of_code delete_prop k = refl
command_of_code term k = refl
command_of_code close_condition k = refl
command_of_code close_effect k = refl
command_of_code unknown k = absurd (k refl)

module _ (L : Limits) (w : Wanted) (t : List ℕ) (s : Seen) where
  -- a known command is refused, or it passes all checks
  refusal_cases : (c : Command) (P : Option Refusal → Type 0) → get_or t s.at 0 ≡ code_of c → ((r : Refusal) → P (some r)) → (Passes L w t s c → P none) → P (refusal L w t s c)
  unfolding refusal wrong2
  refusal_cases c P e refuse pass =
      first_refusal_cases
      (refused_at 3 (wrong3 w s c) s.at
      ∷ refused_at 2 (wrong2 t s c) s.at
      ∷ refused_at 6 (wrong6 s c) s.at
      ∷ refused_at 16 (wrong16 w s c) s.at
      ∷ refused_operand s.at (first_wrong (operands L t s c))
      ∷ refused_at 5 (wrong5 L t s c) s.at
      ∷ [])
      P refuse
      (λ a.
      pass
      (record {
        code = e;
        placed = refused_at_silent 3 (wrong3 w s c) s.at a.0;
        uncut = nltb→le (length t) (s.at + width c) (refused_at_silent 2 (wrong2 t s c) s.at a.1.0);
        counted = refused_at_silent 6 (wrong6 s c) s.at a.1.1.0;
        lively = refused_at_silent 16 (wrong16 w s c) s.at a.1.1.1.0;
        ranged = operands_silent s.at (operands L t s c) a.1.1.1.1.0;
        fresh = refused_at_silent 5 (wrong5 L t s c) s.at a.1.1.1.1.1.0;
      }))

  pub passes_refusal : {c : Command} → Passes L w t s c → refusal L w t s c ≡ none
  unfolding wrong2
  passes_refusal {c} h =
      refusal_none L w t s c
      (not-false (wrong3 w s c) (T_not (wrong3 w s c) h.placed))
      (not-false (ltb (length t) (s.at + width c)) (λ b. omega (arith, ltb→lt (length t) (s.at + width c) b, h.uncut)))
      (not-false (wrong6 s c) (T_not (wrong6 s c) h.counted))
      (not-false (wrong16 w s c) (T_not (wrong16 w s c) h.lively))
      (first_wrong_none (operands L t s c) h.ranged)
      (not-false (wrong5 L t s c) (T_not (wrong5 L t s c) h.fresh))

  -- A command that passes all checks is read.
  pub read_command_passes : {c : Command} → Passes L w t s c → read_command L w t s ≡ more (advance t s c)
  read_command_passes {c} h =
      read_command_more L w t s c (omega (arith, h.uncut, width_positive c))
      (ap command_of h.code ∙ command_of_code c (λ e. unknown_refused (subst (Passes L w t s) e h)))
      (passes_refusal h)

  -- One command: refused; or it passes all checks and what has been seen goes on by it; or the table is at its end.
  pub read_command_cases :
      (P : Step → Type 0)
      → ((r : Refusal) → P (done (refused r)))
      → ((c : Command) → Passes L w t s c → P (more (advance t s c)))
      → (length t ≤ s.at → P (done (at_end t s s.place)))
      → P (read_command L w t s)
  unfolding read_command step_with
  read_command_cases P refuse pass end =
      go (ltb s.at (length t)) (nltb→le s.at (length t))
    where
      b : ℕ
      b = get_or t s.at 0

      stepped : P (step_with t s (command_of b) (refusal L w t s (command_of b)))
      stepped =
          command_of_cases b (λ (c : Command). P (step_with t s c (refusal L w t s c)))
          (λ c e. refusal_cases c (λ (r : Option Refusal). P (step_with t s c r)) e refuse (pass c))
          (subst (λ (r : Option Refusal). P (step_with t s unknown r)) (sym (refusal_3 L w t s unknown (T_true (wrong3 w s unknown) (unknown_misplaced w s)))) (refuse (record { number = 3; place = s.at })))

      go : (a : Bool) → (T (not a) → length t ≤ s.at) → P (elim a [ true ↦ step_with t s (command_of b) (refusal L w t s (command_of b)) | false ↦ done (at_end t s s.place) ])
      go true past = stepped
      go false past = end (past tt)
