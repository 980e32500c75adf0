-- Reading command by command: as many turns as there are bytes left, and one for the end, always suffice, and what every
-- command keeps holds at the end of an accepted table. Assumes nothing.
use Prim.Native.Nat.{ℕ, zero, suc, ◌+◌, ◌-◌, ◌≤◌, ◌<◌}
use Rattle.std.proofs.Common.{arith, ◌∙◌, lt→ltb, nltb→le}
use Rattle.std.specs.Prelude.{◌≡◌, Bool, not, List, T, ltb}
use Rattle.std.proofs.Math.Path.{refl, ap, subst}
use Rattle.std.proofs.Math.Bool.{true, false}
use Rattle.std.proofs.Math.Dec.{ltb→lt}
use Rattle.std.proofs.Math.ListN.{length}
use Rattle.model.specs.Limits.{Limits}
use Rattle.model.specs.Command.{Command, head, open_move, open_goal, end_table, need_prop, add_prop, delete_prop, term, close_condition, close_effect, unknown, width, Place, start, preamble, in_move, in_goal, finished}
use Rattle.model.specs.Seen.{Seen, nothing_seen, item_at, with_head, with_mark, with_term, with_item, advance}
use Rattle.model.specs.Reading.{Wanted, Table, table_of, Verdict, accepted, refused, verdict_of, at_end, Step, more, done, read_command, continue, read_from, length_limit, reading}
use Rattle.model.specs.Circle.{circular}
use Rattle.model.proofs.Theorems.Laws.Booleans.{T_true, not-false}
use Rattle.model.specs.Theorems.Reading.Commands.{Passes}
use Rattle.model.proofs.Theorems.Reading.Commands.{read_command_cases, unknown_refused, width_positive}

-- ---- every command moves on by its width

pub moves_on : {L : Limits} {w : Wanted} {t : List ℕ} {s : Seen} (c : Command) → Passes L w t s c → (advance t s c).at ≡ s.at + width c
unfolding advance with_head with_mark with_term with_item item_at width
moves_on (head f) h = refl
moves_on open_move h = refl
moves_on open_goal h = refl
moves_on end_table h = refl
moves_on need_prop h = refl
moves_on add_prop h = refl
moves_on delete_prop h = refl
moves_on term h = refl
moves_on close_condition h = refl
moves_on close_effect h = refl
moves_on unknown h = absurd (unknown_refused h)

-- so that fewer bytes are left
pub fewer_left : {L : Limits} {w : Wanted} {t : List ℕ} {s : Seen} (c : Command) → Passes L w t s c → length t - (advance t s c).at < length t - s.at
fewer_left c p = omega (arith, moves_on c p, width_positive c, p.uncut)

-- R holds of the table, if the verdict accepts it
abbrev IfAccepted : (Table → Type 0) → Verdict → Type 0
IfAccepted R (accepted k) = R k
IfAccepted R (refused r) = Unit {0}

verdict_cases : (R : Table → Type 0) (k : Table) → (circular k.task ≡ false → R k) → IfAccepted R (verdict_of k)
unfolding verdict_of
verdict_cases R k right = go (circular k.task) (not-false (circular k.task))
  where
    go : (b : Bool) → ((T b → ⊥) → circular k.task ≡ false) → IfAccepted R (elim b [ true ↦ refused (record { number = 7; place = 0 }) | false ↦ accepted k ])
    go true f = tt
    go false f = right (f (λ a. a))

module _ (L : Limits) (w : Wanted) (t : List ℕ) where
  -- ---- turns

  -- any two numbers of turns that are above the number of bytes left give the same verdict
  pub turns_enough : (n m : ℕ) (s : Seen) → length t - s.at < n → length t - s.at < m → read_from L w t n s ≡ read_from L w t m s
  unfolding read_from continue
  turns_enough zero m s h k = absurd (omega arith)
  turns_enough (suc n) zero s h k = absurd (omega arith)
  turns_enough (suc n) (suc m) s h k =
      read_command_cases L w t s
      (λ (r : Step). continue (λ d. read_from L w t n d) r ≡ continue (λ d. read_from L w t m d) r)
      (λ r. refl)
      (λ c p. turns_enough n m (advance t s c) (omega (arith, fewer_left c p)) (omega (arith, fewer_left c p)))
      (λ e. refl)

  -- the verdict from what has been seen on
  unfoldable pub verdict_from : Seen → Verdict
  verdict_from s = read_from L w t (suc (length t - s.at)) s

  -- One command, then the rest: the turns never run out.
  pub verdict_unrolls : (s : Seen) → verdict_from s ≡ continue verdict_from (read_command L w t s)
  unfolding verdict_from read_from continue
  verdict_unrolls s =
      read_command_cases L w t s
      (λ (r : Step). continue (λ d. read_from L w t (length t - s.at) d) r ≡ continue (λ d. read_from L w t (suc (length t - d.at)) d) r)
      (λ r. refl)
      (λ c p. turns_enough (length t - s.at) (suc (length t - (advance t s c).at)) (advance t s c) (fewer_left c p) (omega arith))
      (λ e. refl)

  pub verdict_more : (s : Seen) {d : Seen} → read_command L w t s ≡ more d → verdict_from s ≡ verdict_from d
  unfolding continue
  verdict_more s e = verdict_unrolls s ∙ ap (continue verdict_from) e

  pub verdict_done : (s : Seen) {v : Verdict} → read_command L w t s ≡ done v → verdict_from s ≡ v
  unfolding continue
  verdict_done s e = verdict_unrolls s ∙ ap (continue verdict_from) e

  -- "table, whole | 1 | too long | 0", then command by command
  pub reading_long : length_limit L w t < length t → reading L w t ≡ refused (record { number = 1; place = 0 })
  unfolding reading
  reading_long h =
      rw (T_true (ltb (length_limit L w t) (length t)) (lt→ltb (length_limit L w t) (length t) h), reading) refl

  pub reading_short : length t ≤ length_limit L w t → reading L w t ≡ verdict_from nothing_seen
  unfolding reading verdict_from nothing_seen
  reading_short h =
      rw (not-false (ltb (length_limit L w t) (length t)) (λ b. omega (arith, ltb→lt (length_limit L w t) (length t) b)), reading)
      (turns_enough (suc (length t)) (suc (length t - 0)) nothing_seen (omega arith) (omega arith))

  -- ---- induction over the commands of an accepted table

  end_cases : (R : Table → Type 0) (s : Seen) (p : Place) → (p ≡ finished → circular (table_of s).task ≡ false → R (table_of s)) → IfAccepted R (at_end t s p)
  unfolding at_end
  end_cases R s start right = tt
  end_cases R s preamble right = tt
  end_cases R s in_move right = tt
  end_cases R s in_goal right = tt
  end_cases R s finished right = verdict_cases R (table_of s) (right refl)

  module _ (P : Seen → Type 0) (R : Table → Type 0)
      (step : (s : Seen) (c : Command) → P s → Passes L w t s c → P (advance t s c))
      (end : (s : Seen) → P s → length t ≤ s.at → s.place ≡ finished → circular (table_of s).task ≡ false → length t ≤ length_limit L w t → R (table_of s))
    where
      read_from_induction : (n : ℕ) (s : Seen) → length t ≤ length_limit L w t → P s → IfAccepted R (read_from L w t n s)
      unfolding read_from continue
      read_from_induction zero s short p = tt
      read_from_induction (suc n) s short p =
          read_command_cases L w t s
          (λ (r : Step). IfAccepted R (continue (λ d. read_from L w t n d) r))
          (λ r. tt)
          (λ c h. read_from_induction n (advance t s c) short (step s c p h))
          (λ e. end_cases R s s.place (λ f no_circle_lem. end s p e f no_circle_lem short))

      -- What holds of nothing seen and is kept by every command that passes its checks holds where an accepted table ends.
      pub reading_induction : {k : Table} → P nothing_seen → reading L w t ≡ accepted k → R k
      unfolding reading
      reading_induction p e =
          subst (IfAccepted R) e (go (ltb (length_limit L w t) (length t)) (nltb→le (length_limit L w t) (length t)))
        where
          go : (b : Bool) → (T (not b) → length t ≤ length_limit L w t) → IfAccepted R (elim b [ true ↦ refused (record { number = 1; place = 0 }) | false ↦ read_from L w t (suc (length t)) nothing_seen ])
          go true f = tt
          go false f = read_from_induction (suc (length t)) nothing_seen (f tt) p
