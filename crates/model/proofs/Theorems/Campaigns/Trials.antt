-- The trial campaigns of document 01 that are marked *, settled together from their bytes: one theorem, computed.
-- Assumes nothing.
use Rattle.std.specs.Prelude.{ℕ, zero, suc, ◌*◌, ◌<◌, ◌≡◌, refl, true, ◌&&◌, List, [], ◌∷◌, T, ℤ, pos, ◌+ℤ◌, ◌*ℤ◌, ◌≤ℤ◌}
use Rattle.std.proofs.Common.{ap, subst, ◌∙◌, arith}
use Rattle.std.specs.Int.Signed.{le_z, le_z_yes}
use Rattle.integer.specs.Linear.{zlin, +-zero, one-*}
use Rattle.model.specs.Limits.{paper}
use Rattle.model.specs.Task.{written, equal, increase, condition, effect}
use Rattle.model.specs.Move.{State, Solves, real, applicable, move_at}
use Rattle.model.specs.Reading.{Table, only, reading, accepted}
use Rattle.model.specs.StateTable.{state_of}
use Rattle.model.specs.Theorems.Campaigns.Tables.{zeros, m1, m1_normal, empty_goal, doubling, even_steps, below, below_normal, chain, chain_state, self_reading}
use Rattle.model.proofs.Theorems.Laws.Booleans.{and_left, and_right}
use Rattle.model.specs.Theorems.Campaigns.Computing.{computing}
use Rattle.model.specs.Theorems.Campaigns.Trials.{Trials}

-- what `even_steps` is read as
even_table : Table
even_table =
    record {
      header = record { form = written; props = 0; vars = 1; moves = 1 };
      task =
          record {
            props = 0;
            vars = 1;
            moves = (effect (record { kind = increase; var = 0; terms = []; base = pos 2 }) ∷ []) ∷ [];
            goal =
                condition
                (record { terms = record { var = 0; weight = pos 1 } ∷ []; comparison = equal; bound = pos 1 })
                ∷ [];
          };
      marks = 4 ∷ 12 ∷ 23 ∷ [];
    }

even_read : reading paper (only written) even_steps ≡ accepted even_table
unfolding computing even_steps even_table
even_read = refl

-- the goal asks for 1, and an even value is not 1
even_goal : (n : ℕ) (s : State) → s.val 0 ≡ pos (2 * n) → T (applicable s even_table.task.goal) → ⊥
unfolding computing even_table
even_goal n s e h =
    let x : ℤ = (pos 1 *ℤ s.val 0) +ℤ pos 0 in
    let both : T (le_z (pos 1) x && le_z x (pos 1)) = and_left (le_z (pos 1) x && le_z x (pos 1)) true h in
    let low : pos 1 ≤ℤ x = le_z_yes (and_left (le_z (pos 1) x) (le_z x (pos 1)) both) in
    let high : x ≤ℤ pos 1 = le_z_yes (and_right (le_z (pos 1) x) (le_z x (pos 1)) both) in
    let value : x ≡ pos (2 * n) = +-zero (pos 1 *ℤ s.val 0) ∙ one-* (s.val 0) ∙ e in
    let at_least : pos 1 ≤ℤ pos (2 * n) = rw value at low in
    let at_most : pos (2 * n) ≤ℤ pos 1 = rw value at high in
    omega zlin

-- each run of the one move adds 2
even_always : (bs : List ℕ) (n : ℕ) (s : State) → s.val 0 ≡ pos (2 * n) → Solves real even_table.task s bs → ⊥
unfolding computing even_table
even_always [] n s e h = even_goal n s e h
even_always (zero ∷ bs) n s e h =
    even_always bs (suc n) (real (move_at even_table.task 0) s)
    (ap (λ (z : ℤ). z +ℤ pos 2) e ∙ ap pos (omega arith)) h.2
even_always (suc b ∷ bs) n s e h = let bad : suc b < 1 = h.0 in absurd (omega arith)

zero_start : (state_of 0 (zeros 4)).val 0 ≡ pos (2 * 0)
unfolding computing
zero_start = refl

even_never :
    (k : Table) → reading paper (only written) even_steps ≡ accepted k
    → (bs : List ℕ) → Solves real k.task (state_of 0 (zeros 4)) bs → ⊥
even_never k e bs h =
    let same : k ≡ even_table = cc even_read in
    even_always bs 0 (state_of 0 (zeros 4)) zero_start (subst (λ (x : Table). Solves real x.task (state_of 0 (zeros 4)) bs) same h)

pub trials : Trials
unfolding computing m1 m1_normal empty_goal doubling even_steps below below_normal chain chain_state self_reading
trials =
    record {
      m1_length = refl;
      m1_read = refl;
      m1_normal_holds = refl;
      m1_normal_bytes = refl;
      m1_decide = refl;
      m1_plan = refl;
      m1_records = refl;
      m1_memory = refl;
      m1_short = refl;
      m1_short_memory = refl;
      m1_listing = refl;
      empty_goal_holds = refl;
      doubling_from_0 = refl;
      doubling_from_1 = refl;
      doubling_count = refl;
      even_steps_holds = refl;
      even_steps_count = refl;
      even_steps_real = even_never;
      below_normal_holds = refl;
      chain_passes = refl;
      chain_refused = refl;
      self_reading_holds = refl;
    }
