-- The trial campaigns of document 01 that are marked *, settled together from their bytes: one theorem, computed.
-- Assumes nothing.
use Rattle.std.specs.Prelude.{ℕ, ◌^◌, ◌-◌, ◌≡◌, List, [], ◌∷◌, ◌++◌, ℤ, pos, negsuc, length, replicate, Ok, Err}
use Rattle.model.specs.Limits.{paper}
use Rattle.model.specs.Task.{written}
use Rattle.model.specs.Move.{Solves, real}
use Rattle.model.specs.Reading.{Table, only, reading, accepted}
use Rattle.model.specs.StateTable.{state_of}
use Rattle.model.specs.Calls.{read_answer, normalise_answer, normalise_out, decide_answer, plan_answer, plan_memory, plan_out}
use Rattle.model.specs.Listing.{listing}
use Rattle.model.specs.declared.DecideAnswer.TheVariants as decide
use Rattle.model.specs.declared.PlanAnswer.TheVariants as plan
use Rattle.model.specs.Theorems.Campaigns.Tables.{zeros, m1, m1_normal, empty_goal, doubling, even_steps, below, below_normal, chain, chain_state, self_reading}

-- unbounded as layer memory holds it
abbrev U : ℤ
U = pos (2 ^ 63 - 1)

-- so many numbers of layer memory, all 7 before the call
abbrev sevens : ℕ → List ℤ
sevens n = replicate n (pos 7)

-- the normal form of a written table, in an output of so many bytes
abbrev normal_of : ℕ → List ℕ → List ℕ
normal_of n t = normalise_out paper t (zeros n)

pub record Trials : Type 0 where
  -- M1: 64 bytes, normal form 85
  pub m1_length : length m1 ≡ 64
  pub m1_read : read_answer paper m1 ≡ Ok (record { kind = 0x54; props = 1; vars = 2; moves = 3 })
  pub m1_normal_holds : normalise_answer paper m1 (zeros 85) ≡ Ok 85
  pub m1_normal_bytes : normalise_out paper m1 (zeros 85) ≡ m1_normal
  -- 3 records, layers 2; move 0 alone is helpful
  pub m1_decide : decide_answer paper m1_normal (zeros 9) (sevens 16) ≡ Ok (decide.Plan 2 2)
  pub m1_plan : plan_answer paper m1_normal (zeros 9) (sevens 16) (zeros 30) ≡ Ok (plan.Plan 2 2 3 1)
  pub m1_records :
      plan_out paper m1_normal (zeros 9) (sevens 16) (zeros 30)
      ≡ (0x52 ∷ 0 ∷ 0 ∷ 0 ∷ 0 ∷ 0 ∷ 0 ∷ 0 ∷ 0 ∷ 2 ∷ [])
      ++ (0x52 ∷ 1 ∷ 0 ∷ 0 ∷ 0 ∷ 0 ∷ 0 ∷ 0 ∷ 0 ∷ 4 ∷ [])
      ++ (0x52 ∷ 2 ∷ 0 ∷ 0 ∷ 0 ∷ 0 ∷ 0 ∷ 0 ∷ 0 ∷ 1 ∷ [])
  -- "2; 0 1 1; 0 0 0 0; U 0 0 0; U U U 0, 16 numbers"
  pub m1_memory :
      plan_memory paper m1_normal (zeros 9) (sevens 16)
      ≡ (pos 2 ∷ pos 0 ∷ pos 1 ∷ pos 1 ∷ [])
      ++ (pos 0 ∷ pos 0 ∷ pos 0 ∷ pos 0 ∷ U ∷ pos 0 ∷ pos 0 ∷ pos 0 ∷ U ∷ U ∷ U ∷ pos 0 ∷ [])
  -- "With 15 numbers: refusal 14, place 2": the layers made before stay, the entries of the ended step are not made
  pub m1_short :
      plan_answer paper m1_normal (zeros 9) (sevens 15) (zeros 30) ≡ Err (record { number = 14; place = 2 })
  pub m1_short_memory :
      plan_memory paper m1_normal (zeros 9) (sevens 15)
      ≡ (negsuc 0 ∷ pos 0 ∷ negsuc 0 ∷ negsuc 0 ∷ [])
      ++ (pos 0 ∷ pos 0 ∷ pos 0 ∷ pos 0 ∷ U ∷ pos 0 ∷ pos 0 ∷ pos 0 ∷ pos 7 ∷ pos 7 ∷ pos 7 ∷ [])
  -- "plan 3 layers 2", then "0 2", "1 4", "2 1", a line each
  pub m1_listing :
      listing paper m1 (zeros 9)
      ≡ (112 ∷ 108 ∷ 97 ∷ 110 ∷ 32 ∷ 51 ∷ 32 ∷ 108 ∷ 97 ∷ 121 ∷ 101 ∷ 114 ∷ 115 ∷ 32 ∷ 50 ∷ 10 ∷ [])
      ++ (48 ∷ 32 ∷ 50 ∷ 10 ∷ 49 ∷ 32 ∷ 52 ∷ 10 ∷ 50 ∷ 32 ∷ 49 ∷ 10 ∷ [])
  -- "Empty goal: 0 records, layers 0."
  pub empty_goal_holds : plan_answer paper (normal_of 6 empty_goal) [] [] [] ≡ Ok (plan.Plan 0 0 0 0)
  -- "v += v, goal v ≥ 8: from 0 no plan; from 1 count 7."
  pub doubling_from_0 : plan_answer paper (normal_of 39 doubling) (zeros 4) (sevens 5) (zeros 10) ≡ Ok (plan.NoPlan 0 0 0)
  pub doubling_from_1 :
      plan_answer paper (normal_of 39 doubling) (0 ∷ 0 ∷ 0 ∷ 1 ∷ []) (sevens 5) (zeros 10) ≡ Ok (plan.Plan 1 1 1 1)
  pub doubling_count :
      plan_out paper (normal_of 39 doubling) (0 ∷ 0 ∷ 0 ∷ 1 ∷ []) (sevens 5) (zeros 10)
      ≡ 0x52 ∷ 0 ∷ 0 ∷ 0 ∷ 0 ∷ 0 ∷ 0 ∷ 0 ∷ 0 ∷ 7 ∷ []
  -- "v += 2 from 0, goal v = 1: count 1, though no real list solves it."
  pub even_steps_holds : plan_answer paper (normal_of 41 even_steps) (zeros 4) (sevens 5) (zeros 10) ≡ Ok (plan.Plan 1 1 1 1)
  pub even_steps_count :
      plan_out paper (normal_of 41 even_steps) (zeros 4) (sevens 5) (zeros 10)
      ≡ 0x52 ∷ 0 ∷ 0 ∷ 0 ∷ 0 ∷ 0 ∷ 0 ∷ 0 ∷ 0 ∷ 1 ∷ []
  pub even_steps_real :
      (k : Table) → reading paper (only written) even_steps ≡ accepted k
      → (bs : List ℕ) → Solves real k.task (state_of 0 (zeros 4)) bs → ⊥
  -- "v < −1,000,000 becomes −v ≥ 1,000,001."
  pub below_normal_holds : normalise_out paper below (zeros 16) ≡ below_normal
  -- "1,000,000,000,000 passes; with v0 := 1000 v1 + 1, 15 at layer 2."
  pub chain_passes :
      decide_answer paper (normal_of 58 (chain 0)) chain_state (sevens 20) ≡ Ok (decide.NoPlan 2)
  pub chain_refused :
      decide_answer paper (normal_of 58 (chain 1)) chain_state (sevens 20)
      ≡ Err (record { number = 15; place = 2 })
  -- "v := v + 1: refusal 7."
  pub self_reading_holds : read_answer paper self_reading ≡ Err (record { number = 7; place = 0 })
