-- The rig's calls on small tables, by computation; and M1 under the rig's ceiling: the premises of demand 3 can be met there. Assumes nothing.
use Rattle.std.specs.Prelude.{ℕ, zero, suc, ◌≡◌, List, [], ◌∷◌, ◌++◌, pos, replicate, drop, Ok, Err}
use Rattle.std.proofs.Math.Option.{some}
use Rattle.model.specs.Limits.{paper}
use Rattle.model.specs.Calls.{normalise_out}
use Rattle.ceiling.specs.Ceiling.{rig, seventeen, read_answer_under, block_refusal_under, normalise_answer_under, step_answer_under, decide_answer_under, decide_memory_under}
use Rattle.model.specs.Theorems.Campaigns.Tables.{zeros, m1}
use Rattle.ceiling.specs.Theorems.Fitting.{last_fitting}

-- so many moves, each of which adds p0
unfoldable pub adding : ℕ → List ℕ
adding zero = []
adding (suc n) = 0x41 ∷ 0x2B ∷ 0 ∷ adding n

pub record RigCases : Type 0 where
  -- 8 written variables pass and 9 do not; of a normal head 16 pass and 18 do not
  pub eight : read_answer_under rig paper (0x54 ∷ 0 ∷ 8 ∷ 0 ∷ 0x47 ∷ 0x45 ∷ []) ≡ Ok (record { kind = 0x54; props = 0; vars = 8; moves = 0 })
  pub nine : read_answer_under rig paper (0x54 ∷ 0 ∷ 9 ∷ 0 ∷ 0x47 ∷ 0x45 ∷ []) ≡ Err seventeen
  pub sixteen : read_answer_under rig paper (0x4E ∷ 0 ∷ 16 ∷ 0 ∷ 0x47 ∷ 0x45 ∷ []) ≡ Ok (record { kind = 0x4E; props = 0; vars = 16; moves = 0 })
  pub eighteen : read_answer_under rig paper (0x4E ∷ 0 ∷ 18 ∷ 0 ∷ 0x47 ∷ 0x45 ∷ []) ≡ Err seventeen
  -- 16 moves pass and 17 do not; 120 propositions pass
  pub moves16 : read_answer_under rig paper (0x54 ∷ 120 ∷ 0 ∷ 16 ∷ adding 16 ++ (0x47 ∷ 0x45 ∷ [])) ≡ Ok (record { kind = 0x54; props = 120; vars = 0; moves = 16 })
  pub moves17 : read_answer_under rig paper (0x54 ∷ 120 ∷ 0 ∷ 17 ∷ adding 17 ++ (0x47 ∷ 0x45 ∷ [])) ≡ Err seventeen
  -- "checked just after the table is accepted": a circle comes first, and so does the fault of a command
  pub circle_first :
      read_answer_under rig paper
      (0x54 ∷ 0 ∷ 9 ∷ 1 ∷ 0x41 ∷ 0x57 ∷ 0 ∷ 0 ∷ 1 ∷ 0x46 ∷ 0 ∷ 0 ∷ 0 ∷ 0 ∷ 0 ∷ 0 ∷ 0x47 ∷ 0x45 ∷ [])
      ≡ Err (record { number = 7; place = 0 })
  pub fault_first : read_answer_under rig paper (0x54 ∷ 0 ∷ 9 ∷ 0 ∷ 0x47 ∷ []) ≡ Err (record { number = 2; place = 5 })
  -- and a head that the call does not want
  pub head_first : normalise_answer_under rig paper (0x4E ∷ 0 ∷ 18 ∷ 0 ∷ 0x47 ∷ 0x45 ∷ []) [] ≡ Err (record { number = 3; place = 0 })
  -- a state of the wrong length, a missing block, and outputs and memories that are too short come after it
  pub before_13 : normalise_answer_under rig paper (0x54 ∷ 0 ∷ 9 ∷ 0 ∷ 0x47 ∷ 0x45 ∷ []) [] ≡ Err seventeen
  pub before_8 : step_answer_under rig paper (0x54 ∷ 0 ∷ 9 ∷ 0 ∷ 0x47 ∷ 0x45 ∷ []) [] 0 [] ≡ Err seventeen
  pub before_10 : block_refusal_under rig paper (0x54 ∷ 0 ∷ 9 ∷ 0 ∷ 0x47 ∷ 0x45 ∷ []) 5 ≡ some seventeen
  pub before_14 : decide_answer_under rig paper (0x4E ∷ 0 ∷ 18 ∷ 0 ∷ 0x47 ∷ 0x45 ∷ []) [] [] ≡ Err seventeen
  -- M1 under a ceiling of 15 numbers, in a memory of 18: what lies behind the 15 is neither used nor written
  pub fifteen :
      decide_answer_under (record { moves = 3; vars = 2; numbers = some 15 }) paper (normalise_out paper m1 (zeros 85)) (zeros 9)
      (replicate 18 (pos 7))
      ≡ Err (record { number = 14; place = 2 })
  pub kept_behind :
      drop 12 (decide_memory_under (record { moves = 3; vars = 2; numbers = some 15 }) paper (normalise_out paper m1 (zeros 85)) (zeros 9)
      (replicate 18 (pos 7)))
      ≡ replicate 6 (pos 7)
  -- the largest layers that 2,048 numbers hold: of the largest tables, and of M1's counts, P 1, A 3 and N 4
  pub largest : last_fitting 2048 120 16 16 ≡ 118
  pub m1_fits : last_fitting 2048 1 3 4 ≡ 510
