-- Small cases of the goal part that blocks, for errors that document 02 excludes, from bytes, computed. Assumes nothing.
use Rattle.std.specs.Prelude.{ℕ, ◌≡◌, List, [], ◌∷◌, ◌++◌, ℤ, pos, negsuc, replicate, Some, None, Ok, Err}
use Rattle.model.specs.Limits.{paper}
use Rattle.model.specs.Calls.{normalise_out}
use Rattle.model.specs.Blocking.{blocking_answer, blocking_memory}
use Rattle.model.specs.Theorems.Campaigns.Tables.{zeros, m1_normal}

-- a layer memory of so many numbers, all 7 before the call
abbrev sevens : ℕ → List ℤ
sevens n = replicate n (pos 7)

-- a move that adds p0; goal p0 and p1
unfoldable pub two_props : List ℕ
two_props = 0x4E ∷ 2 ∷ 0 ∷ 1 ∷ 0x41 ∷ 0x2B ∷ 0 ∷ 0x47 ∷ 0x50 ∷ 0 ∷ 0x50 ∷ 1 ∷ 0x45 ∷ []

-- one move, v0 := 5 (kind 0) or v0 += 5 (kind 1) with its mirror; then a goal, from offset 20 on
unfoldable pub five_by : ℕ → List ℕ → List ℕ
five_by kind goal =
    (0x4E ∷ 1 ∷ 4 ∷ 1 ∷ 0x41 ∷ 0x46 ∷ kind ∷ 0 ∷ 0 ∷ 0 ∷ 0 ∷ 5 ∷ 0x46 ∷ kind ∷ 1 ∷ 255 ∷ 255 ∷ 255 ∷ 251 ∷ 0x47 ∷ []) ++ goal

-- parts of goals: v0 ≥ 5, v0 + v1 ≥ 6 and 2 v0 + v1 ≥ 1,000,000, p0; the end
unfoldable pub least5 : List ℕ
least5 = 0x57 ∷ 0 ∷ 0 ∷ 1 ∷ 0x43 ∷ 0 ∷ 0 ∷ 0 ∷ 0 ∷ 5 ∷ []

unfoldable pub least6 : List ℕ
least6 = 0x57 ∷ 0 ∷ 0 ∷ 1 ∷ 0x57 ∷ 2 ∷ 0 ∷ 1 ∷ 0x43 ∷ 0 ∷ 0 ∷ 0 ∷ 0 ∷ 6 ∷ []

unfoldable pub least_million : List ℕ
least_million = 0x57 ∷ 0 ∷ 0 ∷ 2 ∷ 0x57 ∷ 2 ∷ 0 ∷ 1 ∷ 0x43 ∷ 0 ∷ 0x00 ∷ 0x0F ∷ 0x42 ∷ 0x40 ∷ []

unfoldable pub needs0 : List ℕ
needs0 = 0x50 ∷ 0 ∷ []

unfoldable pub end : List ℕ
end = 0x45 ∷ []

-- a move that needs v0 ≥ 1 and adds p0; goal p0
unfoldable pub term_in_move : List ℕ
term_in_move =
    (0x4E ∷ 1 ∷ 2 ∷ 1 ∷ 0x41 ∷ 0x57 ∷ 0 ∷ 0 ∷ 1 ∷ 0x43 ∷ 0 ∷ 0 ∷ 0 ∷ 0 ∷ 1 ∷ 0x2B ∷ 0 ∷ [])
    ++ (0x47 ∷ 0x50 ∷ 0 ∷ 0x45 ∷ [])

-- v += 1, goal v = −1, as written
unfoldable pub missed : List ℕ
missed =
    (0x54 ∷ 0 ∷ 1 ∷ 1 ∷ 0x41 ∷ 0x46 ∷ 1 ∷ 0 ∷ 0 ∷ 0 ∷ 0 ∷ 1 ∷ [])
    ++ (0x47 ∷ 0x57 ∷ 0 ∷ 0 ∷ 1 ∷ 0x43 ∷ 4 ∷ 255 ∷ 255 ∷ 255 ∷ 255 ∷ 0x45 ∷ [])

pub record Cases : Type 0 where
  -- a 50, behind one that is met in the last layer and not in the state
  pub second_proposition : blocking_answer paper two_props (zeros 2) (sevens 3) ≡ Ok (Some 10)
  pub memory_as_decide :
      blocking_memory paper two_props (zeros 2) (sevens 5) ≡ pos 1 ∷ negsuc 0 ∷ pos 0 ∷ pos 7 ∷ pos 7 ∷ []
  -- a 43 behind one that is met, at its own offset: its first 57 stands at 30
  pub offset_of_the_43 :
      blocking_answer paper (five_by 0 (least5 ++ least6 ++ needs0 ++ end)) (zeros 9) (sevens 10) ≡ Ok (Some 38)
  -- "the first .. in table order": a 50 before that 43
  pub first_in_order : blocking_answer paper (five_by 0 (needs0 ++ least6 ++ end)) (zeros 9) (sevens 10) ≡ Ok (Some 20)
  -- a sum with an unbounded term is met, so the 50 behind it blocks; two times 2^63 − 1, added up in 64 bits, would be −2
  pub unbounded_is_met :
      blocking_answer paper (five_by 1 (least_million ++ needs0 ++ end)) (zeros 9) (sevens 10) ≡ Ok (Some 34)
  -- 0 ≥ 1, a sum of no terms
  pub no_terms :
      blocking_answer paper (0x4E ∷ 0 ∷ 0 ∷ 0 ∷ 0x47 ∷ 0x43 ∷ 0 ∷ 0 ∷ 0 ∷ 0 ∷ 1 ∷ 0x45 ∷ []) [] [] ≡ Ok (Some 5)
  -- "the offset, in the normal table": behind the terms of a move
  pub term_in_a_move : blocking_answer paper term_in_move (zeros 5) (sevens 4) ≡ Ok (Some 18)
  -- "= c is S ≥ c, then −S ≥ −c": two parts, and the second blocks
  pub equal_is_two : blocking_answer paper (normalise_out paper missed (zeros 41)) (zeros 4) (sevens 5) ≡ Ok (Some 34)
  -- "If decide answers otherwise, the tool says that nothing blocks."
  pub planned_blocks_nothing : blocking_answer paper m1_normal (zeros 9) (sevens 16) ≡ Ok None
  -- "Refusals and layer memory are those of decide."
  pub short_memory :
      blocking_answer paper (five_by 0 (needs0 ++ least6 ++ end)) (zeros 9) (sevens 9) ≡ Err (record { number = 14; place = 1 })
  pub written_table : blocking_answer paper missed (zeros 4) (sevens 5) ≡ Err (record { number = 3; place = 0 })
