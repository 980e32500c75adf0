-- Lists checked from their bytes, computed: M1 of document 01, and a table whose values can leave the range and come back. Assumes nothing.
use Rattle.std.specs.Prelude.{ℕ, ◌≡◌, List, [], ◌∷◌, ◌++◌, replicate, Result, Ok, Err}
use Rattle.model.specs.Limits.{paper}
use Rattle.model.specs.Theorems.Campaigns.Tables.{zeros, m1, m1_normal, empty_goal}
use Rattle.schedule.specs.declared.Fault.TheVariants as fault
use Rattle.schedule.specs.declared.CheckAnswer.{CheckAnswer}
use Rattle.schedule.specs.declared.CheckAnswer.TheVariants as check
use Rattle.schedule.specs.Check.{check_answer, check_out}
use Rattle.model.specs.declared.Refusal.{Refusal}

-- v += 1,000,000; v −= 1; goal v = 0
unfoldable pub swing : List ℕ
swing =
    (0x54 ∷ 0 ∷ 1 ∷ 2 ∷ 0x41 ∷ 0x46 ∷ 1 ∷ 0 ∷ 0x00 ∷ 0x0F ∷ 0x42 ∷ 0x40 ∷ 0x41 ∷ 0x46 ∷ 2 ∷ 0 ∷ 0 ∷ 0 ∷ 0 ∷ 1 ∷ [])
    ++ (0x47 ∷ 0x57 ∷ 0 ∷ 0 ∷ 1 ∷ 0x43 ∷ 4 ∷ 0 ∷ 0 ∷ 0 ∷ 0 ∷ 0x45 ∷ [])

-- an output of so many bytes
abbrev room : ℕ → List ℕ
room n = replicate n 0xA5

-- from a state in which all is false and 0
abbrev m1_answer : List ℕ → ℕ → Result CheckAnswer Refusal
m1_answer ms n = check_answer paper m1 (zeros 9) ms (room n)

-- from a small value of v
abbrev swing_answer : ℕ → List ℕ → ℕ → Result CheckAnswer Refusal
swing_answer v ms n = check_answer paper swing (0 ∷ 0 ∷ 0 ∷ v ∷ []) ms (room n)

abbrev refuse : ℕ → ℕ → Result CheckAnswer Refusal
refuse n p = Err (record { number = n; place = p })

-- a list of real moves that solves M1
abbrev good : List ℕ
good = 0 ∷ 0 ∷ 2 ∷ 0 ∷ 1 ∷ 1 ∷ 1 ∷ 1 ∷ []

pub record CheckCases : Type 0 where
  -- yes, with the end state; what lies behind it is kept
  pub said : m1_answer good 9 ≡ Ok (check.Yes 9)
  pub ended : check_out paper m1 (zeros 9) good (room 10) ≡ 1 ∷ 0 ∷ 0 ∷ 0 ∷ 3 ∷ 0 ∷ 0 ∷ 0 ∷ 8 ∷ 0xA5 ∷ []
  -- "goal not met", which writes nothing; also where the goal is met at the start or on the way, and not at the end
  pub not_met : m1_answer (0 ∷ 0 ∷ 2 ∷ []) 9 ≡ Ok check.GoalNotMet
  pub kept : check_out paper m1 (zeros 9) (0 ∷ 0 ∷ 2 ∷ []) (room 9) ≡ room 9
  pub at_start : swing_answer 0 (1 ∷ []) 4 ≡ Ok check.GoalNotMet
  pub on_the_way : swing_answer 1 (1 ∷ 1 ∷ []) 4 ≡ Ok check.GoalNotMet
  -- the first index, with its fault: A itself is missing
  pub missing : m1_answer (0 ∷ 3 ∷ 2 ∷ []) 9 ≡ Ok (check.Fails 1 fault.Missing)
  pub not_allowed : m1_answer (0 ∷ 2 ∷ 3 ∷ []) 9 ≡ Ok (check.Fails 1 fault.NotAllowed)
  pub out_of_range : swing_answer 1 (0 ∷ []) 4 ≡ Ok (check.Fails 0 fault.OutOfRange)
  -- a value that leaves the range and comes back is not forgiven; 1,000,000 is in range
  pub not_forgiven : swing_answer 1 (1 ∷ 0 ∷ 0 ∷ 1 ∷ []) 4 ≡ Ok (check.Fails 2 fault.OutOfRange)
  pub at_the_edge : swing_answer 0 (0 ∷ 1 ∷ []) 4 ≡ Ok check.GoalNotMet
  -- 13 comes last: after the list, after the goal
  pub short : m1_answer good 8 ≡ refuse 13 0
  pub list_first : m1_answer (3 ∷ []) 0 ≡ Ok (check.Fails 0 fault.Missing)
  pub goal_first : m1_answer [] 0 ≡ Ok check.GoalNotMet
  -- the table's refusals first, then the state's
  pub normal_table_lem : check_answer paper m1_normal (zeros 9) (3 ∷ []) (room 9) ≡ refuse 3 0
  pub state_length : check_answer paper m1 (zeros 8) (3 ∷ []) (room 9) ≡ refuse 8 0
  pub state_byte : check_answer paper m1 (2 ∷ zeros 8) (3 ∷ []) (room 9) ≡ refuse 9 0
  -- nothing to do: an empty list, an empty goal, no state
  pub nothing : check_answer paper empty_goal [] [] [] ≡ Ok (check.Yes 0)
