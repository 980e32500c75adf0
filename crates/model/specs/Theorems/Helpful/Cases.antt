-- The set of helpful moves from bytes, computed: a case for each part of the sentence (document 02, request 6). Assumes nothing.
use Rattle.std.specs.Prelude.{◌≡◌, List, [], ◌∷◌, ◌++◌, ℕ, ◌*◌, pos, replicate, Ok}
use Rattle.model.specs.declared.PlanAnswer.TheVariants as plan
use Rattle.model.specs.Limits.{paper}
use Rattle.model.specs.Calls.{normalise_out, plan_answer}
use Rattle.model.specs.Theorems.Campaigns.Tables.{zeros}

-- with room for n numbers and r records plan gives answer layer m, r records and the set x
abbrev plans : List ℕ → List ℕ → ℕ → ℕ → ℕ → ℕ → Type 0
plans t bs n m r x = plan_answer paper t bs (replicate n (pos 7)) (zeros (10 * r)) ≡ Ok (plan.Plan m m r x)

-- moves 0 and 1 add p0; goal p0
abbrev twins : List ℕ
twins = 0x4E ∷ 1 ∷ 0 ∷ 2 ∷ 0x41 ∷ 0x2B ∷ 0 ∷ 0x41 ∷ 0x2B ∷ 0 ∷ 0x47 ∷ 0x50 ∷ 0 ∷ 0x45 ∷ []

-- written: move 0 adds p0, move 1 does so where p1 is true, move 2 adds p1; goal p0
abbrev detour : List ℕ
detour =
    (0x54 ∷ 2 ∷ 0 ∷ 3 ∷ 0x41 ∷ 0x2B ∷ 0 ∷ 0x41 ∷ 0x50 ∷ 1 ∷ 0x2B ∷ 0 ∷ 0x41 ∷ 0x2B ∷ 1 ∷ [])
    ++ (0x47 ∷ 0x50 ∷ 0 ∷ 0x45 ∷ [])

-- v0 += 0; v0 += 1; v0 += 2; goal v0 ≥ 1
abbrev increases : List ℕ
increases =
    (0x4E ∷ 0 ∷ 2 ∷ 3 ∷ 0x41 ∷ 0x46 ∷ 1 ∷ 0 ∷ 0 ∷ 0 ∷ 0 ∷ 0 ∷ 0x41 ∷ 0x46 ∷ 1 ∷ 0 ∷ 0 ∷ 0 ∷ 0 ∷ 1 ∷ [])
    ++ (0x41 ∷ 0x46 ∷ 1 ∷ 0 ∷ 0 ∷ 0 ∷ 0 ∷ 2 ∷ 0x47 ∷ 0x57 ∷ 0 ∷ 0 ∷ 1 ∷ 0x43 ∷ 0 ∷ 0 ∷ 0 ∷ 0 ∷ 1 ∷ 0x45 ∷ [])

-- move 0 is v0 := 5, move 1 v0 := v2, move 2 v2 += 1; goal v0 ≥ 5
abbrev assigns : List ℕ
assigns =
    (0x4E ∷ 0 ∷ 4 ∷ 3 ∷ 0x41 ∷ 0x46 ∷ 0 ∷ 0 ∷ 0 ∷ 0 ∷ 0 ∷ 5 ∷ 0x41 ∷ 0x57 ∷ 2 ∷ 0 ∷ 1 ∷ 0x46 ∷ 0 ∷ 0 ∷ 0 ∷ 0 ∷ 0 ∷ 0 ∷ [])
    ++ (0x41 ∷ 0x46 ∷ 1 ∷ 2 ∷ 0 ∷ 0 ∷ 0 ∷ 1 ∷ 0x47 ∷ 0x57 ∷ 0 ∷ 0 ∷ 1 ∷ 0x43 ∷ 0 ∷ 0 ∷ 0 ∷ 0 ∷ 5 ∷ 0x45 ∷ [])

-- move 0 adds p0, move 1 adds p1; goal p0 and p1
abbrev pair : List ℕ
pair = 0x4E ∷ 2 ∷ 0 ∷ 2 ∷ 0x41 ∷ 0x2B ∷ 0 ∷ 0x41 ∷ 0x2B ∷ 1 ∷ 0x47 ∷ 0x50 ∷ 0 ∷ 0x50 ∷ 1 ∷ 0x45 ∷ []

-- move 0 is v0 += 1, move 1 adds p0; goal p0 and v0 ≥ 1
abbrev half_done : List ℕ
half_done =
    (0x4E ∷ 1 ∷ 2 ∷ 2 ∷ 0x41 ∷ 0x46 ∷ 1 ∷ 0 ∷ 0 ∷ 0 ∷ 0 ∷ 1 ∷ 0x41 ∷ 0x2B ∷ 0 ∷ [])
    ++ (0x47 ∷ 0x50 ∷ 0 ∷ 0x57 ∷ 0 ∷ 0 ∷ 1 ∷ 0x43 ∷ 0 ∷ 0 ∷ 0 ∷ 0 ∷ 1 ∷ 0x45 ∷ [])

-- moves 0 and 2 add p0, move 1 adds p1 where p0 is true, moves 3 and 4 add p2; goal p1 and p2
abbrev stairs : List ℕ
stairs =
    (0x4E ∷ 3 ∷ 0 ∷ 5 ∷ 0x41 ∷ 0x2B ∷ 0 ∷ 0x41 ∷ 0x50 ∷ 0 ∷ 0x2B ∷ 1 ∷ 0x41 ∷ 0x2B ∷ 0 ∷ 0x41 ∷ 0x2B ∷ 2 ∷ 0x41 ∷ 0x2B ∷ 2 ∷ [])
    ++ (0x47 ∷ 0x50 ∷ 1 ∷ 0x50 ∷ 2 ∷ 0x45 ∷ [])

-- move 0 adds p0 where p0 is true; goal p0
abbrev stuck : List ℕ
stuck = 0x4E ∷ 1 ∷ 0 ∷ 1 ∷ 0x41 ∷ 0x50 ∷ 0 ∷ 0x2B ∷ 0 ∷ 0x47 ∷ 0x50 ∷ 0 ∷ 0x45 ∷ []

pub record Cases : Type 0 where
  -- a helpful move that the plan does not take
  pub not_taken : plans twins (0 ∷ []) 3 1 1 3
  -- "usable in layer 0": move 1 is not; "wanted": p1 is not
  pub not_usable : plans (normalise_out paper detour (zeros 19)) (zeros 2) 5 1 1 1
  -- "above 0 for +="
  pub above_zero : plans increases (zeros 4) 7 1 1 6
  -- "value in layer 0 at least the target for :=": layer 1 has more for move 1
  pub in_layer_0 : plans assigns (zeros 8) 11 1 1 1
  -- "first had .. at layer 1": p0 is carried down
  pub carried_prop : plans pair (1 ∷ 0 ∷ []) 4 1 1 2
  -- "a target there that layer 0 did not": from v0 = 1 the target of v0 is carried down
  pub carried_target : plans half_done (0 ∷ 0 ∷ 0 ∷ 0 ∷ 1 ∷ []) 7 1 1 2
  -- the wants of layer 1, those carried down to it too, and not the goal's: moves 0, 2, 3 and 4
  pub wants_of_layer_1 : plans stairs (zeros 3) 8 2 3 29
  -- "With answer layer 0 or "no plan" it is empty."
  pub layer_0 : plans stuck (1 ∷ []) 2 0 0 0
  pub no_plan : plan_answer paper stuck (0 ∷ []) (replicate 2 (pos 7)) [] ≡ Ok (plan.NoPlan 0 0 0)
