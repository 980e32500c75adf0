-- Small cases for errors that documents 01 and 02 exclude and that no trial campaign shows, from bytes, computed.
-- Assumes nothing.
use Rattle.std.specs.Prelude.{◌≡◌, List, [], ◌∷◌, ◌++◌, ℕ, zero, suc, pos, replicate, Ok, Err}
use Rattle.model.specs.Limits.{paper}
use Rattle.model.specs.Calls.{read_answer, normalise_out, step_out, decide_answer}
use Rattle.model.specs.declared.DecideAnswer.TheVariants as decide
use Rattle.model.specs.Theorems.Campaigns.Tables.{zeros, doubling}

-- v1 += 1; v0 += v1; goal v0 ≥ 1
unfoldable pub relay : List ℕ
relay =
    (0x54 ∷ 0 ∷ 2 ∷ 2 ∷ 0x41 ∷ 0x46 ∷ 1 ∷ 1 ∷ 0 ∷ 0 ∷ 0 ∷ 1 ∷ [])
    ++ (0x41 ∷ 0x57 ∷ 1 ∷ 0 ∷ 1 ∷ 0x46 ∷ 1 ∷ 0 ∷ 0 ∷ 0 ∷ 0 ∷ 0 ∷ [])
    ++ (0x47 ∷ 0x57 ∷ 0 ∷ 0 ∷ 1 ∷ 0x43 ∷ 0 ∷ 0 ∷ 0 ∷ 0 ∷ 1 ∷ 0x45 ∷ [])

-- v0 := 1, v1 := v0 in one move
unfoldable pub swap : List ℕ
swap =
    (0x54 ∷ 0 ∷ 2 ∷ 1 ∷ 0x41 ∷ 0x46 ∷ 0 ∷ 0 ∷ 0 ∷ 0 ∷ 0 ∷ 1 ∷ [])
    ++ (0x57 ∷ 0 ∷ 0 ∷ 1 ∷ 0x46 ∷ 0 ∷ 1 ∷ 0 ∷ 0 ∷ 0 ∷ 0 ∷ 0x47 ∷ 0x45 ∷ [])

-- a move that deletes p0 and adds p1; goal p0 and p1
unfoldable pub exchange : List ℕ
exchange = 0x54 ∷ 2 ∷ 0 ∷ 1 ∷ 0x41 ∷ 0x2D ∷ 0 ∷ 0x2B ∷ 1 ∷ 0x47 ∷ 0x50 ∷ 0 ∷ 0x50 ∷ 1 ∷ 0x45 ∷ []

-- v0 := 0·v0 + v1, and its normal form: v1 on 2, −v1 on 3
unfoldable pub grid : List ℕ
grid =
    (0x54 ∷ 0 ∷ 2 ∷ 1 ∷ 0x41 ∷ 0x57 ∷ 0 ∷ 0 ∷ 0 ∷ 0x57 ∷ 1 ∷ 0 ∷ 1 ∷ 0x46 ∷ 0 ∷ 0 ∷ 0 ∷ 0 ∷ 0 ∷ 0 ∷ [])
    ++ (0x47 ∷ 0x45 ∷ [])

unfoldable pub grid_normal : List ℕ
grid_normal =
    (0x4E ∷ 0 ∷ 4 ∷ 1 ∷ 0x41 ∷ 0x57 ∷ 2 ∷ 0 ∷ 1 ∷ 0x46 ∷ 0 ∷ 0 ∷ 0 ∷ 0 ∷ 0 ∷ 0 ∷ [])
    ++ (0x57 ∷ 3 ∷ 0 ∷ 1 ∷ 0x46 ∷ 0 ∷ 1 ∷ 0 ∷ 0 ∷ 0 ∷ 0 ∷ 0x47 ∷ 0x45 ∷ [])

-- n terms of weight 0, on v_i and the variables behind it
unfoldable pub blanks : ℕ → ℕ → List ℕ
blanks i zero = []
blanks i (suc n) = 0x57 ∷ i ∷ 0 ∷ 0 ∷ blanks (suc i) n

pub record Cases : Type 0 where
  -- a += is tested by its value in the layer, not by its sign in the state
  pub increase_in_layer :
      decide_answer paper (normalise_out paper relay (zeros 54)) (zeros 8) (replicate 14 (pos 7)) ≡ Ok (decide.Plan 2 2)
  -- no effect reads another's result
  pub effects_read_before : step_out paper swap (zeros 8) 0 (zeros 8) ≡ 0 ∷ 0 ∷ 0 ∷ 1 ∷ 0 ∷ 0 ∷ 0 ∷ 0 ∷ []
  -- deletes do not count in a layer
  pub deletes_do_not_count :
      decide_answer paper (normalise_out paper exchange (zeros 15)) (1 ∷ 0 ∷ []) (replicate 3 (pos 7)) ≡ Ok (decide.Plan 1 1)
  -- an equal next layer needs no memory: with room for layer 0 alone the answer is "no plan"
  pub equal_layer_needs_none :
      decide_answer paper (normalise_out paper doubling (zeros 39)) (zeros 4) (replicate 3 (pos 7)) ≡ Ok (decide.NoPlan 0)
  -- weight 0: "It makes no := edge, the normal form drops it, and a real step passes over it."
  pub weight_0_no_edge : read_answer paper grid ≡ Ok (record { kind = 0x54; props = 0; vars = 2; moves = 1 })
  pub weight_0_dropped : normalise_out paper grid (zeros 29) ≡ grid_normal
  pub weight_0_passed_over :
      step_out paper grid (0 ∷ 0 ∷ 0 ∷ 4 ∷ 0 ∷ 0 ∷ 0 ∷ 9 ∷ []) 0 (zeros 8) ≡ 0 ∷ 0 ∷ 0 ∷ 9 ∷ 0 ∷ 0 ∷ 0 ∷ 9 ∷ []
  -- a condition of which nothing is kept stays: goal 0·v0 ≥ 1
  pub weight_0_alone :
      normalise_out paper (0x54 ∷ 0 ∷ 1 ∷ 0 ∷ 0x47 ∷ 0x57 ∷ 0 ∷ 0 ∷ 0 ∷ 0x43 ∷ 0 ∷ 0 ∷ 0 ∷ 0 ∷ 1 ∷ 0x45 ∷ []) (zeros 12)
      ≡ 0x4E ∷ 0 ∷ 2 ∷ 0 ∷ 0x47 ∷ 0x43 ∷ 0 ∷ 0 ∷ 0 ∷ 0 ∷ 1 ∷ 0x45 ∷ []
  -- "It still counts among the eight and keeps the rising order."
  pub weight_0_rises :
      read_answer paper (0x54 ∷ 2 ∷ 2 ∷ 1 ∷ 0x41 ∷ 0x57 ∷ 1 ∷ 0 ∷ 1 ∷ 0x57 ∷ 0 ∷ 0 ∷ 0 ∷ [])
      ≡ Err (record { number = 5; place = 9 })
  pub rises_above_weight_0 :
      read_answer paper (0x54 ∷ 0 ∷ 2 ∷ 0 ∷ 0x47 ∷ 0x57 ∷ 1 ∷ 0 ∷ 0 ∷ 0x57 ∷ 1 ∷ 0 ∷ 1 ∷ [])
      ≡ Err (record { number = 5; place = 9 })
  pub weight_0_counts :
      read_answer paper ((0x54 ∷ 0 ∷ 9 ∷ 0 ∷ 0x47 ∷ []) ++ blanks 0 8 ++ (0x57 ∷ 8 ∷ 0 ∷ 1 ∷ []))
      ≡ Err (record { number = 5; place = 37 })
  pub eight_of_weight_0 :
      read_answer paper ((0x54 ∷ 0 ∷ 9 ∷ 0 ∷ 0x47 ∷ []) ++ blanks 0 8 ++ (0x43 ∷ 0 ∷ 0 ∷ 0 ∷ 0 ∷ 0 ∷ 0x45 ∷ []))
      ≡ Ok (record { kind = 0x54; props = 0; vars = 9; moves = 0 })
  -- "normal tables still begin at weight 1"
  pub weight_0_not_normal :
      read_answer paper (0x4E ∷ 2 ∷ 2 ∷ 1 ∷ 0x41 ∷ 0x57 ∷ 1 ∷ 0 ∷ 0 ∷ []) ≡ Err (record { number = 4; place = 7 })
