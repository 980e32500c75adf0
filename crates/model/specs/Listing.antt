-- What the listing program prints, as bytes of ASCII text (document 01, "Trial campaigns", M1).
-- Assumes nothing.
use Rattle.std.specs.Prelude.{ℕ, zero, suc, ◌+◌, ◌/◌, ◌%◌, true, false, List, [], ◌∷◌, ◌++◌, ltb, Result, Ok, Err}
use Rattle.model.specs.declared.Refusal.{Refusal}
use Rattle.model.specs.declared.PlanAnswer.{PlanAnswer}
use Rattle.model.specs.declared.PlanAnswer.TheVariants as plan
use Rattle.model.specs.Limits.{Limits}
use Rattle.model.specs.Memory.{build}
use Rattle.model.specs.Plan.{Record}
use Rattle.model.specs.Calls.{on_output, Ready, ready, unready, normalised, prepared, plan_records, plan_fitted}

-- "layer memory has 8,192 numbers, the plan 64,000 bytes"; a normal form never takes more than 64,000 bytes
unfoldable pub listing_layers : ℕ
listing_layers = 8_192

unfoldable pub listing_bytes : ℕ
listing_bytes = 64_000

-- a number in decimal digits: at most as many turns as its value (`Theorems.Printing.Decimals`)
unfoldable pub digits : ℕ → ℕ → List ℕ
digits zero n = (48 + n) ∷ []
digits (suc f) n =
    elim (ltb n 10) [ true ↦ (48 + n) ∷ [] | false ↦ digits f (n / 10) ++ ((48 + n % 10) ∷ []) ]

unfoldable pub decimal : ℕ → List ℕ
decimal n = digits n n

-- "plan ", " layers ", "no plan layers ", "refusal ", " place ", a space and a line's end
unfoldable pub plan_word : List ℕ
plan_word = 112 ∷ 108 ∷ 97 ∷ 110 ∷ 32 ∷ []

unfoldable pub layers_word : List ℕ
layers_word = 32 ∷ 108 ∷ 97 ∷ 121 ∷ 101 ∷ 114 ∷ 115 ∷ 32 ∷ []

unfoldable pub no_plan_word : List ℕ
no_plan_word = 110 ∷ 111 ∷ 32 ∷ 112 ∷ 108 ∷ 97 ∷ 110 ∷ layers_word

unfoldable pub refusal_word : List ℕ
refusal_word = 114 ∷ 101 ∷ 102 ∷ 117 ∷ 115 ∷ 97 ∷ 108 ∷ 32 ∷ []

unfoldable pub place_word : List ℕ
place_word = 32 ∷ 112 ∷ 108 ∷ 97 ∷ 99 ∷ 101 ∷ 32 ∷ []

unfoldable pub space : List ℕ
space = 32 ∷ []

unfoldable pub newline : List ℕ
newline = 10 ∷ []

-- "refusal", the number, "place" and the place
unfoldable pub refusal_text : Refusal → List ℕ
refusal_text r = refusal_word ++ decimal r.number ++ place_word ++ decimal r.place ++ newline

-- "0 2": "move and count", a line each
unfoldable pub records_text : List Record → List ℕ
records_text [] = []
records_text (r ∷ rs) = decimal r.move ++ space ++ decimal r.count ++ newline ++ records_text rs

-- the text of plan's answer, of which rs are the records. "plan 3 layers 2": "records and layers"; "no plan layers" and the layers
unfoldable pub answer_text : Result PlanAnswer Refusal → List Record → List ℕ
answer_text (Ok (plan.Plan layer layers records moves)) rs =
    plan_word ++ decimal records ++ layers_word ++ decimal layers ++ newline ++ records_text rs
answer_text (Ok (plan.NoPlan layers records moves)) rs = no_plan_word ++ decimal layers ++ newline
answer_text (Err r) rs = refusal_text r

unfoldable pub ready_text : Limits → Ready → List ℕ
ready_text L (ready k s) =
    let b = build L k s listing_layers in answer_text (plan_fitted listing_bytes k s b) (plan_records k s b)
ready_text L (unready r) = refusal_text r

-- "The listing program reads task.bin and state.bin .. task.bin, a written table, is normalised first"
unfoldable pub listing : Limits → List ℕ → List ℕ → List ℕ
listing L t bs = on_output (normalised L t listing_bytes) (λ nb. ready_text L (prepared L nb bs)) (λ r. refusal_text r)
