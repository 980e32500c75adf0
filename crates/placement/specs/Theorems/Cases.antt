-- Cases of a closure day, computed. Assumes nothing.
use Rattle.std.specs.Prelude.{ℕ, zero, suc, ◌≡◌, List, [], ◌∷◌, ◌++◌, Result, Ok, Err}
use Rattle.integer.specs.BigEndian.{bytes}
use Rattle.placement.specs.declared.Placed.{Placed}
use Rattle.placement.specs.Day.{paper_day}
use Rattle.placement.specs.Placing.{place_answer, place_out}
use Rattle.model.specs.declared.Refusal.{Refusal}

-- a small minute as 4 bytes, before the others
abbrev minute : ℕ → List ℕ → List ℕ
minute n bs = 0 ∷ 0 ∷ 0 ∷ n ∷ bs

-- 10 to 20 and 20 to 30, which touch
abbrev touching : List ℕ
touching = minute 10 (minute 20 (minute 20 (minute 30 [])))

-- an output of so many bytes
unfoldable pub room : ℕ → List ℕ
room zero = []
room (suc n) = 0xA5 ∷ room n

-- n windows of one minute each, from minute t on, all of which touch
unfoldable pub minutes : ℕ → ℕ → List ℕ
minutes t zero = []
minutes t (suc n) = bytes 4 t ++ (bytes 4 (suc t) ++ minutes (suc t) n)

abbrev answer : List ℕ → List ℕ → ℕ → Result Placed Refusal
answer ws ds n = place_answer paper_day ws ds (room n)

abbrev refuse : ℕ → ℕ → Result Placed Refusal
refuse n p = Err (record { number = n; place = p })

pub record DayCases : Type 0 where
  -- ending at the shutting minute is inside; no entry reaches across windows that touch; what lies behind the starts is kept
  pub shutting : answer touching (minute 10 (minute 6 [])) 8 ≡ Ok (record { end = 26; length = 8 })
  pub starts : place_out paper_day touching (minute 10 (minute 6 [])) (room 9) ≡ minute 10 (minute 20 (0xA5 ∷ []))
  pub across : answer touching (minute 11 []) 4 ≡ refuse 19 0
  -- a window that was left is not gone back to: the third entry would have room in the first window
  pub no_way_back : place_out paper_day touching (minute 6 (minute 6 (minute 2 []))) (room 12) ≡ minute 10 (minute 20 (minute 26 []))
  -- the second entry is the first without a placement
  pub second : answer touching (minute 9 (minute 11 (minute 1 []))) 4 ≡ refuse 19 1
  -- an empty list, after the windows are checked; no windows
  pub empty : answer touching [] 0 ≡ Ok (record { end = 0; length = 0 })
  pub checked_first : answer (minute 5 (minute 5 [])) [] 0 ≡ refuse 18 0
  pub no_windows : answer [] (minute 1 []) 4 ≡ refuse 19 0
  -- windows before durations, durations before 19, 19 before 13
  pub windows_first : answer (minute 10 (minute 20 (minute 19 (minute 30 [])))) (minute 0 []) 0 ≡ refuse 18 1
  pub before_19 : answer touching (minute 11 (minute 0 [])) 0 ≡ refuse 18 1
  pub before_13 : answer touching (minute 11 []) 0 ≡ refuse 19 0
  pub last : answer touching (minute 10 []) 3 ≡ refuse 13 0
  -- cut short
  pub cut_window : answer (minute 1 (minute 2 (0 ∷ []))) [] 0 ≡ refuse 18 1
  pub cut_duration : answer touching (0 ∷ 0 ∷ 1 ∷ []) 0 ≡ refuse 18 0
  -- 1,440 minutes pass, 1,441 do not; 1,000,000 passes, 1,000,001 does not
  pub longest : answer (minute 0 (0 ∷ 15 ∷ 66 ∷ 64 ∷ [])) (0 ∷ 0 ∷ 5 ∷ 160 ∷ []) 4 ≡ Ok (record { end = 1440; length = 4 })
  pub too_long : answer (minute 0 (0 ∷ 15 ∷ 66 ∷ 64 ∷ [])) (0 ∷ 0 ∷ 5 ∷ 161 ∷ []) 4 ≡ refuse 18 0
  pub too_late : answer (minute 0 (0 ∷ 15 ∷ 66 ∷ 65 ∷ [])) [] 4 ≡ refuse 18 0
  -- 64 windows pass, and the 65th does not
  pub windows64 : answer (minutes 0 64) (minute 1 []) 4 ≡ Ok (record { end = 1; length = 4 })
  pub windows65 : answer (minutes 0 65) (minute 1 []) 4 ≡ refuse 18 64
