-- Moves that do nothing: 16 among the other checks, and the rewriter, from bytes, computed. Assumes nothing.
use Rattle.std.specs.Prelude.{◌≡◌, refl, List, [], ◌∷◌, ◌++◌, ℕ, length, Result, Ok, Err}
use Rattle.model.specs.Limits.{paper}
use Rattle.model.specs.Calls.{read_answer}
use Rattle.model.specs.Rewrite.{active_moves, rewritten, rewrite_of, rewrote, rewrite_answer, rewrite_out}
use Rattle.model.specs.Theorems.Campaigns.Tables.{zeros}
use Rattle.model.specs.Theorems.Campaigns.Computing.{computing}
use Rattle.model.specs.Theorems.Rewriting.Cases.{finished, unfinished}
use Rattle.model.specs.declared.Refusal.{Refusal}

abbrev refuses : List ℕ → ℕ → ℕ → Type 0
refuses t n p = read_answer paper t ≡ Err (record { number = n; place = p })

-- the rewriter's answer, and what its output holds then
abbrev rewrites : List ℕ → List ℕ → Result ℕ Refusal → List ℕ → Type 0
rewrites t out answer after = ◌≡◌ {A = Result ℕ Refusal × List ℕ} (rewrite_answer paper t out, rewrite_out paper t out) (answer, after)

abbrev TurnsBack : List ℕ → List ℕ → ℕ → ℕ → Type 0
TurnsBack t out n p = rewrites t out (Err (record { number = n; place = p })) out

-- `bs` is written; `behind` are the bytes of the output behind it
abbrev ComesOut : List ℕ → List ℕ → List ℕ → List ℕ → Type 0
ComesOut t out bs behind = rewrites t out (Ok (length bs)) (bs ++ behind)

-- one move, of conditions alone: p0 and v0 + v1 ≥ 0; the goal has no items
abbrev waiting : ℕ → List ℕ
waiting head = (head ∷ 1 ∷ 2 ∷ 1 ∷ 0x41 ∷ 0x50 ∷ 0 ∷ []) ++ (0x57 ∷ 0 ∷ 0 ∷ 1 ∷ 0x57 ∷ 1 ∷ 0 ∷ 1 ∷ 0x43 ∷ 0 ∷ 0 ∷ 0 ∷ 0 ∷ 0 ∷ 0x47 ∷ 0x45 ∷ [])

-- move 0 does nothing, and move 1 is v0 := v0
abbrev around : ℕ → List ℕ
around head = (head ∷ 0 ∷ 2 ∷ 2 ∷ 0x41 ∷ 0x41 ∷ []) ++ (0x57 ∷ 0 ∷ 0 ∷ 1 ∷ 0x46 ∷ 0 ∷ 0 ∷ 0 ∷ 0 ∷ 0 ∷ 0 ∷ 0x47 ∷ 0x45 ∷ [])

-- move 0 is v0 += 0; the goal has no items
abbrev nothing_more : ℕ → List ℕ
nothing_more head = head ∷ 0 ∷ 2 ∷ 1 ∷ 0x41 ∷ 0x46 ∷ 1 ∷ 0 ∷ 0 ∷ 0 ∷ 0 ∷ 0 ∷ 0x47 ∷ 0x45 ∷ []

-- both heads alike: 41 beyond A and 47 before A moves are 6; 16 stands at the command that closes the move, after 3, 2 and 6 there, and
-- before anything later, 7 too
abbrev AtHead : ℕ → Type 0
AtHead head =
    refuses (head ∷ 0 ∷ 0 ∷ 1 ∷ 0x41 ∷ 0x41 ∷ []) 6 5
    × refuses (head ∷ 0 ∷ 0 ∷ 2 ∷ 0x41 ∷ 0x47 ∷ []) 6 5
    × refuses (head ∷ 0 ∷ 0 ∷ 2 ∷ 0x41 ∷ 0x41 ∷ []) 16 5
    × refuses (head ∷ 0 ∷ 0 ∷ 1 ∷ 0x41 ∷ 0x47 ∷ 0x45 ∷ []) 16 5
    × refuses (head ∷ 0 ∷ 0 ∷ 1 ∷ 0x41 ∷ 0x45 ∷ []) 3 5
    × refuses (head ∷ 0 ∷ 0 ∷ 1 ∷ 0x41 ∷ []) 2 5
    × refuses (head ∷ 0 ∷ 2 ∷ 1 ∷ 0x41 ∷ 0x57 ∷ 0 ∷ 0 ∷ 1 ∷ 0x47 ∷ []) 3 9
    × refuses (waiting head) 16 21
    × refuses (around head) 16 5
    -- the rewriter: the same but 16, with the output kept
    × TurnsBack (head ∷ 0 ∷ 0 ∷ 1 ∷ 0x41 ∷ 0x41 ∷ []) (7 ∷ 7 ∷ []) 6 5
    × TurnsBack (head ∷ 0 ∷ 0 ∷ 2 ∷ 0x41 ∷ 0x47 ∷ []) (7 ∷ 7 ∷ []) 6 5
    × TurnsBack (head ∷ 0 ∷ 0 ∷ 2 ∷ 0x41 ∷ 0x41 ∷ []) (7 ∷ 7 ∷ []) 2 6
    × TurnsBack (head ∷ 0 ∷ 0 ∷ 1 ∷ 0x41 ∷ 0x45 ∷ []) (7 ∷ 7 ∷ []) 3 5
    × TurnsBack (head ∷ 0 ∷ 0 ∷ 1 ∷ 0x41 ∷ []) [] 2 5
    × TurnsBack (head ∷ 0 ∷ 2 ∷ 1 ∷ 0x41 ∷ 0x57 ∷ 0 ∷ 0 ∷ 1 ∷ 0x47 ∷ []) [] 3 9
    × TurnsBack (around head) [] 7 0
    -- a move of conditions alone is dropped, and the bytes behind are kept; one byte less is 13
    × ComesOut (waiting head) (7 ∷ 7 ∷ 7 ∷ 7 ∷ 7 ∷ 7 ∷ 8 ∷ []) (head ∷ 1 ∷ 2 ∷ 0 ∷ 0x47 ∷ 0x45 ∷ []) (8 ∷ [])
    × TurnsBack (waiting head) (7 ∷ 7 ∷ 7 ∷ 7 ∷ 7 ∷ []) 13 0
    -- all moves do nothing, and the goal has no items
    × ComesOut (head ∷ 0 ∷ 0 ∷ 2 ∷ 0x41 ∷ 0x41 ∷ 0x47 ∷ 0x45 ∷ []) (7 ∷ 7 ∷ 7 ∷ 7 ∷ 7 ∷ 7 ∷ []) (head ∷ 0 ∷ 0 ∷ 0 ∷ 0x47 ∷ 0x45 ∷ []) []
    -- += 0 is an effect, and a goal without items is no such move: the table comes out as it is
    × (read_answer paper (nothing_more head) ≡ Ok (record { kind = head; props = 0; vars = 2; moves = 1 }))
    × ComesOut (nothing_more head) (zeros 15) (nothing_more head) (0 ∷ [])

-- 16 and the rewriter, byte by byte
pub idle_cases :
    AtHead 0x54
    × AtHead 0x4E
    × refuses (0x54 ∷ 0 ∷ 1 ∷ 1 ∷ 0x41 ∷ 0x57 ∷ 0 ∷ 0 ∷ 1 ∷ 0x47 ∷ []) 3 9
    -- the rewriter drops moves 0 and 2
    × refuses unfinished 16 5
    × ComesOut unfinished (zeros 19) finished []
    × TurnsBack unfinished (zeros 18) 13 0
    -- and leaves the rest as it is
    × ComesOut finished (zeros 20) finished (0 ∷ [])
unfolding computing active_moves rewritten rewrite_of rewrote rewrite_answer rewrite_out unfinished finished
idle_cases = (
  (refl, refl, refl, refl, refl, refl, refl, refl, refl, refl, refl, refl, refl, refl, refl, refl, refl, refl, refl, refl, refl),
  (refl, refl, refl, refl, refl, refl, refl, refl, refl, refl, refl, refl, refl, refl, refl, refl, refl, refl, refl, refl, refl),
  refl,
  refl,
  refl,
  refl,
  refl,
)
