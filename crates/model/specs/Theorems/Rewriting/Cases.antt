-- Moves that do nothing: 16 among the other checks, and the rewriter, from bytes, computed. Assumes nothing.
use Rattle.std.specs.Prelude.{List, [], ◌∷◌, ◌++◌, ℕ}

-- moves 0 and 2 do nothing; move 1 adds p0, move 3 is v0 += 0
unfoldable pub unfinished : List ℕ
unfinished =
    (0x54 ∷ 1 ∷ 1 ∷ 4 ∷ 0x41 ∷ 0x41 ∷ 0x2B ∷ 0 ∷ 0x41 ∷ 0x50 ∷ 0 ∷ [])
    ++ (0x41 ∷ 0x46 ∷ 1 ∷ 0 ∷ 0 ∷ 0 ∷ 0 ∷ 0 ∷ 0x47 ∷ 0x50 ∷ 0 ∷ 0x45 ∷ [])

-- without them
unfoldable pub finished : List ℕ
finished = 0x54 ∷ 1 ∷ 1 ∷ 2 ∷ 0x41 ∷ 0x2B ∷ 0 ∷ 0x41 ∷ 0x46 ∷ 1 ∷ 0 ∷ 0 ∷ 0 ∷ 0 ∷ 0 ∷ 0x47 ∷ 0x50 ∷ 0 ∷ 0x45 ∷ []
