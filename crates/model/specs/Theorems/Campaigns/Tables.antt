-- The trial campaigns of document 01 that are marked *, as bytes.
-- Assumes nothing.
use Rattle.std.specs.Prelude.{ℕ, List, [], ◌∷◌, ◌++◌, replicate}

-- so many zero bytes: a state in which all is false and 0, or an output before the call
abbrev pub zeros : ℕ → List ℕ
zeros n = replicate n 0

unfoldable pub m1 : List ℕ
m1 =
    (0x54 ∷ 1 ∷ 2 ∷ 3 ∷ [])
    ++ (0x41 ∷ 0x46 ∷ 1 ∷ 0 ∷ 0 ∷ 0 ∷ 0 ∷ 5 ∷ [])
    ++ (0x41 ∷ 0x57 ∷ 0 ∷ 0 ∷ 1 ∷ 0x43 ∷ 0 ∷ 0 ∷ 0 ∷ 0 ∷ 3 ∷ [])
    ++ (0x46 ∷ 1 ∷ 1 ∷ 0 ∷ 0 ∷ 0 ∷ 2 ∷ 0x46 ∷ 2 ∷ 0 ∷ 0 ∷ 0 ∷ 0 ∷ 3 ∷ [])
    ++ (0x41 ∷ 0x57 ∷ 0 ∷ 0 ∷ 1 ∷ 0x43 ∷ 0 ∷ 0 ∷ 0 ∷ 0 ∷ 10 ∷ 0x2B ∷ 0 ∷ [])
    ++ (0x47 ∷ 0x50 ∷ 0 ∷ 0x57 ∷ 1 ∷ 0 ∷ 1 ∷ 0x43 ∷ 0 ∷ 0 ∷ 0 ∷ 0 ∷ 7 ∷ 0x45 ∷ [])

-- its normal form, of 85 bytes
unfoldable pub m1_normal : List ℕ
m1_normal =
    (0x4E ∷ 1 ∷ 4 ∷ 3 ∷ [])
    ++ (0x41 ∷ 0x46 ∷ 1 ∷ 0 ∷ 0 ∷ 0 ∷ 0 ∷ 5 ∷ 0x46 ∷ 1 ∷ 1 ∷ 255 ∷ 255 ∷ 255 ∷ 251 ∷ [])
    ++ (0x41 ∷ 0x57 ∷ 0 ∷ 0 ∷ 1 ∷ 0x43 ∷ 0 ∷ 0 ∷ 0 ∷ 0 ∷ 3 ∷ [])
    ++ (0x46 ∷ 1 ∷ 2 ∷ 0 ∷ 0 ∷ 0 ∷ 2 ∷ 0x46 ∷ 1 ∷ 3 ∷ 255 ∷ 255 ∷ 255 ∷ 254 ∷ [])
    ++ (0x46 ∷ 1 ∷ 0 ∷ 255 ∷ 255 ∷ 255 ∷ 253 ∷ 0x46 ∷ 1 ∷ 1 ∷ 0 ∷ 0 ∷ 0 ∷ 3 ∷ [])
    ++ (0x41 ∷ 0x57 ∷ 0 ∷ 0 ∷ 1 ∷ 0x43 ∷ 0 ∷ 0 ∷ 0 ∷ 0 ∷ 10 ∷ 0x2B ∷ 0 ∷ [])
    ++ (0x47 ∷ 0x50 ∷ 0 ∷ 0x57 ∷ 2 ∷ 0 ∷ 1 ∷ 0x43 ∷ 0 ∷ 0 ∷ 0 ∷ 0 ∷ 7 ∷ 0x45 ∷ [])

unfoldable pub empty_goal : List ℕ
empty_goal = 0x54 ∷ 0 ∷ 0 ∷ 0 ∷ 0x47 ∷ 0x45 ∷ []

-- v += v, goal v ≥ 8
unfoldable pub doubling : List ℕ
doubling =
    (0x54 ∷ 0 ∷ 1 ∷ 1 ∷ 0x41 ∷ 0x57 ∷ 0 ∷ 0 ∷ 1 ∷ 0x46 ∷ 1 ∷ 0 ∷ 0 ∷ 0 ∷ 0 ∷ 0 ∷ [])
    ++ (0x47 ∷ 0x57 ∷ 0 ∷ 0 ∷ 1 ∷ 0x43 ∷ 0 ∷ 0 ∷ 0 ∷ 0 ∷ 8 ∷ 0x45 ∷ [])

-- v += 2, goal v = 1
unfoldable pub even_steps : List ℕ
even_steps =
    (0x54 ∷ 0 ∷ 1 ∷ 1 ∷ 0x41 ∷ 0x46 ∷ 1 ∷ 0 ∷ 0 ∷ 0 ∷ 0 ∷ 2 ∷ [])
    ++ (0x47 ∷ 0x57 ∷ 0 ∷ 0 ∷ 1 ∷ 0x43 ∷ 4 ∷ 0 ∷ 0 ∷ 0 ∷ 1 ∷ 0x45 ∷ [])

-- goal v < −1,000,000, and its normal form, −v ≥ 1,000,001
unfoldable pub below : List ℕ
below = 0x54 ∷ 0 ∷ 1 ∷ 0 ∷ 0x47 ∷ 0x57 ∷ 0 ∷ 0 ∷ 1 ∷ 0x43 ∷ 3 ∷ 0xFF ∷ 0xF0 ∷ 0xBD ∷ 0xC0 ∷ 0x45 ∷ []

unfoldable pub below_normal : List ℕ
below_normal = 0x4E ∷ 0 ∷ 2 ∷ 0 ∷ 0x47 ∷ 0x57 ∷ 1 ∷ 0 ∷ 1 ∷ 0x43 ∷ 0 ∷ 0 ∷ 0x0F ∷ 0x42 ∷ 0x41 ∷ 0x45 ∷ []

-- one move v1 := 1000 v2, one v0 := 1000 v1 + c, goal 0 ≥ 1
unfoldable pub chain : ℕ → List ℕ
chain c =
    (0x54 ∷ 0 ∷ 3 ∷ 2 ∷ 0x41 ∷ 0x57 ∷ 2 ∷ 0x03 ∷ 0xE8 ∷ 0x46 ∷ 0 ∷ 1 ∷ 0 ∷ 0 ∷ 0 ∷ 0 ∷ [])
    ++ (0x41 ∷ 0x57 ∷ 1 ∷ 0x03 ∷ 0xE8 ∷ 0x46 ∷ 0 ∷ 0 ∷ 0 ∷ 0 ∷ 0 ∷ c ∷ [])
    ++ (0x47 ∷ 0x43 ∷ 0 ∷ 0 ∷ 0 ∷ 0 ∷ 1 ∷ 0x45 ∷ [])

-- v2 = 1,000,000, the others 0
unfoldable pub chain_state : List ℕ
chain_state = 0 ∷ 0 ∷ 0 ∷ 0 ∷ 0 ∷ 0 ∷ 0 ∷ 0 ∷ 0x00 ∷ 0x0F ∷ 0x42 ∷ 0x40 ∷ []

-- v := v + 1
unfoldable pub self_reading : List ℕ
self_reading = 0x54 ∷ 0 ∷ 1 ∷ 1 ∷ 0x41 ∷ 0x57 ∷ 0 ∷ 0 ∷ 1 ∷ 0x46 ∷ 0 ∷ 0 ∷ 0 ∷ 0 ∷ 0 ∷ 1 ∷ 0x47 ∷ 0x45 ∷ []
