-- Numbers as bytes, the most significant byte first: unsigned, and signed in two's complement, at any width.
-- One definition and one law for all widths: reading back what was written, and writing back what was read.
use Rattle.std.specs.Prelude.{cond, List, [], ◌∷◌, ℕ, zero, suc, ◌+◌, ◌*◌, ◌-◌, ◌/◌, ◌%◌, ◌^◌, ◌<◌, length, get_or, ltb, ℤ, pos, negsuc, ◌-ℤ◌}

-- the number that the bytes stand for
unfoldable pub unsigned : List ℕ → ℕ
unsigned [] = 0
unsigned (b ∷ bs) = b * 256 ^ length bs + unsigned bs

-- the last `width` bytes of n
unfoldable pub bytes : ℕ → ℕ → List ℕ
bytes zero n = []
bytes (suc width) n = n / 256 ^ width % 256 ∷ bytes width n

-- n below `half` as itself, otherwise less twice `half`
unfoldable pub twos : ℕ → ℕ → ℤ
twos half n = cond (ltb n half) (pos n) (pos n -ℤ pos (2 * half))

-- half of the numbers of `width` bytes
unfoldable pub half : ℕ → ℕ
half width = 2 ^ (8 * width - 1)

-- the number that the bytes stand for in two's complement
unfoldable pub signed : List ℕ → ℤ
signed bs = twos (half (length bs)) (unsigned bs)

-- z modulo m
unfoldable pub residue : ℕ → ℤ → ℕ
residue m (pos n) = n % m
residue m (negsuc n) = m - suc (n % m)

-- the bytes of z in two's complement
unfoldable pub signed_bytes : ℕ → ℤ → List ℕ
signed_bytes width z = bytes width (residue (256 ^ width) z)

-- every element is a byte
pub record AllBytes (bs : List ℕ) : Type 0 where
  pub each : (i : ℕ) → get_or bs i 0 < 256
