-- Numbers as bytes, the most significant byte first: unsigned, and signed in two's complement, at any width.
-- One definition and one law for all widths: reading back what was written, and writing back what was read.
use Rattle.std.specs.Prelude.{◌≡◌, Bool, true, false, not, cond, List, [], ◌∷◌, ◌++◌, ℕ, zero, suc, ◌+◌, ◌*◌, ◌-◌, ◌/◌, ◌%◌, ◌^◌, ◌<◌, ◌≤◌, length, get_or, take, drop, T, ltb, ℤ, pos, negsuc, neg_ℤ, nat_abs, ◌+ℤ◌, ◌-ℤ◌, ◌≤ℤ◌, ◌<ℤ◌}
use Rattle.std.proofs.Math.Path.{refl}
use Rattle.std.proofs.Common.{sym, ap, ◌∙◌, pow-suc, mod-lt, mod-eq_of_lt, mul-le-mul_right, mul_comm, arith, length-append, length-drop, get_or-drop, take-suc, length-take-le, pow-add, ltb→lt, nltb→le}
use Rattle.std.proofs.Math.Nat.{one-le-pow, pow-le-pow_right, mul-add-div_right, mul-add-mod_self_right, le-pred_of_lt}
use Rattle.std.proofs.Math.Arith.{digits_div, mod-mul}
use Rattle.integer.specs.Linear.{zlin, le_in, lt_in, sum, diff, neg_up, neg_dn, <-≤, size_within}
use Rattle.integer.specs.BigEndian.{AllBytes, bytes, half, residue, signed, signed_bytes, twos, unsigned}

-- ---- examples
minus_two : signed (255 ∷ 254 ∷ []) ≡ negsuc 1
unfolding signed twos half unsigned
minus_two = refl

minus_two_bytes : signed_bytes 4 (negsuc 1) ≡ 255 ∷ 255 ∷ 255 ∷ 254 ∷ []
unfolding signed_bytes residue bytes
minus_two_bytes = refl

last_positive : signed (127 ∷ 255 ∷ []) ≡ pos 32767
unfolding signed twos half unsigned
last_positive = refl

first_negative : signed (128 ∷ 0 ∷ []) ≡ negsuc 32767
unfolding signed twos half unsigned
first_negative = refl

thousand : bytes 2 1000 ≡ 3 ∷ 232 ∷ []
unfolding bytes
thousand = refl

-- ---- lists of bytes
pub all_tail : {b : ℕ} {bs : List ℕ} → AllBytes (b ∷ bs) → AllBytes bs
all_tail h = record { each = λ i. h.each (suc i) }

pub all_cons : {b : ℕ} {bs : List ℕ} → b < 256 → AllBytes bs → AllBytes (b ∷ bs)
all_cons {b} {bs} p h = record { each = go }
  where
    go : (i : ℕ) → get_or (b ∷ bs) i 0 < 256
    go zero = p
    go (suc i) = h.each i

pub all_nil : AllBytes []
all_nil = record { each = λ i. omega arith }

pub all_drop : (n : ℕ) {bs : List ℕ} → AllBytes bs → AllBytes (drop n bs)
all_drop n {bs} h = record { each = λ i. rw (get_or-drop n bs i 0) (h.each (n + i)) }

pub all_take : (n : ℕ) {bs : List ℕ} → AllBytes bs → AllBytes (take n bs)
all_take zero h = all_nil
all_take (suc n) {bs = []} h = all_nil
all_take (suc n) {bs = b ∷ bs} h = all_cons (h.each 0) (all_take n (all_tail h))

-- ---- unsigned
pub power_pos : (w : ℕ) → 0 < 256 ^ w
power_pos w = one-le-pow w 256 (omega arith)

pub unsigned_small : {bs : List ℕ} → AllBytes bs → unsigned bs < 256 ^ length bs
unfolding unsigned
unsigned_small {bs = []} h = omega arith
unsigned_small {bs = b ∷ bs} h =
    rw (pow-suc 256 (length bs))
    (omega (arith, unsigned_small (all_tail h), mul-le-mul_right (256 ^ length bs) (le-pred_of_lt (h.each 0))))

pub unsigned_append : (cs bs : List ℕ) → unsigned (cs ++ bs) ≡ unsigned cs * 256 ^ length bs + unsigned bs
unfolding unsigned
unsigned_append [] bs = omega arith
unsigned_append (c ∷ cs) bs =
    rw (unsigned_append cs bs, length-append cs bs, pow-add 256 (length cs) (length bs)) (omega arith)

pub unsigned_snoc : (cs : List ℕ) (b : ℕ) → unsigned (cs ++ (b ∷ [])) ≡ unsigned cs * 256 + b
unfolding unsigned
unsigned_snoc cs b = unsigned_append cs (b ∷ []) ∙ omega arith

-- one byte more of a list is one byte more of the number
pub unsigned_next : (s : List ℕ) (at i : ℕ) → at + i < length s → unsigned (take (suc i) (drop at s)) ≡ unsigned (take i (drop at s)) * 256 + get_or s (at + i) 0
unsigned_next s at i h =
    rw (take-suc (drop at s) i 0 (omega (arith, length-drop at s)), unsigned_snoc (take i (drop at s)) (get_or (drop at s) i 0), get_or-drop at s i 0) refl

-- and 256 times the range
pub next_small : (n i b : ℕ) → n < 256 ^ i → b < 256 → n * 256 + b < 256 ^ suc i
next_small n i b h k = rw (pow-suc 256 i) (omega arith)

-- eight bytes are a 64-bit number
pub eight_small : {i : ℕ} → i ≤ 8 → 256 ^ i ≤ 2 ^ 64
eight_small h = pow-le-pow_right {n = 256} (omega arith) h

pub length_bytes : (w n : ℕ) → length (bytes w n) ≡ w
unfolding bytes
length_bytes zero n = refl
length_bytes (suc w) n = ap suc (length_bytes w n)

pub bytes_small : (w n : ℕ) → AllBytes (bytes w n)
unfolding bytes
bytes_small zero n = all_nil
bytes_small (suc w) n = all_cons (mod-lt (n / 256 ^ w) (omega arith)) (bytes_small w n)

-- the bytes of n stand for n modulo 256 ^ w
pub unsigned_bytes_mod : (w n : ℕ) → unsigned (bytes w n) ≡ n % 256 ^ w
unfolding bytes unsigned
unsigned_bytes_mod zero n = omega arith
unsigned_bytes_mod (suc w) n =
    rw (length_bytes w n, unsigned_bytes_mod w n, pow-suc 256 w, mul_comm (256 ^ w) 256) (sym (mod-mul n (omega arith) (power_pos w)))

pub unsigned_bytes : (w n : ℕ) → n < 256 ^ w → unsigned (bytes w n) ≡ n
unsigned_bytes w n h = unsigned_bytes_mod w n ∙ mod-eq_of_lt h

-- what lies above the width is left out
pub bytes_high : (w k n : ℕ) → bytes w (k * 256 ^ w + n) ≡ bytes w n
unfolding bytes
bytes_high zero k n = refl
bytes_high (suc w) k n =
    let e : k * 256 ^ suc w + n ≡ k * 256 * 256 ^ w + n = rw (pow-suc 256 w) (omega arith) in
    rw (e, mul-add-div_right (power_pos w) (k * 256) n, mul-add-mod_self_right k 256 (n / 256 ^ w), bytes_high w (k * 256) n) refl

pub bytes_unsigned : {bs : List ℕ} → AllBytes bs → bytes (length bs) (unsigned bs) ≡ bs
unfolding bytes unsigned
bytes_unsigned {bs = []} h = refl
bytes_unsigned {bs = b ∷ bs} h =
    rw (digits_div b (unsigned_small (all_tail h)), mod-eq_of_lt (h.each 0), bytes_high (length bs) b (unsigned bs))
    (ap (λ (r : List ℕ). b ∷ r) (bytes_unsigned (all_tail h)))

-- ---- two's complement
twos_by : (m n : ℕ) (P : ℤ → Type 0) (t : Bool) → (T t → n < m) → (T (not t) → m ≤ n) → (n < m → P (pos n)) → (m ≤ n → P (pos n -ℤ pos (2 * m))) → P (cond t (pos n) (pos n -ℤ pos (2 * m)))
twos_by m n P true y k f g = f (y tt)
twos_by m n P false y k f g = g (k tt)

-- what holds of n where it is below m, and of n less 2 m otherwise, holds of `twos m n`
pub twos_cases : (m n : ℕ) (P : ℤ → Type 0) → (n < m → P (pos n)) → (m ≤ n → P (pos n -ℤ pos (2 * m))) → P (twos m n)
unfolding twos
twos_cases m n P f g = twos_by m n P (ltb n m) (ltb→lt n m) (nltb→le n m) f g

pub twos_below : (m n : ℕ) → n < 2 * m → twos m n <ℤ pos m
twos_below m n h =
    twos_cases m n (λ (z : ℤ). z <ℤ pos m) (λ l. omega zlin) (λ l. omega (zlin, diff (pos n) (pos (2 * m))))

pub twos_above : (m n : ℕ) → neg_ℤ (pos m) ≤ℤ twos m n
twos_above m n =
    twos_cases m n (λ (z : ℤ). neg_ℤ (pos m) ≤ℤ z)
    (λ l. omega (zlin, neg_up (pos m), neg_dn (pos m)))
    (λ l. omega (zlin, neg_up (pos m), neg_dn (pos m), diff (pos n) (pos (2 * m))))

pub twos_size : (m n : ℕ) → n < 2 * m → nat_abs (twos m n) ≤ m
twos_size m n h = size_within (twos m n) m (twos_above m n) (<-≤ (twos_below m n h))

pub residue_small : (m : ℕ) (z : ℤ) → 0 < m → residue m z < m
unfolding residue
residue_small m (pos n) p = mod-lt n p
residue_small m (negsuc n) p = omega (arith, mod-lt n p)

-- reading back a residue, and the residue of what was read
pub twos_residue : (m : ℕ) (z : ℤ) → neg_ℤ (pos m) ≤ℤ z → z <ℤ pos m → twos m (residue (2 * m) z) ≡ z
unfolding residue
twos_residue m (pos n) h k =
    let e : n % (2 * m) ≡ n = mod-eq_of_lt (omega (arith, lt_in (pos n) (pos m) k)) in
    rw e (twos_cases m n (λ (z : ℤ). z ≡ pos n) (λ l. refl) (λ l. omega zlin))
twos_residue m (negsuc n) h k =
    let b : suc n ≤ m = omega (arith, le_in (neg_ℤ (pos m)) (negsuc n) h, neg_up (pos m), neg_dn (pos m)) in
    let e : n % (2 * m) ≡ n = mod-eq_of_lt (omega arith) in
    let r = 2 * m - suc n in
    rw e (twos_cases m r (λ (z : ℤ). z ≡ negsuc n) (λ l. absurd (omega arith)) (λ l. omega (zlin, diff (pos r) (pos (2 * m)))))

pub residue_twos : (m n : ℕ) → n < 2 * m → residue (2 * m) (twos m n) ≡ n
unfolding residue
residue_twos m n h =
    twos_cases m n (λ (z : ℤ). residue (2 * m) z ≡ n)
    (λ l. mod-eq_of_lt h)
    (λ l.
    let k = 2 * m - suc n in
    let e : pos n -ℤ pos (2 * m) ≡ negsuc k = omega (zlin, diff (pos n) (pos (2 * m))) in
    let f : k % (2 * m) ≡ k = mod-eq_of_lt (omega arith) in
    rw (e, f) (omega arith))

-- the residue of a small number by a test of its sign
pub residue_neg : (m : ℕ) (v : ℤ) → v <ℤ pos 0 → nat_abs v < m → v +ℤ pos m ≡ pos (residue m v)
unfolding residue
residue_neg m (pos n) h k = absurd (omega (arith, lt_in (pos n) (pos 0) h))
residue_neg m (negsuc n) h k =
    let e : n % m ≡ n = mod-eq_of_lt (omega arith) in
    rw e (omega (zlin, sum (negsuc n) (pos m)))

pub residue_nonneg : (m : ℕ) (v : ℤ) → pos 0 ≤ℤ v → nat_abs v < m → v ≡ pos (residue m v)
unfolding residue
residue_nonneg m (pos n) h k = ap pos (sym (mod-eq_of_lt k))
residue_nonneg m (negsuc n) h k = absurd (omega (arith, le_in (pos 0) (negsuc n) h))

-- ---- signed
pub half_twice : (w : ℕ) → 0 < w → 2 * half w ≡ 256 ^ w
unfolding half
half_twice zero p = omega arith
half_twice (suc zero) p = refl
half_twice (suc (suc w)) p =
    let e : 8 * suc (suc w) - 1 ≡ (8 * suc w - 1) + 8 = omega arith in
    rw (e, pow-add 2 (8 * suc w - 1) 8, pow-suc 256 (suc w)) (omega (arith, half_twice (suc w) (omega arith)))

-- the number in `w` bytes of a longer list
pub signed_part : (s : List ℕ) (at w : ℕ) → at + w ≤ length s → twos (half w) (unsigned (take w (drop at s))) ≡ signed (take w (drop at s))
unfolding signed
signed_part s at w h =
    rw (length-take-le w (drop at s) (omega (arith, length-drop at s))) refl

in_range_lem : {bs : List ℕ} → AllBytes bs → unsigned bs < 2 * half (length bs)
unfolding unsigned half
in_range_lem {bs = []} h = omega arith
in_range_lem {bs = b ∷ bs} h = rw (half_twice (suc (length bs)) (omega arith)) (unsigned_small h)

pub signed_below : {bs : List ℕ} → AllBytes bs → signed bs <ℤ pos (half (length bs))
unfolding signed
signed_below {bs} h = twos_below (half (length bs)) (unsigned bs) (in_range_lem h)

pub signed_above : (bs : List ℕ) → neg_ℤ (pos (half (length bs))) ≤ℤ signed bs
unfolding signed
signed_above bs = twos_above (half (length bs)) (unsigned bs)

pub length_signed_bytes : (w : ℕ) (z : ℤ) → length (signed_bytes w z) ≡ w
unfolding signed_bytes
length_signed_bytes w z = length_bytes w (residue (256 ^ w) z)

pub signed_bytes_small : (w : ℕ) (z : ℤ) → AllBytes (signed_bytes w z)
unfolding signed_bytes
signed_bytes_small w z = bytes_small w (residue (256 ^ w) z)

pub signed_signed_bytes : (w : ℕ) (z : ℤ) → 0 < w → neg_ℤ (pos (half w)) ≤ℤ z → z <ℤ pos (half w) → signed (signed_bytes w z) ≡ z
unfolding signed signed_bytes
signed_signed_bytes w z p h k =
    rw (length_bytes w (residue (256 ^ w) z), unsigned_bytes w (residue (256 ^ w) z) (residue_small (256 ^ w) z (power_pos w)), ← half_twice w p)
    (twos_residue (half w) z h k)

pub signed_bytes_signed : {bs : List ℕ} → AllBytes bs → signed_bytes (length bs) (signed bs) ≡ bs
unfolding signed signed_bytes
signed_bytes_signed {bs = []} h = unfold bytes in refl
signed_bytes_signed {bs = b ∷ bs} h =
    let w = suc (length bs) in
    rw (← half_twice w (omega arith), residue_twos (half w) (unsigned (b ∷ bs)) (in_range_lem h)) (bytes_unsigned h)
