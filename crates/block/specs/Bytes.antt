-- What stands at an offset of a list of bytes, up to its end.
-- Assumes nothing.
use Rattle.std.specs.Prelude.{ℕ, ◌+◌, ◌≤◌, ◌<◌, ◌≡◌, refl, List, [], ◌∷◌, ◌++◌, ℤ, pos, nat_abs, length, get_or, take, drop}
use Rattle.std.proofs.Common.{add-zero, arith, sym, ap, ◌∙◌, subst, length-append, length-drop, get_or-drop, drop-drop, drop_at, take_at}
use Rattle.integer.specs.BigEndian.{half, signed, signed_bytes}
use Rattle.integer.proofs.BigEndian.{length_signed_bytes, signed_signed_bytes}
use Rattle.integer.specs.Linear.{zlin, nat_abs_split, neg_up, neg_dn}

-- from the offset on, the list is `bs`
pub record At (part : List ℕ) (at : ℕ) (bs : List ℕ) : Type 0 where
  pub within : at ≤ length part
  pub bytes : drop at part ≡ bs

module _ {part : List ℕ} {at : ℕ} where
  -- the length of what is left
  pub at_length : {bs : List ℕ} → At part at bs → at + length bs ≡ length part
  at_length {bs} a = omega (arith, a.within, length-drop at part, ap length a.bytes)

  pub at_same : {bs cs : List ℕ} → At part at bs → bs ≡ cs → At part at cs
  at_same a e = record { within = a.within; bytes = a.bytes ∙ e }

  pub at_place : {to : ℕ} {bs : List ℕ} → At part at bs → at ≡ to → At part to bs
  at_place {to} {bs} a e = subst (λ (i : ℕ). At part i bs) e a

  -- the byte at a distance
  pub at_byte : {bs : List ℕ} → At part at bs → (i : ℕ) → get_or part (at + i) 0 ≡ get_or bs i 0
  at_byte {bs} a i = sym (get_or-drop at part i 0) ∙ ap (λ (l : List ℕ). get_or l i 0) a.bytes

  pub at_head : {b : ℕ} {bs : List ℕ} → At part at (b ∷ bs) → get_or part at 0 ≡ b
  at_head a = ap (λ (i : ℕ). get_or part i 0) (sym (add-zero at)) ∙ at_byte a 0

  -- behind the bytes of a first part
  pub at_behind : (n : ℕ) (bs cs : List ℕ) → At part at (bs ++ cs) → length bs ≡ n → At part (at + n) cs
  at_behind n bs cs a e =
      record {
        within = omega (arith, at_length a, length-append bs cs);
        bytes = sym (drop-drop n at part) ∙ ap (drop n) a.bytes ∙ drop_at bs cs n e;
      }

  pub at_tail : {b : ℕ} {bs : List ℕ} → At part at (b ∷ bs) → At part (at + 1) bs
  at_tail {b} {bs} a = at_behind 1 (b ∷ []) bs a refl

  -- the first bytes
  pub at_take : (n : ℕ) (bs cs : List ℕ) → At part at (bs ++ cs) → length bs ≡ n → take n (drop at part) ≡ bs
  at_take n bs cs a e = ap (take n) a.bytes ∙ take_at bs cs n e

  pub at_room : (n : ℕ) (bs cs : List ℕ) → At part at (bs ++ cs) → length bs ≡ n → at + n ≤ length part
  at_room n bs cs a e = omega (arith, at_length a, length-append bs cs)

  -- a signed number of two and of four bytes
  pub at_signed :
      (w : ℕ) (z : ℤ) (cs : List ℕ)
      → At part at (signed_bytes w z ++ cs)
      → 0 < w
      → nat_abs z < half w
      → signed (take w (drop at part)) ≡ z
  at_signed w z cs a p h =
      ap signed (at_take w (signed_bytes w z) cs a (length_signed_bytes w z))
      ∙ signed_signed_bytes w z p
      (omega (zlin, nat_abs_split z, neg_up (pos (half w)), neg_dn (pos (half w))))
      (omega (zlin, nat_abs_split z))
