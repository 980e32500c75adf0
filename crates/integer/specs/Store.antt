-- Bytes stored in a list: `put l at bs` is l with the bytes bs from place `at` on, and nothing else changed.
-- Its laws: the length, what stands before, at and after the place, one byte more in front or behind, two stores side by side.
use Rattle.std.specs.Prelude.{◌≡◌, refl, List, [], ◌∷◌, ◌++◌, get_or, set, take}
use Rattle.std.proofs.Math.Path.{sym, ap}
use Rattle.std.proofs.Common.{◌∙◌, append_assoc, append-nil, add-zero, length-append, take-append-drop, length-take-le, take-suc, take_at, take-take, drop-drop}
use Prim.Native.Nat.{ℕ, suc, ◌+◌, ◌-◌, ◌/◌, ◌^◌, ◌<◌, ◌≤◌}
use native.Mathlib.Omega.{arith}
use Rattle.std.proofs.Math.ListN.{length, drop, length-drop}
use Rattle.std.proofs.lemmas.List.{set_at, take_more}
use Rattle.std.proofs.Math.Seq.{drop_at}
use Rattle.integer.specs.BigEndian.{bytes}

unfoldable pub put : List ℕ → ℕ → List ℕ → List ℕ
put l at bs = take at l ++ bs ++ drop (at + length bs) l

pub put_nil : (l : List ℕ) (at : ℕ) → put l at [] ≡ l
unfolding put
put_nil l at = rw (append-nil (take at l), add-zero at) (take-append-drop at l)

-- one byte more in front is one store
pub put_cons : (l : List ℕ) (at b : ℕ) (bs : List ℕ) → at + suc (length bs) ≤ length l → put l at (b ∷ bs) ≡ set (put l (suc at) bs) at b
unfolding put
put_cons l at b bs h =
    let x = get_or l at 0 in
    let r = drop (at + suc (length bs)) l in
    let n : suc at + length bs ≡ at + suc (length bs) = omega arith in
    let e : take (suc at) l ++ bs ++ drop (suc at + length bs) l ≡ take at l ++ x ∷ (bs ++ r) =
    rw (take-suc l at 0 (omega arith), n) (simp append_assoc) in
    append_assoc (take at l) (b ∷ bs) r
    ∙ sym (set_at (take at l) x (bs ++ r) b at (length-take-le at l (omega arith)))
    ∙ ap (λ (m : List ℕ). set m at b) (sym e)

-- one byte is one store
pub put_one : (l : List ℕ) (at b : ℕ) → at < length l → set l at b ≡ put l at (b ∷ [])
put_one l at b h =
    ap (λ (m : List ℕ). set m at b) (sym (put_nil l (suc at))) ∙ sym (put_cons l at b [] (omega arith))

module _ (l : List ℕ) (at : ℕ) (bs : List ℕ) (fits : at + length bs ≤ length l) where
  head_length : length (take at l ++ bs) ≡ at + length bs
  head_length = rw (length-append (take at l) bs, length-take-le at l (omega arith)) refl

  pub length_put : length (put l at bs) ≡ length l
  unfolding put
  length_put = rw (length-append (take at l ++ bs) (drop (at + length bs) l), head_length, length-drop (at + length bs) l) (omega arith)

  pub take_put : take at (put l at bs) ≡ take at l
  unfolding put
  take_put = rw (append_assoc (take at l) bs (drop (at + length bs) l)) (take_at (take at l) (bs ++ drop (at + length bs) l) at (length-take-le at l (omega arith)))

  pub drop_put : drop (at + length bs) (put l at bs) ≡ drop (at + length bs) l
  unfolding put
  drop_put = drop_at (take at l ++ bs) (drop (at + length bs) l) (at + length bs) head_length

  -- from the place on there is what was stored, and then what stood behind
  pub drop_put_at : drop at (put l at bs) ≡ bs ++ drop (at + length bs) l
  unfolding put
  drop_put_at =
      ap (drop at) (append_assoc (take at l) bs (drop (at + length bs) l))
      ∙ drop_at (take at l) (bs ++ drop (at + length bs) l) at (length-take-le at l (omega arith))

  -- what was stored is read back
  pub read_put : take (length bs) (drop at (put l at bs)) ≡ bs
  read_put = ap (take (length bs)) drop_put_at ∙ take_at bs (drop (at + length bs) l) (length bs) refl

  -- what lies before or after is kept
  pub take_put_before : (n : ℕ) → n ≤ at → take n (put l at bs) ≡ take n l
  take_put_before n h = sym (take-take n at (put l at bs) h) ∙ ap (take n) take_put ∙ take-take n at l h

  pub drop_put_after : (n : ℕ) → at + length bs ≤ n → drop n (put l at bs) ≡ drop n l
  drop_put_after n h =
      let m = at + length bs in
      let e : n ≡ m + (n - m) = omega arith in
      rw e (sym (drop-drop (n - m) m (put l at bs)) ∙ ap (drop (n - m)) drop_put ∙ drop-drop (n - m) m l)

-- two stores side by side are one
pub put_append : (l : List ℕ) (at : ℕ) (bs cs : List ℕ) → at + length bs ≤ length l → put (put l at bs) (at + length bs) cs ≡ put l at (bs ++ cs)
unfolding put
put_append l at bs cs h =
    let n = at + length bs in
    let e : drop (n + length cs) (put l at bs) ≡ drop (n + length cs) l = drop_put_after l at bs h (n + length cs) (omega arith) in
    let f : n + length cs ≡ at + length (bs ++ cs) = omega (arith, length-append bs cs) in
    rw (take_at (take at l ++ bs) (drop n l) n (head_length l at bs h), e, f, append_assoc (take at l) bs cs) refl

-- the first i bytes are stored: one store more, and the first i + 1 are
pub put_more :
    (l : List ℕ) (at : ℕ) (bs : List ℕ) (i : ℕ)
    → i < length bs
    → at + i < length l
    → set (put l at (take i bs)) (at + i) (get_or bs i 0) ≡ put l at (take (i + 1) bs)
put_more l at bs i h room =
    let b = get_or bs i 0 in
    let first = take i bs in
    let n : at + length first ≡ at + i = omega (arith, length-take-le i bs) in
    let here : at + i < length (put l at first) = omega (arith, n, length_put l at first) in
    put_one (put l at first) (at + i) b here
    ∙ ap (λ (k : ℕ). put (put l at first) k (b ∷ [])) (sym n)
    ∙ put_append l at first (b ∷ []) (omega (arith, n))
    ∙ ap (put l at) (sym (take_more bs i 0 h))

-- The last `done` of `width` bytes of n are stored, and `rest` is what is left of n.
pub record Stored (l : List ℕ) (at n width : ℕ) (out : List ℕ) (rest done : ℕ) : Type 0 where
  pub within : done ≤ width
  pub rest_is : rest ≡ n / 256 ^ done
  pub out_is : out ≡ put l (at + (width - done)) (bytes done n)
