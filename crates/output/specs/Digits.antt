-- The decimal digits of a number, counted, and stored from the last to the first. Assumes nothing.
use Rattle.std.specs.Prelude.{ℕ, suc, ◌+◌, ◌-◌, ◌/◌, ◌%◌, ◌≤◌, ◌<◌, ◌≡◌, List, [], ◌∷◌, ◌++◌, length, set}
use Rattle.std.proofs.Common.{add-one, arith, sym, ap, ◌∙◌, append-nil, length-append}
use Rattle.std.proofs.Math.Seq.{append_snoc}
use Rattle.integer.specs.Store.{put, put_nil, put_cons, length_put}
use Rattle.model.specs.Listing.{decimal}
use Rattle.model.proofs.Theorems.Printing.Decimals.{decimal_small, decimal_large, decimal_some, length_small, length_large}
use Rattle.output.specs.Writing.{Written, written_whole}

-- `width` digits of n are counted, less one, and `rest` is the number that the other digits stand for
pub record Counted (n rest width : ℕ) : Type 0 where
  pub is : width + length (decimal rest) ≡ length (decimal n) + 1

pub counted_none : (n : ℕ) → Counted n n 1
counted_none n = record { is = omega arith }

pub counted_next : {n rest width : ℕ} → Counted n rest width → 10 ≤ rest → Counted n (rest / 10) (width + 1)
counted_next {rest} c h = record { is = omega (arith, c.is, length_large rest h) }

pub counted_all : {n rest width : ℕ} → Counted n rest width → rest < 10 → width ≡ length (decimal n)
counted_all {rest} c h = omega (arith, c.is, length_small rest h)

-- ---- from the last to the first: the `nth` digit from the end is the next to be stored, and `rest` is the number that it and
-- those before it stand for
pub record Stored (old : List ℕ) (at n width : ℕ) (new : List ℕ) (rest nth : ℕ) : Type 0 where
  pub room : at + width ≤ length old
  pub size : width ≡ length (decimal n)
  pub some : 1 ≤ nth
  pub left : length (decimal rest) + nth ≡ width + 1
  pub behind : List ℕ
  pub whole : decimal n ≡ decimal rest ++ behind
  pub is : new ≡ put old (at + (width - nth) + 1) behind

pub stored_none :
    (old : List ℕ) (at n width : ℕ)
    → width ≡ length (decimal n)
    → at + width ≤ length old
    → Stored old at n width old n 1
stored_none old at n width e room =
    record {
      room = room;
      size = e;
      some = omega arith;
      left = omega arith;
      behind = [];
      whole = sym (append-nil (decimal n));
      is = sym (put_nil old (at + (width - 1) + 1));
    }

module _ {old : List ℕ} {at n width : ℕ} {new : List ℕ} {rest nth : ℕ} (s : Stored old at n width new rest nth) where
  abbrev place : ℕ
  place = at + (width - nth)

  pub nth_in : nth ≤ width
  nth_in = omega (arith, s.left, decimal_some rest)

  nth_less : 10 ≤ rest → nth < width
  nth_less h = omega (arith, s.left, length_large rest h, decimal_some (rest / 10))

  -- the next digit and what stands behind it have room
  fits : place + suc (length s.behind) ≤ length old
  fits =
      let counts : length (decimal n) ≡ length (decimal rest) + length s.behind =
      ap length s.whole ∙ length-append (decimal rest) s.behind in
      omega (arith, counts, s, nth_in)

  pub stored_length : length new ≡ length old
  stored_length = ap length s.is ∙ length_put old (place + 1) s.behind (omega (arith, fits))

  next_digit : (d : ℕ) → set new place d ≡ put old place (d ∷ s.behind)
  next_digit d =
      ap (λ (l : List ℕ). set l place d) (s.is ∙ ap (λ (k : ℕ). put old k s.behind) (add-one place))
      ∙ sym (put_cons old place d s.behind fits)

  pub stored_next : 10 ≤ rest → Stored old at n width (set new place (48 + rest % 10)) (rest / 10) (nth + 1)
  stored_next h =
      let d = 48 + rest % 10 in
      let e : place ≡ at + (width - (nth + 1)) + 1 = omega (arith, nth_less h) in
      record {
        room = s.room;
        size = s.size;
        some = omega arith;
        left = omega (arith, s.left, length_large rest h);
        behind = d ∷ s.behind;
        whole =
            s.whole
            ∙ ap (λ (l : List ℕ). l ++ s.behind) (decimal_large rest h)
            ∙ append_snoc (decimal (rest / 10)) d s.behind;
        is = next_digit d ∙ ap (λ (k : ℕ). put old k (d ∷ s.behind)) e;
      }

  pub stored_all : rest < 10 → Written old at (decimal n) (set new place (48 + rest)) (at + width)
  stored_all h =
      let d = 48 + rest in
      let e : place ≡ at = omega (arith, s.left, length_small rest h) in
      let w : decimal n ≡ d ∷ s.behind = s.whole ∙ ap (λ (l : List ℕ). l ++ s.behind) (decimal_small rest h) in
      written_whole (omega (arith, s.room, s.size))
      (next_digit d ∙ ap (λ (k : ℕ). put old k (d ∷ s.behind)) e ∙ ap (put old at) (sym w))
      (ap (λ (k : ℕ). at + k) s.size)
