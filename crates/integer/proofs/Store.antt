-- Bytes stored in a list: `put l at bs` is l with the bytes bs from place `at` on, and nothing else changed.
-- Its laws: the length, what stands before, at and after the place, one byte more in front, two stores side by side.
use Rattle.std.specs.Prelude.{◌≡◌, refl, List, set}
use Rattle.std.proofs.Math.Path.{sym}
use Rattle.std.proofs.Common.{◌∙◌, add-one}
use Prim.Native.Nat.{ℕ, suc, ◌+◌, ◌-◌, ◌/◌, ◌%◌, ◌^◌, ◌<◌, ◌≤◌}
use Rattle.std.proofs.Math.Nat.{pow-suc, div-div-eq-div-mul}
use native.Mathlib.Omega.{arith}
use Rattle.std.proofs.Math.ListN.{length}
use Rattle.integer.specs.BigEndian.{bytes}
use Rattle.integer.proofs.BigEndian.{length_bytes}
use Rattle.integer.specs.Store.{Stored, length_put, put, put_cons, put_nil}

module _ {l : List ℕ} {at n width : ℕ} (fits : at + width ≤ length l) where
  pub stored_none : Stored l at n width l n 0
  unfolding bytes
  stored_none = record { within = omega arith; rest_is = omega arith; out_is = sym (put_nil l (at + (width - 0))) }

  pub stored_length : {out : List ℕ} {rest done : ℕ} → Stored l at n width out rest done → length out ≡ length l
  stored_length {done} h =
      rw h.out_is (length_put l (at + (width - done)) (bytes done n) (omega (arith, length_bytes done n, h.within)))

  pub stored_next : {out : List ℕ} {rest done : ℕ} → done < width → Stored l at n width out rest done
      → Stored l at n width (set out (at + (width - 1 - done)) (rest % 256)) (rest / 256) (done + 1)
  unfolding bytes
  stored_next {out} {rest} {done} p h =
      let i = at + (width - 1 - done) in
      let e : at + (width - suc done) ≡ i = omega arith in
      let f : at + (width - done) ≡ suc i = omega arith in
      let room : i + suc (length (bytes done n)) ≤ length l = omega (arith, length_bytes done n) in
      rw (add-one done)
      (record {
        within = p;
        rest_is = rw (h.rest_is, div-div-eq-div-mul n (256 ^ done) 256, pow-suc 256 done) refl;
        out_is = rw (e, h.rest_is, h.out_is, f) (sym (put_cons l i (n / 256 ^ done % 256) (bytes done n) room));
      })

  pub stored_all : {out : List ℕ} {rest done : ℕ} → Stored l at n width out rest done → width ≤ done → out ≡ put l at (bytes width n)
  stored_all {done} h p =
      let e : done ≡ width = omega (arith, h.within) in
      let f : at + (width - width) ≡ at = omega arith in
      h.out_is ∙ rw (e, f) refl
