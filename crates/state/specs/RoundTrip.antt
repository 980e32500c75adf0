-- What is read from the bytes of a state: the state's truths and values. The bytes of a state in range are accepted.
-- Assumes nothing.
use Prim.Native.Nat.{ℕ, zero, suc, ◌+◌, ◌*◌, ◌≤◌, ◌<◌}
use Rattle.std.proofs.Common.{not-suc-le-zero, arith, sym, ◌∙◌, take_at, drop_at, drop-drop}
use Rattle.std.specs.Prelude.{◌≡◌, refl, Bool, true, false, ℤ, pos, nat_abs, get_or, take, drop}
use Rattle.std.proofs.Math.Path.{ap}
use mathlib.Core.List.{List, [], ◌∷◌, ◌++◌}
use Rattle.std.proofs.Math.Option.{none}
use Rattle.std.proofs.Math.Dec.{eqb}
use Rattle.std.proofs.Math.ListN.{length, get_or-append}
use Rattle.integer.specs.BigEndian.{half, signed, signed_bytes}
use Rattle.integer.proofs.BigEndian.{length_signed_bytes, signed_signed_bytes}
use Rattle.integer.specs.Linear.{zlin, nat_abs_split, neg_up, neg_dn}
use Rattle.model.specs.Limits.{paper}
use Rattle.model.specs.Lists.{tabulate}
use Rattle.model.specs.Move.{State}
use Rattle.model.specs.StateTable.{value_offset, state_value, state_of, state_refusal, truth_byte, values_bytes, state_bytes}
use Rattle.model.proofs.Theorems.Laws.Searching.{length_tabulate, get_d_tabulate}
use Rattle.model.proofs.Theorems.Reading.States.{length_state_bytes}
use Rattle.state.specs.Checking.{state_accepted}

-- ---- one truth, one value

truth_back : (b : Bool) → eqb (truth_byte b) 1 ≡ b
unfolding truth_byte
truth_back true = refl
truth_back false = refl

truth_most : (b : Bool) → truth_byte b ≤ 1
unfolding truth_byte
truth_most true = omega arith
truth_most false = omega arith

value_back : (z : ℤ) → nat_abs z ≤ 1_000_000 → signed (signed_bytes 4 z) ≡ z
unfolding half
value_back z h =
    signed_signed_bytes 4 z (omega arith)
    (omega (zlin, nat_abs_split z, neg_up (pos 2_147_483_648), neg_dn (pos 2_147_483_648)))
    (omega (zlin, nat_abs_split z))

-- ---- where they stand

values_bytes_at :
    (zs : List ℤ) (v : ℕ)
    → v < length zs
    → take 4 (drop (4 * v) (values_bytes zs)) ≡ signed_bytes 4 (get_or zs v (pos 0))
unfolding values_bytes
values_bytes_at [] v h = absurd (not-suc-le-zero h)
values_bytes_at (z ∷ zs) zero h = take_at (signed_bytes 4 z) (values_bytes zs) 4 (length_signed_bytes 4 z)
values_bytes_at (z ∷ zs) (suc v) h =
    let e : 4 * suc v ≡ 4 + 4 * v = omega arith in
    let l = signed_bytes 4 z ++ values_bytes zs in
    ap (λ (n : ℕ). take 4 (drop n l)) e
    ∙ ap (take 4) (sym (drop-drop (4 * v) 4 l))
    ∙ ap (λ (m : List ℕ). take 4 (drop (4 * v) m)) (drop_at (signed_bytes 4 z) (values_bytes zs) 4 (length_signed_bytes 4 z))
    ∙ values_bytes_at zs v (omega arith)

module _ (props vars : ℕ) (s : State) where
  byte_at : (p : ℕ) → p < props → get_or (state_bytes props vars s) p 0 ≡ truth_byte (s.has p)
  unfolding state_bytes
  byte_at p h =
      let f : ℕ → ℕ = λ q. truth_byte (s.has q) in
      get_or-append (tabulate f 0 props) (values_bytes (tabulate s.val 0 vars)) 0 p (omega (arith, length_tabulate f 0 props))
      ∙ get_d_tabulate f 0 props p 0 h
      ∙ ap f (omega arith)

  value_at : (v : ℕ) → v < vars → state_value props (state_bytes props vars s) v ≡ signed (signed_bytes 4 (s.val v))
  unfolding state_bytes state_value value_offset
  value_at v h =
      let ts = tabulate (λ q. truth_byte (s.has q)) 0 props in
      let zs = tabulate s.val 0 vars in
      let n : length ts ≡ props = length_tabulate (λ q. truth_byte (s.has q)) 0 props in
      ap (λ (l : List ℕ). signed (take 4 l))
      (sym (drop-drop (4 * v) props (ts ++ values_bytes zs)) ∙ ap (drop (4 * v)) (drop_at ts (values_bytes zs) props n))
      ∙ ap signed (values_bytes_at zs v (omega (arith, length_tabulate s.val 0 vars)))
      ∙ ap (λ (z : ℤ). signed (signed_bytes 4 z)) (get_d_tabulate s.val 0 vars v (pos 0) h ∙ ap s.val (omega arith))

  -- ---- reading back what was written

  pub truths_back : (p : ℕ) → p < props → (state_of props (state_bytes props vars s)).has p ≡ s.has p
  unfolding state_of
  truths_back p h = ap (λ (n : ℕ). eqb n 1) (byte_at p h) ∙ truth_back (s.has p)

  pub values_back :
      (v : ℕ)
      → v < vars
      → nat_abs (s.val v) ≤ 1_000_000
      → (state_of props (state_bytes props vars s)).val v ≡ s.val v
  unfolding state_of
  values_back v h k = value_at v h ∙ value_back (s.val v) k

  pub bytes_accepted :
      ((v : ℕ) → v < vars → nat_abs (s.val v) ≤ 1_000_000)
      → state_refusal paper props vars (state_bytes props vars s) ≡ none
  unfolding paper
  bytes_accepted small =
      state_accepted props vars (state_bytes props vars s)
      (record {
        length_is = length_state_bytes props vars s;
        truths = λ p h. rw (byte_at p h) (truth_most (s.has p));
        values = λ v h. rw (value_at v h, value_back (s.val v) (small v h)) (small v h);
      })
