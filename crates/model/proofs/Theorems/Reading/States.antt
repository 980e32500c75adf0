-- What an accepted state is (document 01, "State"): its length, its truth bytes and its values are right, and its bytes are those of
-- its state. Assumes nothing.
use Prim.Native.Nat.{ℕ, zero, suc, ◌+◌, ◌*◌, ◌≤◌, ◌<◌}
use native.Mathlib.Omega.{arith}
use Rattle.std.specs.Prelude.{◌≡◌, refl, true, false, not, T, eqb, ℤ, nat_abs, get_or, take}
use Rattle.std.proofs.Math.Path.{sym, ap, ap₂}
use Rattle.std.proofs.Common.{◌∙◌, eqb→eq, leb→le, length-append, drop_of_length-le, drop-cons, drop-drop}
use Rattle.std.proofs.Math.Bool.{Bool}
use mathlib.Core.List.{List, [], ◌∷◌, ◌++◌}
use Rattle.std.proofs.Math.Option.{Option, none, some, some-ne-none}
use Rattle.std.proofs.Math.Dec.{not_T, leb}
use Rattle.std.proofs.Math.ListN.{length, drop, length-drop, take-append-drop}
use Rattle.std.proofs.Math.Seq.{length-take-le}
use Rattle.integer.specs.BigEndian.{signed, signed_bytes, AllBytes}
use Rattle.integer.proofs.BigEndian.{all_take, all_drop, length_signed_bytes, signed_bytes_signed}
use Rattle.model.specs.declared.Refusal.{Refusal}
use Rattle.model.specs.Limits.{Limits}
use Rattle.model.specs.Lists.{first_from, tabulate}
use Rattle.model.specs.Move.{State}
use Rattle.model.specs.StateTable.{value_offset, state_value, state_of, value_in_range, refused_value, refused_byte, state_refusal, truth_byte, values_bytes, state_bytes}
use Rattle.model.proofs.Theorems.Laws.Booleans.{T-stable}
use Rattle.model.proofs.Theorems.Laws.Searching.{first_from_cases, length_tabulate, tabulate_same}
use Rattle.model.specs.Theorems.Reading.States.{AcceptedState}

-- where the search finds none that fails a test, all pass
none_fails : (f : ℕ → Bool) (n : ℕ) → first_from (λ i. not (f i)) 0 n ≡ none → (i : ℕ) → i < n → T (f i)
none_fails f n =
    first_from_cases (λ i. not (f i)) (λ (o : Option ℕ). o ≡ none → (i : ℕ) → i < n → T (f i)) 0 n
    (λ j low high out before e. absurd (some-ne-none _ e))
    (λ right e i h. T-stable (f i) (λ out. right i (omega arith) (omega arith) (not_T (f i) out)))

module _ (L : Limits) (props vars : ℕ) (bs : List ℕ) where
  pub accepted_state : state_refusal L props vars bs ≡ none → AcceptedState L props vars bs
  unfolding state_refusal refused_byte refused_value value_offset value_in_range
  accepted_state = by_length (eqb (length bs) (props + 4 * vars)) (eqb→eq (length bs) (props + 4 * vars))
    where
      byte : ℕ → Bool
      byte p = leb (get_or bs p 0) 1

      value : ℕ → Bool
      value v = leb (nat_abs (state_value props bs v)) L.constant

      neither : (p v : Option ℕ) → refused_byte p (refused_value props v) ≡ none → (p ≡ none) × (v ≡ none)
      neither none none e = (refl, refl)
      neither none (some v) e = absurd (some-ne-none _ e)
      neither (some p) v e = absurd (some-ne-none _ e)

      refused : Bool → Option Refusal
      refused t =
          elim t [
            | true ↦ refused_byte (first_from (λ p. not (byte p)) 0 props) (refused_value props (first_from (λ v. not (value v)) 0 vars))
            | false ↦ some (record { number = 8; place = 0 })
          ]

      by_length : (t : Bool) → (T t → length bs ≡ props + 4 * vars) → refused t ≡ none → AcceptedState L props vars bs
      by_length true is e =
          let found = neither (first_from (λ p. not (byte p)) 0 props) (first_from (λ v. not (value v)) 0 vars) e in
          record {
            length_is = is tt;
            truths = λ p h. leb→le (get_or bs p 0) 1 (none_fails byte props found.0 p h);
            values = λ v h. leb→le (nat_abs (state_value props bs v)) L.constant (none_fails value vars found.1 v h);
          }
      by_length false is e = absurd (some-ne-none _ e)

-- ---- the bytes of a state
pub length_values_bytes : (zs : List ℤ) → length (values_bytes zs) ≡ 4 * length zs
unfolding values_bytes
length_values_bytes [] = refl
length_values_bytes (z ∷ zs) =
    omega (arith, length-append (signed_bytes 4 z) (values_bytes zs), length_signed_bytes 4 z, length_values_bytes zs)

pub length_state_bytes : (props vars : ℕ) (s : State) → length (state_bytes props vars s) ≡ props + 4 * vars
unfolding state_bytes
length_state_bytes props vars s =
    let truths = tabulate (λ p. truth_byte (s.has p)) 0 props in
    let values = tabulate s.val 0 vars in
    omega (
      arith,
      length-append truths (values_bytes values),
      length_tabulate (λ p. truth_byte (s.has p)) 0 props,
      length_values_bytes values,
      length_tabulate s.val 0 vars,
    )

-- Only the truths below props and the values below vars count.
pub state_bytes_same :
    (props vars : ℕ) (s t : State)
    → ((p : ℕ) → p < props → s.has p ≡ t.has p)
    → ((v : ℕ) → v < vars → s.val v ≡ t.val v)
    → state_bytes props vars s ≡ state_bytes props vars t
unfolding state_bytes
state_bytes_same props vars s t f g =
    ap₂ ◌++◌
    (tabulate_same (λ p. truth_byte (s.has p)) (λ p. truth_byte (t.has p)) 0 props (λ p h k. ap truth_byte (f p (omega arith))))
    (ap values_bytes (tabulate_same s.val t.val 0 vars (λ v h k. g v (omega arith))))

-- ---- read from bytes
truth_back : (b : ℕ) → b ≤ 1 → truth_byte (eqb b 1) ≡ b
unfolding truth_byte
truth_back zero h = refl
truth_back (suc zero) h = refl
truth_back (suc (suc b)) h = absurd (omega arith)

module _ (bs : List ℕ) where
  truths_back :
      (i n : ℕ)
      → i + n ≤ length bs
      → ((p : ℕ) → p < i + n → get_or bs p 0 ≤ 1)
      → tabulate (λ p. truth_byte (eqb (get_or bs p 0) 1)) i n ++ drop (i + n) bs ≡ drop i bs
  unfolding tabulate
  truths_back i zero h small = let e : i + 0 ≡ i = omega arith in ap (λ (j : ℕ). drop j bs) e
  truths_back i (suc n) h small =
      let rest = tabulate (λ p. truth_byte (eqb (get_or bs p 0) 1)) (suc i) n in
      let next : i + suc n ≡ suc i + n = omega arith in
      ap₂ (λ (b : ℕ) (l : List ℕ). b ∷ l) (truth_back (get_or bs i 0) (small i (omega arith)))
      (ap (λ (j : ℕ). rest ++ drop j bs) next ∙ truths_back (suc i) n (omega arith) (λ p l. small p (omega arith)))
      ∙ sym (drop-cons bs i 0 (omega arith))

  values_back :
      AllBytes bs
      → (props i n : ℕ)
      → length bs ≡ props + 4 * (i + n)
      → values_bytes (tabulate (state_value props bs) i n) ≡ drop (props + 4 * i) bs
  unfolding tabulate values_bytes state_value value_offset
  values_back all props i zero e = sym (drop_of_length-le bs {i = props + 4 * i} (omega arith))
  values_back all props i (suc n) e =
      let here = drop (props + 4 * i) bs in
      let four : length (take 4 here) ≡ 4 = length-take-le 4 here (omega (arith, length-drop (props + 4 * i) bs)) in
      let next : props + 4 * suc i ≡ (props + 4 * i) + 4 = omega arith in
      let all-four = all_take 4 (all_drop (props + 4 * i) all) in
      ap₂ ◌++◌ (ap (λ (w : ℕ). signed_bytes w (signed (take 4 here))) (sym four) ∙ signed_bytes_signed all-four)
      (values_back all props (suc i) n (omega arith) ∙ ap (λ (j : ℕ). drop j bs) next ∙ sym (drop-drop 4 (props + 4 * i) bs))
      ∙ take-append-drop 4 here

-- An accepted state is the bytes of its state: the format is canonical.
pub state_canonical :
    {L : Limits} {props vars : ℕ} {bs : List ℕ}
    → AcceptedState L props vars bs
    → AllBytes bs
    → state_bytes props vars (state_of props bs) ≡ bs
unfolding state_bytes state_of
state_canonical {L} {props} {vars} {bs} a all =
    let truths = tabulate (λ p. truth_byte (eqb (get_or bs p 0) 1)) 0 props in
    let from : props + 4 * 0 ≡ 0 + props = omega arith in
    ap (λ (l : List ℕ). truths ++ l)
    (values_back bs all props 0 vars (omega (arith, a.length_is)) ∙ ap (λ (j : ℕ). drop j bs) from)
    ∙ truths_back bs 0 props (omega (arith, a.length_is)) (λ p h. a.truths p (omega arith))
