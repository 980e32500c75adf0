-- The bytes of a state, stored: first the truth bytes, then the values.
-- Assumes nothing.
use Rattle.std.specs.Prelude.{ℕ, ◌+◌, ◌*◌, ◌≤◌, ◌<◌, ◌≡◌, refl, Bool, false, List, [], ◌∷◌, ◌++◌, ℤ, pos, nat_abs, length, get_or}
use Rattle.std.proofs.Common.{add-one, arith, ap, ap₂, ◌∙◌, append_assoc, append-nil}
use Rattle.std.proofs.Math.Path.{sym}
use Rattle.integer.specs.BigEndian.{signed_bytes}
use Rattle.integer.specs.Store.{put, put_nil, put_append, length_put}
use Rattle.model.specs.Lists.{tabulate}
use Rattle.model.specs.Memory.{overwrite}
use Rattle.model.specs.Move.{State}
use Rattle.model.specs.StateTable.{truth_byte, values_bytes, state_bytes}
use Rattle.model.proofs.Theorems.Laws.Searching.{length_tabulate}
use Rattle.model.proofs.Theorems.Reading.States.{length_values_bytes, state_bytes_same}
use Rattle.state.specs.Overwriting.{tabulate_last, overwrite_put}

-- the state whose truths and values stand in two arrays
unfoldable pub state_in : List Bool → List ℤ → State
state_in has values = record { has = λ p. get_or has p false; val = λ v. get_or values v (pos 0) }

-- the truth bytes of a state
unfoldable pub truth_bytes : ℕ → State → List ℕ
truth_bytes props s = tabulate (λ p. truth_byte (s.has p)) 0 props

-- ---- the bytes stored from two arrays

-- what was stored from two arrays are the bytes of each state that they hold
pub stored_state :
    (props vars : ℕ) (has : List Bool) (values : List ℤ) (s : State) {out : List ℕ} (old : List ℕ)
    → out ≡ overwrite (state_bytes props vars (state_in has values)) old
    → ((p : ℕ) → p < props → get_or has p false ≡ s.has p)
    → ((v : ℕ) → v < vars → get_or values v (pos 0) ≡ s.val v)
    → out ≡ overwrite (state_bytes props vars s) old
unfolding state_in
stored_state props vars has values s old e f g =
    e ∙ ap (λ (bs : List ℕ). overwrite bs old) (state_bytes_same props vars (state_in has values) s f g)

-- ---- the values one by one

pub values_bytes_append : (ys zs : List ℤ) → values_bytes (ys ++ zs) ≡ values_bytes ys ++ values_bytes zs
unfolding values_bytes
values_bytes_append [] zs = refl
values_bytes_append (y ∷ ys) zs =
    ap (λ (bs : List ℕ). signed_bytes 4 y ++ bs) (values_bytes_append ys zs)
    ∙ sym (append_assoc (signed_bytes 4 y) (values_bytes ys) (values_bytes zs))

values_bytes_one : (z : ℤ) → values_bytes (z ∷ []) ≡ signed_bytes 4 z
unfolding values_bytes
values_bytes_one z = append-nil (signed_bytes 4 z)

-- what storing needs: room, and values in range
pub record Storable (props vars : ℕ) (out : List ℕ) (values : List ℤ) : Type 0 where
  pub room : props + 4 * vars ≤ length out
  pub given : vars ≤ length values
  pub small : (v : ℕ) → v < vars → nat_abs (get_or values v (pos 0)) ≤ 1_000_000

-- the first i of n values are stored behind the truth bytes
pub record ValuesStored (f : ℕ → ℤ) (props n : ℕ) (old new : List ℕ) (i : ℕ) : Type 0 where
  pub within : i ≤ n
  pub is : new ≡ put old props (values_bytes (tabulate f 0 i))

module _ (f : ℕ → ℤ) (props n : ℕ) (old : List ℕ) where
  length_values : (i : ℕ) → length (values_bytes (tabulate f 0 i)) ≡ 4 * i
  length_values i = length_values_bytes (tabulate f 0 i) ∙ ap (λ (k : ℕ). 4 * k) (length_tabulate f 0 i)

  pub values_start : ValuesStored f props n old old 0
  unfolding tabulate values_bytes
  values_start = record { within = omega arith; is = sym (put_nil old props) }

  module _ (fits : props + 4 * n ≤ length old) {new : List ℕ} {i : ℕ} (w : ValuesStored f props n old new i) where
    pub values_length : length new ≡ length old
    values_length =
        ap length w.is
        ∙ length_put old props (values_bytes (tabulate f 0 i)) (omega (arith, length_values i, w.within))

    pub values_step :
        i < n
        → {z : ℤ}
        → z ≡ f i
        → {next : List ℕ}
        → next ≡ put new (props + 4 * i) (signed_bytes 4 z)
        → ValuesStored f props n old next (i + 1)
    values_step h {z} e stored =
        let bs = values_bytes (tabulate f 0 i) in
        let k : props + 4 * i ≡ props + length bs = omega (arith, length_values i) in
        let t : tabulate f 0 (i + 1) ≡ tabulate f 0 i ++ (z ∷ []) =
        ap (tabulate f 0) (add-one i) ∙ tabulate_last f 0 i ∙ ap (λ (x : ℤ). tabulate f 0 i ++ (x ∷ [])) (ap f (omega arith) ∙ sym e) in
        record {
          within = omega arith;
          is =
              stored
              ∙ ap₂ (λ (l : List ℕ) (j : ℕ). put l j (signed_bytes 4 z)) w.is k
              ∙ put_append old props bs (signed_bytes 4 z) (omega (arith, length_values i))
              ∙ ap (λ (c : List ℕ). put old props (bs ++ c)) (sym (values_bytes_one z))
              ∙ ap (put old props) (sym (values_bytes_append (tabulate f 0 i) (z ∷ [])))
              ∙ ap (λ (zs : List ℤ). put old props (values_bytes zs)) (sym t);
        }

  pub values_end :
      {new : List ℕ} {i : ℕ}
      → ValuesStored f props n old new i
      → n ≤ i
      → new ≡ put old props (values_bytes (tabulate f 0 n))
  values_end {i} w h =
      let e : i ≡ n = omega (arith, w.within) in
      w.is ∙ ap (λ (k : ℕ). put old props (values_bytes (tabulate f 0 k))) e

-- both stores are the bytes of the state
pub stored_both :
    (props vars : ℕ) (s : State) (old : List ℕ)
    → props ≤ length old
    → put (overwrite (truth_bytes props s) old) props (values_bytes (tabulate s.val 0 vars)) ≡ overwrite (state_bytes props vars s) old
unfolding truth_bytes state_bytes
stored_both props vars s old h =
    overwrite_put (truth_bytes props s) (values_bytes (tabulate s.val 0 vars)) old props
    (length_tabulate (λ p. truth_byte (s.has p)) 0 props)
    h
