-- Layer memory read and written by place: what each number holds, and that numbers which hold that are the memory defined.
-- Assumes nothing.
use Prim.Native.Nat.{ℕ, zero, suc, ◌+◌, ◌-◌, ◌*◌, ◌/◌, ◌%◌, ◌≤◌, ◌<◌}
use Rattle.std.specs.Prelude.{◌≡◌, List, ◌++◌, ltb, ℤ, pos, drop}
use Rattle.std.proofs.Math.Path.{sym, ap}
use Rattle.std.proofs.Common.{subst, ◌∙◌, arith, get_or-append-add}
use native.Mathlib.Nat.{mul-le-mul_left, mul-suc, mul_comm, div-add-mod', mod-lt, div-lt_iff_lt-mul}
use Rattle.std.proofs.Math.Dec.{not_T, ltb→lt, nltb→le}
use Rattle.std.proofs.Math.ListN.{length, get_or, length-append, length-drop, get_or-append}
use Rattle.std.proofs.Math.Seq.{get_or-drop, ext_get_or}
use Rattle.model.specs.Lists.{tabulate}
use Rattle.model.specs.Task.{Task}
use Rattle.model.specs.Move.{State}
use Rattle.model.specs.Layer.{layer_at}
use Rattle.model.specs.Memory.{encode, prop_entry, move_entry, rows, layer_memory, overwrite}
use Rattle.model.specs.Theorems.Layers.Memories.{size, Holds}
use Rattle.model.proofs.Theorems.Laws.Booleans.{T-cases}
use Rattle.model.proofs.Theorems.Laws.Searching.{length_tabulate, get_d_tabulate, below_suc}

-- an element behind the first list, where the place is known by an equation
get_d_after : {A : Type 0} (xs ys : List A) (i j : ℕ) (d : A) → i ≡ length xs + j → get_or (xs ++ ys) i d ≡ get_or ys j d
get_d_after xs ys i j d e = rw e (get_or-append-add xs ys j d)

module _ (k : Task) (s : State) where
  pub length_rows : (n : ℕ) → length (rows k s n) ≡ k.vars * n
  unfolding rows
  length_rows zero = sym (native.Mathlib.Nat.mul-zero k.vars)
  length_rows (suc n) =
      length-append (rows k s n) (tabulate (λ v. encode ((layer_at k s n).val v)) 0 k.vars)
      ∙ omega (arith, length_rows n, length_tabulate (λ v. encode ((layer_at k s n).val v)) 0 k.vars, mul-suc k.vars n)

  -- the place of layer u's value v stands before the places of layer n, if u is below n
  pub place_below : (u n v : ℕ) → u < n → v < k.vars → k.vars * u + v < k.vars * n
  place_below u n v h hv =
      let m : k.vars * suc u ≤ k.vars * n = mul-le-mul_left k.vars h in
      omega (arith, mul-suc k.vars u)

  pub get_d_rows : (n u v : ℕ) (d : ℤ) → u < n → v < k.vars → get_or (rows k s n) (k.vars * u + v) d ≡ encode ((layer_at k s u).val v)
  unfolding rows
  get_d_rows zero u v d h hv = absurd (omega arith)
  get_d_rows (suc n) u v d h hv =
      below_suc u n h
      (λ before.
      get_or-append (rows k s n) (tabulate (λ i. encode ((layer_at k s n).val i)) 0 k.vars) d (k.vars * u + v)
      (omega (arith, length_rows n, place_below u n v before hv))
      ∙ get_d_rows n u v d before hv)
      (λ last.
      rw last
      (get_d_after (rows k s n) (tabulate (λ i. encode ((layer_at k s n).val i)) 0 k.vars) (k.vars * n + v) v d
      (omega (arith, length_rows n))
      ∙ get_d_tabulate (λ i. encode ((layer_at k s n).val i)) 0 k.vars v d hv
      ∙ ap (λ (i : ℕ). encode ((layer_at k s n).val i)) (omega arith)))

  module _ (n steps : ℕ) where
    entries : List ℤ
    entries = tabulate (prop_entry k s n) 0 k.props ++ tabulate (move_entry k s steps) 0 (length k.moves)

    length_entries : length entries ≡ k.props + length k.moves
    unfolding entries
    length_entries =
        length-append (tabulate (prop_entry k s n) 0 k.props) (tabulate (move_entry k s steps) 0 (length k.moves))
        ∙ omega (arith, length_tabulate (prop_entry k s n) 0 k.props, length_tabulate (move_entry k s steps) 0 (length k.moves))

    pub length_memory : length (layer_memory k s n steps) ≡ size k s n
    unfolding layer_memory entries
    length_memory = length-append entries (rows k s n) ∙ omega (arith, length_entries, length_rows n)

    pub get_d_prop : (p : ℕ) (d : ℤ) → p < k.props → get_or (layer_memory k s n steps) p d ≡ prop_entry k s n p
    unfolding layer_memory entries
    get_d_prop p d h =
        get_or-append entries (rows k s n) d p (omega (arith, length_entries))
        ∙ get_or-append (tabulate (prop_entry k s n) 0 k.props) (tabulate (move_entry k s steps) 0 (length k.moves)) d p
        (omega (arith, length_tabulate (prop_entry k s n) 0 k.props))
        ∙ get_d_tabulate (prop_entry k s n) 0 k.props p d h
        ∙ ap (prop_entry k s n) (omega arith)

    pub get_d_move : (b : ℕ) (d : ℤ) → b < length k.moves → get_or (layer_memory k s n steps) (k.props + b) d ≡ move_entry k s steps b
    unfolding layer_memory entries
    get_d_move b d h =
        get_or-append entries (rows k s n) d (k.props + b) (omega (arith, length_entries))
        ∙ get_d_after (tabulate (prop_entry k s n) 0 k.props) (tabulate (move_entry k s steps) 0 (length k.moves)) (k.props + b) b d
        (omega (arith, length_tabulate (prop_entry k s n) 0 k.props))
        ∙ get_d_tabulate (move_entry k s steps) 0 (length k.moves) b d h
        ∙ ap (move_entry k s steps) (omega arith)

    pub get_d_value :
        (u v : ℕ) (d : ℤ) → u < n → v < k.vars
        → get_or (layer_memory k s n steps) (k.props + length k.moves + (k.vars * u + v)) d ≡ encode ((layer_at k s u).val v)
    unfolding layer_memory entries
    get_d_value u v d h hv =
        get_d_after entries (rows k s n) (k.props + length k.moves + (k.vars * u + v)) (k.vars * u + v) d (omega (arith, length_entries))
        ∙ get_d_rows n u v d h hv

-- the place of a value, taken apart
value_place : (N j n : ℕ) → j < N * n → (0 < N) × (j / N < n) × (N * (j / N) + j % N ≡ j) × (j % N < N)
value_place zero j n h = absurd (omega (arith, native.Mathlib.Nat.zero-mul n))
value_place (suc N) j n h = (
  omega arith,
  (div-lt_iff_lt-mul {k = suc N} (omega arith)).1 (rw (mul_comm n (suc N)) h),
  ap (λ (x : ℕ). x + j % suc N) (mul_comm (suc N) (j / suc N)) ∙ div-add-mod' j (suc N),
  mod-lt j (omega arith),
)

module _ {k : Task} {s : State} {n steps : ℕ} {old mem : List ℤ} (room : size k s n ≤ length old) (held : Holds k s n steps old mem) where
  -- by the part that the place stands in
  stored_at : (i : ℕ) → i < size k s n → get_or mem i (pos 0) ≡ get_or (layer_memory k s n steps) i (pos 0)
  stored_at i h =
      T-cases (ltb i k.props)
      (λ prop.
      let p : i < k.props = ltb→lt i k.props prop in
      held.prop i p ∙ sym (get_d_prop k s n steps i (pos 0) p))
      (λ no_prop.
      let low : k.props ≤ i = nltb→le i k.props (not_T (ltb i k.props) no_prop) in
      T-cases (ltb i (k.props + length k.moves))
      (λ move.
      let p : i < k.props + length k.moves = ltb→lt i (k.props + length k.moves) move in
      let e : k.props + (i - k.props) ≡ i = omega arith in
      subst (λ (x : ℕ). get_or mem x (pos 0) ≡ get_or (layer_memory k s n steps) x (pos 0)) e
      (held.move (i - k.props) (omega arith) ∙ sym (get_d_move k s n steps (i - k.props) (pos 0) (omega arith))))
      (λ no_move.
      let up : k.props + length k.moves ≤ i = nltb→le i (k.props + length k.moves) (not_T (ltb i (k.props + length k.moves)) no_move) in
      let j : ℕ = i - (k.props + length k.moves) in
      let at = value_place k.vars (i - (k.props + length k.moves)) n (omega arith) in
      let e : k.props + length k.moves + (k.vars * (j / k.vars) + j % k.vars) ≡ i = omega (arith, at.2) in
      subst (λ (x : ℕ). get_or mem x (pos 0) ≡ get_or (layer_memory k s n steps) x (pos 0)) e
      (held.value (j / k.vars) (j % k.vars) at.1 at.3 ∙ sym (get_d_value k s n steps (j / k.vars) (j % k.vars) (pos 0) at.1 at.3))))

  memory_at : (i : ℕ) → i < length mem → get_or mem i (pos 0) ≡ get_or (overwrite (layer_memory k s n steps) old) i (pos 0)
  unfolding overwrite
  memory_at i h =
      T-cases (ltb i (size k s n))
      (λ inside.
      let below : i < size k s n = ltb→lt i (size k s n) inside in
      stored_at i below
      ∙ sym (get_or-append (layer_memory k s n steps) (drop (length (layer_memory k s n steps)) old) (pos 0) i (omega (arith, length_memory k s n steps))))
      (λ outside.
      let above : size k s n ≤ i = nltb→le i (size k s n) (not_T (ltb i (size k s n)) outside) in
      held.kept i above
      ∙ sym
      (get_d_after (layer_memory k s n steps) (drop (length (layer_memory k s n steps)) old) i (i - size k s n) (pos 0) (omega (arith, length_memory k s n steps))
      ∙ get_or-drop (length (layer_memory k s n steps)) old (i - size k s n) (pos 0)
      ∙ ap (λ (x : ℕ). get_or old x (pos 0)) (omega (arith, length_memory k s n steps))))

  -- then it is what the definitions say
  pub holds_memory : mem ≡ overwrite (layer_memory k s n steps) old
  unfolding overwrite
  holds_memory =
      ext_get_or (pos 0) mem (overwrite (layer_memory k s n steps) old)
      (held.same_length
      ∙ sym
      (length-append (layer_memory k s n steps) (drop (length (layer_memory k s n steps)) old)
      ∙ omega (arith, length_memory k s n steps, length-drop (length (layer_memory k s n steps)) old)))
      memory_at

-- and what the definitions say holds the layers
pub memory_holds :
    (k : Task) (s : State) (n steps : ℕ) (old : List ℤ) → size k s n ≤ length old
    → Holds k s n steps old (overwrite (layer_memory k s n steps) old)
unfolding overwrite
memory_holds k s n steps old room =
    record {
      same_length =
          length-append memory (drop (length memory) old)
          ∙ omega (arith, length_memory k s n steps, length-drop (length memory) old);
      prop = λ p h. inside p (omega arith) ∙ get_d_prop k s n steps p (pos 0) h;
      move = λ b h. inside (k.props + b) (omega arith) ∙ get_d_move k s n steps b (pos 0) h;
      value =
          λ u v h hv.
          inside (k.props + length k.moves + (k.vars * u + v)) (omega (arith, place_below k s u n v h hv))
          ∙ get_d_value k s n steps u v (pos 0) h hv;
      kept =
          λ i h.
          get_d_after memory (drop (length memory) old) i (i - size k s n) (pos 0) (omega (arith, length_memory k s n steps))
          ∙ get_or-drop (length memory) old (i - size k s n) (pos 0)
          ∙ ap (λ (x : ℕ). get_or old x (pos 0)) (omega (arith, length_memory k s n steps));
    }
  where
    memory : List ℤ
    memory = layer_memory k s n steps

    inside : (i : ℕ) → i < size k s n → get_or (memory ++ drop (length memory) old) i (pos 0) ≡ get_or memory i (pos 0)
    inside i h = get_or-append memory (drop (length memory) old) (pos 0) i (omega (arith, length_memory k s n steps))
