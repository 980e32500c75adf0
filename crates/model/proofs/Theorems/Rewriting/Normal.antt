-- Rewriting and normalising change places, over the bytes of the calls, and so do renumbering and the normal form: what solves the relaxed
-- task of a written table, renumbered, solves that of the rewritten one, and back. Assumes nothing.
use Rattle.std.specs.Prelude.{ℕ, zero, suc, ◌*◌, ◌≤◌, ◌≡◌, Bool, take}
use Rattle.std.proofs.Common.{arith, sym, ◌∙◌, subst₂}
use Rattle.std.proofs.Math.Path.{refl, ap, ap₂, subst}
use Rattle.std.proofs.Math.Bool.{cond}
use mathlib.Core.List.{List, [], ◌∷◌, map}
use Rattle.std.proofs.Math.ListN.{length}
use Rattle.std.proofs.lemmas.List.{length-map}
use Rattle.integer.specs.BigEndian.{AllBytes}
use Rattle.model.specs.declared.Refusal.{Refusal}
use Rattle.model.specs.Limits.{Limits, paper}
use Rattle.model.specs.Task.{Form, written, normal, Block, Task, active}
use Rattle.model.specs.Move.{State, relaxed, move_at, Solves}
use Rattle.model.specs.NormalForm.{normal_block, normal_task}
use Rattle.model.specs.Command.{task_bytes}
use Rattle.model.specs.Reading.{Table, Verdict, accepted, refused, only, stored, head_wanted, checks16, length_limit, reading}
use Rattle.model.specs.Calls.{writes, fitted, normal_bytes, normal_of, normalised}
use Rattle.model.specs.Rewrite.{active_moves, rewritten, new_number, old_number, renumbered, numbered_back, rewrite_of, rewrote}
use Rattle.model.specs.Theorems.Reading.WellFormed.{All, TaskOk}
use Rattle.model.specs.Theorems.Reading.Active.{Lively}
use Rattle.model.proofs.Theorems.Reading.Accepted.{reading_ok, reading_limit, reading_canonical}
use Rattle.model.proofs.Theorems.NormalForm.Active.{normal_active}
use Rattle.model.proofs.Theorems.NormalForm.Moves.{normal_move}
use Rattle.model.proofs.Theorems.NormalForm.Print.{normal_length_lem, normal_accepted}
use Rattle.model.proofs.Theorems.NormalForm.Task.{normal_ok}
use Rattle.model.specs.Theorems.Printing.Passing.{SmallLimits}
use Rattle.model.proofs.Theorems.Printing.Outputs.{fitted_whole}
use Rattle.model.specs.Theorems.Printing.Tables.{head_of, printed_table}
use Rattle.model.proofs.Theorems.Printing.Tables.{print_read}
use Rattle.model.proofs.Theorems.Rewriting.Solving.{dropped_solves, back_solves, relaxed_inert, normal_active_moves, normal_rewritten}
use Rattle.model.proofs.Theorems.Rewriting.Accepted.{stored_limit, rewrite_read_only}
use Rattle.model.proofs.Theorems.Rewriting.Sizes.{wrote_is}
use Rattle.model.specs.Theorems.Rewriting.Normal.{rewritten_normal}

-- the rewriter takes any moves
all_stored : (ms : List Block) → All (Lively stored) ms
unfolding checks16
all_stored [] = tt
all_stored (b ∷ ms) = (λ c. absurd c, all_stored ms)

-- a written table that the rewriter takes
module _ (L : Limits) (small : SmallLimits L) (t : List ℕ) (bytes : AllBytes t) (k : Table) (e : reading L stored t ≡ accepted k) (head : k.header.form ≡ written) where
  abbrev old : Task
  old = k.task

  -- the rewritten table is a written one that normalise takes
  pub rewritten_read : reading L (only written) (task_bytes written (rewritten old)) ≡ accepted (printed_table written (rewritten old))
  rewritten_read =
      subst (λ (f : Form). reading L (only f) (task_bytes f (rewritten old)) ≡ accepted (printed_table f (rewritten old))) head
      (rewrite_read_only L small t bytes e)

  normalise_fitted : (size : ℕ) → normalised L (task_bytes written (rewritten old)) size ≡ fitted size (writes (rewritten_normal old))
  unfolding normalised normal_of normal_bytes printed_table
  normalise_fitted size =
      ap (λ (v : Verdict). fitted size (normal_of v)) rewritten_read
      ∙ ap (λ (n : Task). fitted size (writes (task_bytes normal n))) (normal_rewritten old)

  -- o are the bytes that the rewriter writes of the table
  module _ (room : ℕ) {o : List ℕ} (writes-o : rewrote L t room ≡ writes o) where
    -- they are the print of the rewritten task
    pub written_is : o ≡ task_bytes written (rewritten old)
    written_is = wrote_is L t room e writes-o ∙ ap (λ (f : Form). task_bytes f (rewritten old)) head

    -- Normalise writes of o the old table's normal form, rewritten.
    pub normalise_rewritten : (size : ℕ) → length (rewritten_normal old) ≤ size → normalised L o size ≡ writes (rewritten_normal old)
    normalise_rewritten size fits =
        ap (λ (l : List ℕ). normalised L l size) written_is ∙ normalise_fitted size ∙ fitted_whole size (rewritten_normal old) fits

  -- where a normal table may be twice as long as a written one
  module _ (double : 2 * L.written_length ≤ L.normal_length) where
    old_is : t ≡ task_bytes written old
    old_is = reading_canonical L stored t e bytes ∙ ap (λ (f : Form). task_bytes f old) head

    normal_short : length (task_bytes normal (normal_task old)) ≤ length_limit L (only normal) (task_bytes normal (normal_task old))
    unfolding length_limit normal_bytes
    normal_short =
        let short : length (task_bytes written old) ≤ L.written_length =
        subst (λ (n : ℕ). length (task_bytes written old) ≤ n) (stored_limit L written old old)
        (subst (λ (l : List ℕ). length l ≤ length_limit L stored l) old_is (reading_limit L stored t e)) in
        omega (arith, normal_length_lem old)

    -- the normal form that an earlier release made of the old table is taken by the rewriter
    normal_stored : reading L stored (normal_bytes old) ≡ accepted (printed_table normal (normal_task old))
    unfolding normal_bytes head_wanted
    normal_stored =
        print_read L stored normal (normal_task old) small
        (normal_ok L old (subst (λ (f : Form). TaskOk L f old) head (reading_ok L stored t e))) (all_stored (normal_task old).moves) refl
        (subst (λ (n : ℕ). length (task_bytes normal (normal_task old)) ≤ n) (sym (stored_limit L normal (normal_task old) (normal_task old))) normal_short)

    rewrite_fitted : (size : ℕ) → rewrote L (normal_bytes old) size ≡ fitted size (writes (rewritten_normal old))
    unfolding rewrote rewrite_of printed_table head_of
    rewrite_fitted size = ap (λ (v : Verdict). fitted size (rewrite_of v)) normal_stored

    -- The rewriter writes the same of a stored normal table that an earlier release made of the old table.
    pub rewrite_normal : (size : ℕ) → length (rewritten_normal old) ≤ size → rewrote L (normal_bytes old) size ≡ writes (rewritten_normal old)
    rewrite_normal size fits = rewrite_fitted size ∙ fitted_whole size (rewritten_normal old) fits

    -- So rewriting and normalising change places: whatever the room, both orders write the same bytes, or both turn back with 13.
    pub either_order : (room : ℕ) {o : List ℕ} → rewrote L t room ≡ writes o → (size : ℕ) → normalised L o size ≡ rewrote L (normal_bytes old) size
    either_order room writes-o size =
        ap (λ (l : List ℕ). normalised L l size) (written_is room writes-o) ∙ normalise_fitted size ∙ sym (rewrite_fitted size)

-- Normalise never makes a 16: no call that takes normal tables refuses the normal form of an accepted written table.
pub never_makes_16 : (t : List ℕ) {w : Table} → reading paper (only written) t ≡ accepted w → {r : Refusal} → reading paper (only normal) (normal_bytes w.task) ≡ refused r → ⊥
never_makes_16 t e no_way = let both_ways = sym (normal_accepted t e) ∙ no_way in let z : ◌≡◌ {A = ℕ} 0 1 = cc in omega arith

-- ---- renumbering
take_map : {A B : Type 0} (f : A → B) (n : ℕ) (xs : List A) → take n (map f xs) ≡ map f (take n xs)
take_map f zero xs = refl
take_map f (suc n) [] = refl
take_map f (suc n) (x ∷ xs) = ap (λ (l : List _). f x ∷ l) (take_map f n xs)

-- a written table and its normal form number their moves alike
pub normal_new_number : (ms : List Block) (b : ℕ) → new_number (map normal_block ms) b ≡ new_number ms b
unfolding new_number
normal_new_number ms b =
    ap (λ (l : List Block). length (active_moves l)) (take_map normal_block b ms)
    ∙ ap (λ (l : List Block). length l) (sym (normal_active_moves (take b ms)))
    ∙ length-map (active_moves (take b ms)) normal_block

normal_old_number : (ms : List Block) (n : ℕ) → old_number (map normal_block ms) n ≡ old_number ms n
unfolding old_number
normal_old_number [] n = refl
normal_old_number (b ∷ ms) zero =
    ap₂ (λ (c : Bool) (o : ℕ). cond c 0 (suc o)) (normal_active b) (normal_old_number ms 0)
normal_old_number (b ∷ ms) (suc n) =
    ap (λ (c : Bool). cond c (suc (old_number (map normal_block ms) n)) (suc (old_number (map normal_block ms) (suc n)))) (normal_active b)
    ∙ ap₂ (λ (x y : ℕ). cond (active b) (suc x) (suc y)) (normal_old_number ms n) (normal_old_number ms (suc n))

module _ (k : Task) where
  -- lists are renumbered for the normal form as for the written table
  pub normal_renumbered : (bs : List ℕ) → renumbered (normal_task k) bs ≡ renumbered k bs
  unfolding renumbered normal_task
  normal_renumbered [] = refl
  normal_renumbered (b ∷ bs) =
      let r = renumbered (normal_task k) bs in
      ap (λ (c : Bool). cond c (new_number (map normal_block k.moves) b ∷ r) r) (ap active (normal_move k b) ∙ normal_active (move_at k b))
      ∙ ap₂ (λ (n : ℕ) (l : List ℕ). cond (active (move_at k b)) (n ∷ l) l) (normal_new_number k.moves b) (normal_renumbered bs)

  -- and numbered back alike
  pub normal_numbered_back : (bs : List ℕ) → numbered_back (normal_task k) bs ≡ numbered_back k bs
  unfolding numbered_back normal_task
  normal_numbered_back [] = refl
  normal_numbered_back (b ∷ bs) = ap₂ (λ (n : ℕ) (l : List ℕ). n ∷ l) (normal_old_number k.moves b) (normal_numbered_back bs)

  -- "A list with those moves dropped and the rest renumbered solves the rewritten table whenever the old list solved the old one.", for
  -- the relaxed tasks of written tables, from any state
  pub relaxed_forth_lem : (bs : List ℕ) (s : State) → Solves relaxed (normal_task k) s bs → Solves relaxed (normal_task (rewritten k)) s (renumbered k bs)
  relaxed_forth_lem bs s h =
      subst₂ (λ (n : Task) (l : List ℕ). Solves relaxed n s l) (sym (normal_rewritten k)) (normal_renumbered bs)
      (dropped_solves relaxed_inert (normal_task k) bs s h)

  -- "Any list that solves the new table, numbered back, solves the old."
  pub relaxed_back_lem : (bs : List ℕ) (s : State) → Solves relaxed (normal_task (rewritten k)) s bs → Solves relaxed (normal_task k) s (numbered_back k bs)
  relaxed_back_lem bs s h =
      subst (λ (l : List ℕ). Solves relaxed (normal_task k) s l) (normal_numbered_back bs)
      (back_solves relaxed_inert (normal_task k) bs s (subst (λ (n : Task). Solves relaxed n s bs) (normal_rewritten k) h))
