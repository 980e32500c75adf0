-- Dropping the moves that do nothing: a list that solved the old table, with those moves dropped and the rest renumbered, solves
-- the new one; a list that solves the new one, numbered back, solves the old. For real and for relaxed moves. Assumes nothing.
use Rattle.std.specs.Prelude.{ℕ, zero, suc, ◌*◌, ◌<◌, ◌≡◌, Bool, cond, ◌&&◌, ◌||◌, ℤ, length, get_or, take}
use Rattle.std.proofs.Common.{arith, sym, ap, ◌∙◌}
use Rattle.std.proofs.Math.Path.{refl, ap₂, subst}
use Rattle.std.proofs.Math.Bool.{true, false, not, and-true, or-false}
use mathlib.Core.List.{List, [], ◌∷◌, map}
use Rattle.std.proofs.Math.Option.{Option, none}
use Rattle.std.proofs.Math.Dec.{T}
use Rattle.integer.specs.Linear.{larger, larger_cases}
use Rattle.model.specs.Lists.{any}
use Rattle.model.specs.Task.{Item, need, add, delete, condition, Condition, effect, Block, Task, is_add, is_delete, adds, deletes, effect_on, changes, active}
use Rattle.model.specs.Move.{State, applicable, changed_by, real, relaxed, move_at, Solves}
use Rattle.model.specs.NormalForm.{normal_block, normal_task}
use Rattle.model.specs.Rewrite.{active_moves, rewritten, new_number, old_number, renumbered, numbered_back}
use Rattle.model.proofs.Theorems.NormalForm.Active.{normal_active}
use Rattle.model.proofs.Theorems.Laws.Booleans.{T_true, true_t}
use Rattle.model.specs.Theorems.Rewriting.Solving.{Inert, Old}

-- ---- a move that does nothing

-- a test that no 50 and no 43 passes finds nothing in it
pub idle_any : (f : Item → Bool) → ((p : ℕ) → f (need p) ≡ false) → ((c : Condition) → f (condition c) ≡ false) → (b : Block) → active b ≡ false → any f b ≡ false
unfolding active any changes
idle_any f n c [] h = refl
idle_any f n c (need q ∷ b) h = ap (λ (x : Bool). x || any f b) (n q) ∙ idle_any f n c b h
idle_any f n c (add q ∷ b) h = absurd (subst T h tt)
idle_any f n c (delete q ∷ b) h = absurd (subst T h tt)
idle_any f n c (condition d ∷ b) h = ap (λ (x : Bool). x || any f b) (c d) ∙ idle_any f n c b h
idle_any f n c (effect e ∷ b) h = absurd (subst T h tt)

pub idle_adds : (p : ℕ) (b : Block) → active b ≡ false → adds p b ≡ false
unfolding adds is_add
idle_adds p = idle_any (is_add p) (λ q. refl) (λ c. refl)

idle_deletes : (p : ℕ) (b : Block) → active b ≡ false → deletes p b ≡ false
unfolding deletes is_delete
idle_deletes p = idle_any (is_delete p) (λ q. refl) (λ c. refl)

pub idle_effects : (v : ℕ) (b : Block) → active b ≡ false → effect_on v b ≡ none
unfolding active any changes effect_on
idle_effects v [] h = refl
idle_effects v (need q ∷ b) h = idle_effects v b h
idle_effects v (add q ∷ b) h = absurd (subst T h tt)
idle_effects v (delete q ∷ b) h = absurd (subst T h tt)
idle_effects v (condition c ∷ b) h = idle_effects v b h
idle_effects v (effect e ∷ b) h = absurd (subst T h tt)

same_state : (s t : State) → ((p : ℕ) → s.has p ≡ t.has p) → ((v : ℕ) → s.val v ≡ t.val v) → s ≡ t
same_state s t h k = λ i. record { has = λ p. h p i; val = λ v. k v i }

pub real_inert : Inert real
real_inert =
    record {
      same = λ b s idle. same_state (real b s) s
          (λ p. unfold real in (ap₂ (λ (x y : Bool). x || (s.has p && not y)) (idle_adds p b idle) (idle_deletes p b idle)) ∙ and-true (s.has p))
          (λ v. unfold real changed_by in (ap (changed_by s v) (idle_effects v b idle)));
    }

pub relaxed_inert : Inert relaxed
relaxed_inert =
    record {
      same = λ b s idle. same_state (relaxed b s) s
          (λ p. unfold relaxed in (ap (λ (x : Bool). s.has p || x) (idle_adds p b idle)) ∙ or-false (s.has p))
          (λ v. unfold relaxed changed_by in (ap (λ (o : Option _). larger (s.val v) (changed_by s v o)) (idle_effects v b idle)) ∙ once (s.val v));
    }
  where
    once : (z : ℤ) → larger z z ≡ z
    once z = larger_cases z z (λ (m : ℤ). m ≡ z) (λ h. refl) (λ h. refl)

-- ---- numbers
-- a kept move under its new number
pub new_number_lem :
    (ms : List Block) (b : ℕ)
    → b < length ms
    → T (active (get_or ms b []))
    → (new_number ms b < length (active_moves ms)) × (get_or (active_moves ms) (new_number ms b) [] ≡ get_or ms b [])
unfolding new_number active_moves
new_number_lem [] b h a = absurd (omega arith)
new_number_lem (m ∷ ms) zero h a = go (active m) a
  where
    go : (c : Bool) → T c → (0 < length (cond c (m ∷ active_moves ms) (active_moves ms))) × (get_or (cond c (m ∷ active_moves ms) (active_moves ms)) 0 [] ≡ m)
    go true t = (omega arith, refl)
    go false t = absurd t
new_number_lem (m ∷ ms) (suc b) h a = go (active m) (new_number_lem ms b (omega arith) a)
  where
    go :
        (c : Bool)
        → (length (active_moves (take b ms)) < length (active_moves ms)) × (get_or (active_moves ms) (length (active_moves (take b ms))) [] ≡ get_or ms b [])
        → (length (cond c (m ∷ active_moves (take b ms)) (active_moves (take b ms))) < length (cond c (m ∷ active_moves ms) (active_moves ms)))
        × (get_or (cond c (m ∷ active_moves ms) (active_moves ms)) (length (cond c (m ∷ active_moves (take b ms)) (active_moves (take b ms)))) [] ≡ get_or ms b [])
    go true r = (omega (arith, r.0), r.1)
    go false r = r

pub old_number_lem : (ms : List Block) (n : ℕ) → n < length (active_moves ms) → Old ms n (old_number ms n)
unfolding active_moves old_number new_number
old_number_lem [] n h = absurd (omega arith)
old_number_lem (m ∷ ms) zero h = go (active m) refl h (old_number_lem ms 0)
  where
    go :
        (c : Bool) → active m ≡ c
        → 0 < length (cond c (m ∷ active_moves ms) (active_moves ms))
        → (0 < length (active_moves ms) → Old ms 0 (old_number ms 0))
        → Old (m ∷ ms) 0 (cond c 0 (suc (old_number ms 0)))
    go true e l later = record { within = omega arith; same = rw (e, active_moves) refl; does = true_t e; again = refl }
    go false e l later =
        let r = later l in
        record { within = omega (arith, r.within); same = rw (e, active_moves) r.same; does = r.does; again = rw (e, active_moves) r.again }
old_number_lem (m ∷ ms) (suc n) h = go (active m) refl h (old_number_lem ms n) (old_number_lem ms (suc n))
  where
    go :
        (c : Bool) → active m ≡ c
        → suc n < length (cond c (m ∷ active_moves ms) (active_moves ms))
        → (n < length (active_moves ms) → Old ms n (old_number ms n))
        → (suc n < length (active_moves ms) → Old ms (suc n) (old_number ms (suc n)))
        → Old (m ∷ ms) (suc n) (cond c (suc (old_number ms n)) (suc (old_number ms (suc n))))
    go true e l before later =
        let r = before (omega arith) in
        record { within = omega (arith, r.within); same = rw (e, active_moves) r.same; does = r.does; again = rw (e, active_moves) (ap suc r.again) }
    go false e l before later =
        let r = later l in
        record { within = omega (arith, r.within); same = rw (e, active_moves) r.same; does = r.does; again = rw (e, active_moves) r.again }

-- ---- lists
module _ {run : Block → State → State} (inert : Inert run) (k : Task) where
  -- "A list with those moves dropped and the rest renumbered solves the rewritten table whenever the old list solved the old one."
  pub dropped_solves : (bs : List ℕ) (s : State) → Solves run k s bs → Solves run (rewritten k) s (renumbered k bs)
  unfolding renumbered rewritten
  dropped_solves [] s h = h
  dropped_solves (b ∷ bs) s h =
      go (active (move_at k b)) refl (dropped_solves bs (run (move_at k b) s) h.2)
    where
      go :
          (c : Bool) → active (move_at k b) ≡ c
          → Solves run (rewritten k) (run (move_at k b) s) (renumbered k bs)
          → Solves run (rewritten k) s (cond c (new_number k.moves b ∷ renumbered k bs) (renumbered k bs))
      go true e later =
          let r = new_number_lem k.moves b h.0 (unfold move_at in (true_t e)) in
          let same : move_at (rewritten k) (new_number k.moves b) ≡ move_at k b = unfold move_at in r.1 in
          (r.0, subst (λ (m : Block). T (applicable s m)) (sym same) h.1, subst (λ (m : Block). Solves run (rewritten k) (run m s) (renumbered k bs)) (sym same) later)
      go false e later = subst (λ (t : State). Solves run (rewritten k) t (renumbered k bs)) (inert.same (move_at k b) s e) later

  -- "Any list that solves the new table, numbered back, solves the old."
  pub back_solves : (bs : List ℕ) (s : State) → Solves run (rewritten k) s bs → Solves run k s (numbered_back k bs)
  unfolding numbered_back rewritten
  back_solves [] s h = h
  back_solves (n ∷ bs) s h =
      let r = old_number_lem k.moves n h.0 in
      let same : move_at k (old_number k.moves n) ≡ move_at (rewritten k) n = unfold move_at in r.same in (
        r.within,
        subst (λ (m : Block). T (applicable s m)) (sym same) h.1,
        subst (λ (m : Block). Solves run k (run m s) (numbered_back k bs)) (sym same) (back_solves bs (run (move_at (rewritten k) n) s) h.2),
      )

-- numbering back is the inverse of renumbering
pub back_again : (run : Block → State → State) (k : Task) (bs : List ℕ) (s : State) → Solves run (rewritten k) s bs → renumbered k (numbered_back k bs) ≡ bs
unfolding renumbered numbered_back rewritten
back_again run k [] s h = refl
back_again run k (n ∷ bs) s h =
    let r = old_number_lem k.moves n h.0 in
    ap (λ (c : Bool). cond c (new_number k.moves (old_number k.moves n) ∷ renumbered k (numbered_back k bs)) (renumbered k (numbered_back k bs))) (T_true (active (move_at k (old_number k.moves n))) (unfold move_at in r.does))
    ∙ ap₂ (λ (x : ℕ) (l : List ℕ). x ∷ l) r.again (back_again run k bs (run (move_at (rewritten k) n) s) h.2)

-- ---- the normal form
pub normal_active_moves : (ms : List Block) → map normal_block (active_moves ms) ≡ active_moves (map normal_block ms)
unfolding active_moves
normal_active_moves [] = refl
normal_active_moves (b ∷ ms) = go (active b) (normal_active b) (normal_active_moves ms)
  where
    go : (c : Bool) → active (normal_block b) ≡ c → map normal_block (active_moves ms) ≡ active_moves (map normal_block ms) → map normal_block (cond c (b ∷ active_moves ms) (active_moves ms)) ≡ cond (active (normal_block b)) (normal_block b ∷ active_moves (map normal_block ms)) (active_moves (map normal_block ms))
    go true e later = rw e (ap (λ (r : List Block). normal_block b ∷ r) later)
    go false e later = rw e later

-- The normal form of the rewritten table is the rewritten normal form, so that a list solves the relaxed task of a written table
-- and that of its rewritten one alike.
pub normal_rewritten : (k : Task) → normal_task (rewritten k) ≡ rewritten (normal_task k)
unfolding normal_task rewritten
normal_rewritten k = ap (λ (ms : List Block). record { props = k.props; vars = 2 * k.vars; moves = ms; goal = normal_block k.goal }) (normal_active_moves k.moves)
