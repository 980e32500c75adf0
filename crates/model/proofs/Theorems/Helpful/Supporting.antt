-- What makes a move helpful (document 02, request 6): a proposition that it adds, an effect that passes Plan's test; and the bit of a helpful
-- move. Assumes nothing.
use Rattle.std.specs.Prelude.{ℕ, suc, ◌<◌, ◌≡◌, ◌&&◌, [], ◌∷◌, eqb, ℤ, length}
use Rattle.std.proofs.Common.{sym, ap, ◌∙◌, inl, inr, T_not, eqb→eq}
use Rattle.std.proofs.Math.Path.{subst}
use Rattle.std.proofs.Math.Bool.{not}
use Rattle.std.proofs.Math.Option.{Option, some}
use Rattle.std.proofs.Math.Dec.{T, not_T, eqb_refl}
use Rattle.model.specs.Lists.{In, any}
use Rattle.model.specs.Task.{Effect, Item, need, add, delete, condition, effect, Block, Task, is_add, adds, effect_on, clashes}
use Rattle.model.specs.Move.{State, move_at}
use Rattle.model.specs.Layer.{Layer, reaches, usable, layer_at}
use Rattle.model.specs.Plan.{Target, least, Wants, achieves, wants_at, reaches_new, supports, helpful, bit, helpful_moves}
use Rattle.model.specs.Theorems.Reading.WellFormed.{Once}
use Rattle.model.proofs.Theorems.Laws.Booleans.{true_t, T_true, and_both, or_left, or_right, clash}
use Rattle.model.proofs.Theorems.Laws.Listed.{any_in}
use Rattle.model.proofs.Theorems.Laws.Sets.{set_bit}
use Rattle.model.proofs.Theorems.NormalForm.Blocks.{any_implies}
use Rattle.model.proofs.Theorems.Plans.Descending.{elim_cases}

-- "a move has one effect at most on a variable": an effect that stands in a block is the block's effect on its variable
pub effect_found : (e : Effect) (b : Block) → Once b → In (effect e) b → effect_on e.var b ≡ some e
unfolding effect_on clashes
effect_found e [] once i = absurd i
effect_found e (need p ∷ b) once (inl x) = clash cc
effect_found e (need p ∷ b) once (inr i) = effect_found e b once.1 i
effect_found e (add p ∷ b) once (inl x) = clash cc
effect_found e (add p ∷ b) once (inr i) = effect_found e b once.1 i
effect_found e (delete p ∷ b) once (inl x) = clash cc
effect_found e (delete p ∷ b) once (inr i) = effect_found e b once.1 i
effect_found e (condition c ∷ b) once (inl x) = clash cc
effect_found e (condition c ∷ b) once (inr i) = effect_found e b once.1 i
effect_found e (effect d ∷ b) once (inl x) =
    let same : e ≡ d = cc in
    elim_cases (λ (o : Option Effect). o ≡ some e) (eqb d.var e.var) (some d) (effect_on e.var b)
    (λ t. ap some (sym same)) (λ other. absurd (other (subst (λ (v : ℕ). T (eqb d.var v)) (ap (λ (f : Effect). f.var) (sym same)) (eqb_refl d.var))))
effect_found e (effect d ∷ b) once (inr i) =
    elim_cases (λ (o : Option Effect). o ≡ some e) (eqb d.var e.var) (some d) (effect_on e.var b)
    (λ t. absurd (T_not (any (clashes (effect d)) b) once.0 (any_in (clashes (effect d)) (effect e) b i t))) (λ other. effect_found e b once.1 i)

module _ (l : Layer) (w : Wants) where
  -- a usable move that adds a wanted proposition which the layer lacks is helpful
  pub adder_helpful : (p : ℕ) (b : Block) → T (w.props p && not (l.has p)) → T (usable l b) → T (adds p b) → T (helpful l w b)
  unfolding helpful adds is_add supports
  adder_helpful p b lacking enabled new =
      and_both (usable l b) (any (supports l w) b) enabled (any_implies (is_add p) (supports l w) item b new)
    where
      item : (i : Item) → T (is_add p i) → T (supports l w i)
      item (need q) t = t
      item (add q) t = subst (λ (r : ℕ). T (w.props r && not (l.has r))) (sym (eqb→eq q p t)) lacking
      item (delete q) t = t
      item (condition c) t = t
      item (effect e) t = absurd t

  -- an effect that passes Plan's test for a target which the layer does not reach
  pub effect_supports :
      (e : Effect) (z : ℤ) → w.target e.var ≡ least z → (T (reaches (l.val e.var) z) → ⊥) → T (achieves l z (some e)) → T (supports l w (effect e))
  unfolding supports reaches_new
  effect_supports e z target low t =
      subst (λ (x : Target). T (reaches_new l x e)) (sym target)
      (and_both (not (reaches (l.val e.var) z)) (achieves l z (some e)) (not_T (reaches (l.val e.var) z) low) t)

  -- a usable move with such an effect is helpful
  pub achiever_helpful :
      (v : ℕ) (z : ℤ) (b : Block) → w.target v ≡ least z → (T (reaches (l.val v) z) → ⊥)
      → T (usable l b)
      → T (achieves l z (effect_on v b))
      → T (helpful l w b)
  unfolding helpful effect_on any achieves
  achiever_helpful v z b target low enabled achieved = and_both (usable l b) (any (supports l w) b) enabled (some_item b achieved)
    where
      item : (e : Effect) → e.var ≡ v → T (achieves l z (some e)) → T (supports l w (effect e))
      item e at-v t =
          effect_supports e z (subst (λ (u : ℕ). w.target u ≡ least z) (sym at-v) target)
          (subst (λ (u : ℕ). T (reaches (l.val u) z) → ⊥) (sym at-v) low) t

      some_item : (c : Block) → T (achieves l z (effect_on v c)) → T (any (supports l w) c)
      some_item [] t = t
      some_item (need p ∷ c) t = or_right (supports l w (need p)) (any (supports l w) c) (some_item c t)
      some_item (add p ∷ c) t = or_right (supports l w (add p)) (any (supports l w) c) (some_item c t)
      some_item (delete p ∷ c) t = or_right (supports l w (delete p)) (any (supports l w) c) (some_item c t)
      some_item (condition d ∷ c) t = or_right (supports l w (condition d)) (any (supports l w) c) (some_item c t)
      some_item (effect e ∷ c) t =
          elim_cases (λ (o : Option Effect). T (achieves l z o) → T (any (supports l w) (effect e ∷ c))) (eqb e.var v) (some e) (effect_on v c)
          (λ same u. or_left (supports l w (effect e)) (any (supports l w) c) (item e (eqb→eq e.var v same) u))
          (λ other u. or_right (supports l w (effect e)) (any (supports l w) c) (some_item c u)) t

-- a helpful move of the table has its bit
pub in_set :
    (k : Task) (s : State) (m b : ℕ) → b < length k.moves → T (helpful (layer_at k s 0) (wants_at k s (suc m) 1) (move_at k b))
    → T (bit (helpful_moves k s (suc m)) b)
unfolding helpful_moves move_at
in_set k s m b lt h =
    true_t (set_bit (helpful (layer_at k s 0) (wants_at k s (suc m) 1)) k.moves b lt ∙ T_true (helpful (layer_at k s 0) (wants_at k s (suc m) 1) (move_at k b)) h)
