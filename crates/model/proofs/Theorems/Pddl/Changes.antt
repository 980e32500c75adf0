-- "Which command each form stands for by the meaning PDDL 2.1 gives it": effects. The changes of a block's text, all read in the state
-- before, lead to the state that the real move gives and to no other. Assumes nothing.
use Rattle.std.specs.Prelude.{ℕ, ◌≡◌, refl, ◌⊎◌, ◌↔◌, Bool, ◌&&◌, ◌||◌, ℤ}
use Rattle.std.proofs.Common.{arith, ap, ap₂, ◌∙◌, subst, inl, inr, eq-eqb, eqb→eq}
use Rattle.std.proofs.Math.Path.{sym}
use Rattle.std.proofs.Math.Logic.{⊎_elim}
use Rattle.std.proofs.Math.Bool.{true, false, not, and-true}
use mathlib.Core.List.{[], ◌∷◌}
use Rattle.std.proofs.Math.Option.{Option, none, some}
use Rattle.std.proofs.Math.Dec.{T, T_not, eqb, eqb_refl}
use Rattle.model.specs.Lists.{In, any}
use Rattle.model.specs.Task.{Condition, Kind, assign, increase, decrease, Effect, Item, need, add, delete, condition, effect, Block, is_add, is_delete, adds, deletes, effect_on, clashes}
use Rattle.model.specs.Move.{State, value, changed, changed_by, real}
use Rattle.model.specs.Pddl.{Expression, Change, gain, lose, alter, sum_of, alter_of, changes_of}
use Rattle.model.specs.PddlMeaning.{value_in, altered, Follows}
use Rattle.model.specs.Theorems.Reading.WellFormed.{Once}
use Rattle.model.proofs.Theorems.Laws.Booleans.{true_t, not-false, T-cases, T-equal, and_right, or_left, or_right, or_cases}
use Rattle.model.proofs.Theorems.Laws.Listed.{any_in, in_any}
use Rattle.model.proofs.Theorems.Pddl.Meaning.{sum_value}

-- ---- what is added and deleted

is_gain : ℕ → Change → Bool
is_gain p (gain q) = eqb q p
is_gain p (lose q) = false
is_gain p (alter k v e) = false

is_lose : ℕ → Change → Bool
is_lose p (gain q) = false
is_lose p (lose q) = eqb q p
is_lose p (alter k v e) = false

gain_is : (p : ℕ) (c : Change) → T (is_gain p c) → gain p ≡ c
unfolding is_gain
gain_is p (gain q) t = ap gain (sym (eqb→eq q p t))
gain_is p (lose q) t = absurd t
gain_is p (alter k v e) t = absurd t

lose_is : (p : ℕ) (c : Change) → T (is_lose p c) → lose p ≡ c
unfolding is_lose
lose_is p (gain q) t = absurd t
lose_is p (lose q) t = ap lose (sym (eqb→eq q p t))
lose_is p (alter k v e) t = absurd t

-- a test of changes that is a test of items, passed by no condition
pub any_changes :
    (f : Change → Bool) (g : Item → Bool)
    → ((p : ℕ) → g (need p) ≡ false)
    → ((c : Condition) → g (condition c) ≡ false)
    → ((p : ℕ) → f (gain p) ≡ g (add p))
    → ((p : ℕ) → f (lose p) ≡ g (delete p))
    → ((e : Effect) → f (alter_of e) ≡ g (effect e))
    → (b : Block)
    → any f (changes_of b) ≡ any g b
unfolding any changes_of
any_changes f g n c x y z [] = refl
any_changes f g n c x y z (need p ∷ b) = rw (n p) (any_changes f g n c x y z b)
any_changes f g n c x y z (add p ∷ b) = ap₂ ◌||◌ (x p) (any_changes f g n c x y z b)
any_changes f g n c x y z (delete p ∷ b) = ap₂ ◌||◌ (y p) (any_changes f g n c x y z b)
any_changes f g n c x y z (condition d ∷ b) = rw (c d) (any_changes f g n c x y z b)
any_changes f g n c x y z (effect e ∷ b) = ap₂ ◌||◌ (z e) (any_changes f g n c x y z b)

-- the text adds and deletes what the block does
module _ (b : Block) where
  change_in :
      (f : Change → Bool) (g : Item → Bool) (c : Change)
      → any f (changes_of b) ≡ any g b
      → ((d : Change) → T (f d) → c ≡ d)
      → T (f c)
      → In c (changes_of b) ↔ T (any g b)
  change_in f g c same only own = (
    λ i. subst T same (any_in f c (changes_of b) i own),
    λ t. in_any f c only (changes_of b) (subst T (sym same) t),
  )

  gain_adds : (p : ℕ) → In (gain p) (changes_of b) ↔ T (adds p b)
  unfolding adds is_add is_gain alter_of
  gain_adds p =
      change_in (is_gain p) (is_add p) (gain p)
      (any_changes (is_gain p) (is_add p) (λ q. refl) (λ c. refl) (λ q. refl) (λ q. refl) (λ e. refl) b) (gain_is p)
      (eqb_refl p)

  lose_deletes : (p : ℕ) → In (lose p) (changes_of b) ↔ T (deletes p b)
  unfolding deletes is_delete is_lose alter_of
  lose_deletes p =
      change_in (is_lose p) (is_delete p) (lose p)
      (any_changes (is_lose p) (is_delete p) (λ q. refl) (λ c. refl) (λ q. refl) (λ q. refl) (λ e. refl) b) (lose_is p)
      (eqb_refl p)

-- ---- the effect on a variable
module _ {k : Kind} {v : ℕ} {x : Expression} where
  pub not_gain : {p : ℕ} → alter k v x ≡ gain p → ⊥
  not_gain e = let z : ◌≡◌ {A = ℕ} 0 1 = cc in omega arith

  pub not_lose : {p : ℕ} → alter k v x ≡ lose p → ⊥
  not_lose e = let z : ◌≡◌ {A = ℕ} 0 1 = cc in omega arith

  alter_name : (e : Effect) → alter k v x ≡ alter_of e → e.var ≡ v
  unfolding alter_of
  alter_name e h = cc

-- the effect on v is a change of the text, or none is on v
effect_on_change :
    (P : Option Effect → Type 0) (v : ℕ) (b : Block)
    → (((k : Kind) (x : Expression) → In (alter k v x) (changes_of b) → ⊥) → P none)
    → ((k : Kind) (x : Expression) → In (alter k v x) (changes_of b) → (e : Effect) → P (some e))
    → P (effect_on v b)
unfolding effect_on changes_of alter_of
effect_on_change P v [] f g = f (λ k x i. i)
effect_on_change P v (need p ∷ b) f g = effect_on_change P v b f g
effect_on_change P v (add p ∷ b) f g =
    effect_on_change P v b (λ n. f (λ k x. ⊎_elim not_gain (n k x))) (λ k x i. g k x (inr i))
effect_on_change P v (delete p ∷ b) f g =
    effect_on_change P v b (λ n. f (λ k x. ⊎_elim not_lose (n k x))) (λ k x i. g k x (inr i))
effect_on_change P v (condition c ∷ b) f g = effect_on_change P v b f g
effect_on_change P v (effect e ∷ b) f g =
    go (eqb e.var v) (eqb→eq e.var v) (λ h. true_t (eq-eqb e.var v h))
    (λ other.
    effect_on_change P v b (λ n. f (λ k x. ⊎_elim (λ h. other (alter_name e h)) (n k x))) (λ k x i. g k x (inr i)))
  where
    sums : Expression
    sums = sum_of e.terms e.base

    go :
        (t : Bool)
        → (T t → e.var ≡ v)
        → (e.var ≡ v → T t)
        → ((e.var ≡ v → ⊥) → P (effect_on v b))
        → P (elim t [ true ↦ some e | false ↦ effect_on v b ])
    go true is on later = g e.kind sums (inl (ap (λ (u : ℕ). alter e.kind u sums) (sym (is tt)))) e
    go false is on later = later on

module _ (k : Kind) (v : ℕ) (x : Expression) where
  -- two effects on one variable clash
  clash_in : (e : Effect) (b : Block) → e.var ≡ v → In (alter k v x) (changes_of b) → T (any (clashes (effect e)) b)
  unfolding any clashes changes_of
  clash_in e [] h i = i
  clash_in e (need p ∷ b) h i = clash_in e b h i
  clash_in e (add p ∷ b) h i = ⊎_elim (λ g. absurd (not_gain g)) (clash_in e b h) i
  clash_in e (delete p ∷ b) h i = ⊎_elim (λ g. absurd (not_lose g)) (clash_in e b h) i
  clash_in e (condition c ∷ b) h i = clash_in e b h i
  clash_in e (effect d ∷ b) h i =
      let first = eqb e.var d.var in
      let others = any (clashes (effect e)) b in
      ⊎_elim (λ g. or_left first others (true_t (eq-eqb e.var d.var (h ∙ sym (alter_name d g)))))
      (λ j. or_right first others (clash_in e b h j)) i

  -- so a change of the text is the effect on its fluent
  change_effect_on :
      (P : Option Effect → Type 0) (b : Block)
      → Once b
      → In (alter k v x) (changes_of b)
      → ((e : Effect) → alter k v x ≡ alter_of e → P (some e))
      → P (effect_on v b)
  unfolding effect_on changes_of
  change_effect_on P [] o i g = absurd i
  change_effect_on P (need p ∷ b) o i g = change_effect_on P b o.1 i g
  change_effect_on P (add p ∷ b) o i g =
      ⊎_elim (λ h. absurd (not_gain h)) (λ j. change_effect_on P b o.1 j g) i
  change_effect_on P (delete p ∷ b) o i g =
      ⊎_elim (λ h. absurd (not_lose h)) (λ j. change_effect_on P b o.1 j g) i
  change_effect_on P (condition c ∷ b) o i g = change_effect_on P b o.1 i g
  change_effect_on P (effect e ∷ b) o i g =
      go (eqb e.var v) (eqb→eq e.var v) (λ h. true_t (eq-eqb e.var v h)) i
      (λ j. change_effect_on P b o.1 j g)
    where
      go :
          (t : Bool)
          → (T t → e.var ≡ v)
          → (e.var ≡ v → T t)
          → (alter k v x ≡ alter_of e) ⊎ In (alter k v x) (changes_of b)
          → (In (alter k v x) (changes_of b) → P (effect_on v b))
          → P (elim t [ true ↦ some e | false ↦ effect_on v b ])
      go true is on (inl h) later = g e h
      go true is on (inr j) later = absurd (T_not (any (clashes (effect e)) b) o.0 (clash_in e b (is tt) j))
      go false is on (inl h) later = absurd (on (alter_name e h))
      go false is on (inr j) later = later j

-- a change of the text gives a fluent the value that its effect gives the variable
altered_changed : (k : Kind) (old z : ℤ) → altered k old z ≡ changed k old z
unfolding altered changed
altered_changed assign old z = refl
altered_changed increase old z = refl
altered_changed decrease old z = refl

effect_value :
    (s : State) {k : Kind} {v : ℕ} {x : Expression} (e : Effect)
    → alter k v x ≡ alter_of e
    → altered k (s.val v) (value_in s x) ≡ changed_by s v (some e)
unfolding alter_of changed_by value
effect_value s {k} {v} {x} e h =
    let kind : k ≡ e.kind = cc in
    let sums : x ≡ sum_of e.terms e.base = cc in
    ap₂ (λ (j : Kind) (y : Expression). altered j (s.val v) (value_in s y)) kind sums
    ∙ ap (altered e.kind (s.val v)) (sum_value s e.terms e.base)
    ∙ altered_changed e.kind (s.val v) (value s e)

-- ---- what the changes lead to
module _ (s : State) (b : Block) where
  -- the state after the real move follows by the changes
  real_follows : Once b → Follows s (changes_of b) (real b s)
  unfolding real changed_by
  real_follows once =
      record {
        gains = λ p i. or_left (adds p b) (s.has p && not (deletes p b)) ((gain_adds b p).0 i);
        loses = λ p i n t.
            or_cases (adds p b) (s.has p && not (deletes p b)) t (λ a. n ((gain_adds b p).1 a))
            (λ r. T_not (deletes p b) (and_right (s.has p) (not (deletes p b)) r) ((lose_deletes b p).0 i));
        keeps = λ p n m.
            rw (not-false (adds p b) (λ a. n ((gain_adds b p).1 a)), not-false (deletes p b) (λ d. m ((lose_deletes b p).1 d)))
            (and-true (s.has p));
        alters = λ k v x i.
            change_effect_on k v x (λ o. changed_by s v o ≡ altered k (s.val v) (value_in s x)) b once i
            (λ e h. sym (effect_value s e h));
        stays = λ v n. effect_on_change (λ o. changed_by s v o ≡ s.val v) v b (λ m. refl) (λ k x i e. absurd (n k x i));
      }

  -- one state at most follows by the changes
  one_follows : {t u : State} → Follows s (changes_of b) t → Follows s (changes_of b) u → t ≡ u
  one_follows {t} {u} f g = λ i. record { has = λ p. same_has p i; val = λ v. same_val v i }
    where
      same_has : (p : ℕ) → t.has p ≡ u.has p
      same_has p =
          T-cases (adds p b)
          (λ added.
          let i = (gain_adds b p).1 added in
          T-equal (t.has p) (u.has p) (λ h. g.gains p i) (λ h. f.gains p i))
          (λ not-added.
          let no_gain : In (gain p) (changes_of b) → ⊥ = λ i. not-added ((gain_adds b p).0 i) in
          T-cases (deletes p b)
          (λ deleted.
          let i = (lose_deletes b p).1 deleted in
          T-equal (t.has p) (u.has p) (λ h. absurd (f.loses p i no_gain h)) (λ h. absurd (g.loses p i no_gain h)))
          (λ not_deleted.
          let no_lose : In (lose p) (changes_of b) → ⊥ = λ i. not_deleted ((lose_deletes b p).0 i) in
          f.keeps p no_gain no_lose ∙ sym (g.keeps p no_gain no_lose)))

      same_val : (v : ℕ) → t.val v ≡ u.val v
      same_val v =
          effect_on_change (λ o. t.val v ≡ u.val v) v b (λ n. f.stays v n ∙ sym (g.stays v n))
          (λ k x i e. f.alters k v x i ∙ sym (g.alters k v x i))

  -- a state follows by the changes of a block's text exactly if it is what the real move gives
  pub follows_real : Once b → (t : State) → Follows s (changes_of b) t ↔ (t ≡ real b s)
  follows_real once t = (
    λ f. one_follows f (real_follows once),
    λ e. subst (Follows s (changes_of b)) (sym e) (real_follows once),
  )
