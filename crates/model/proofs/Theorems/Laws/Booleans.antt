-- Boolean tests as facts: both, either, and a test's two outcomes. Each law takes its tests explicitly, since a fact `T b`
-- computes and does not show b. Assumes nothing.
use Rattle.std.specs.Prelude.{ℕ, ◌≡◌, refl, Bool, true, false, ◌&&◌, ◌||◌, cond, T}
use Rattle.std.proofs.Common.{arith, sym, subst}
use Rattle.std.specs.Bool.{beq}

pub T_true : (b : Bool) → T b → b ≡ true
T_true true t = refl
T_true false t = absurd t

pub true_t : {b : Bool} → b ≡ true → T b
true_t e = subst T (sym e) tt

pub not-false : (b : Bool) → (T b → ⊥) → b ≡ false
not-false true f = absurd (f tt)
not-false false f = refl

pub false_not : {b : Bool} → b ≡ false → T b → ⊥
false_not e t = subst T e t

-- two values of different kinds are said to be equal: `clash cc`
pub clash : {X : Type 0} → ◌≡◌ {A = ℕ} 0 1 → X
clash e = absurd (omega arith)

-- a test passes or fails
pub T-cases : {X : Type 0} (b : Bool) → (T b → X) → ((T b → ⊥) → X) → X
T-cases true f g = f tt
T-cases false f g = g (λ t. t)

-- a test that cannot fail passes
pub T-stable : (b : Bool) → ((T b → ⊥) → ⊥) → T b
T-stable true f = tt
T-stable false f = f (λ t. t)

pub and_left : (a b : Bool) → T (a && b) → T a
and_left true b t = tt
and_left false b t = absurd t

pub and_right : (a b : Bool) → T (a && b) → T b
and_right true b t = t
and_right false b t = absurd t

pub and_both : (a b : Bool) → T a → T b → T (a && b)
and_both true b s t = t
and_both false b s t = absurd s

pub or_left : (a b : Bool) → T a → T (a || b)
or_left true b t = tt
or_left false b t = absurd t

pub or_right : (a b : Bool) → T b → T (a || b)
or_right true b t = tt
or_right false b t = t

pub or_cases : {X : Type 0} (a b : Bool) → T (a || b) → (T a → X) → (T b → X) → X
or_cases true b t f g = f tt
or_cases false b t f g = g t

-- two tests that follow from one another are equal
pub T-equal : (a b : Bool) → (T a → T b) → (T b → T a) → a ≡ b
T-equal true true f g = refl
T-equal true false f g = absurd (f tt)
T-equal false true f g = absurd (g tt)
T-equal false false f g = refl

-- what holds of x where the test passes, and of y where it fails, holds of the choice between them
pub cond_cases {ℓ} :
    {A : Type ℓ} (P : A → Type 0) (b : Bool) (x y : A)
    → (T b → P x)
    → ((T b → ⊥) → P y)
    → P (cond b x y)
cond_cases P true x y f g = f tt
cond_cases P false x y f g = g (λ t. t)

pub beq_equal : (a b : Bool) → T (beq a b) → a ≡ b
beq_equal true true t = refl
beq_equal true false t = absurd t
beq_equal false true t = absurd t
beq_equal false false t = refl

pub equal_beq : (a b : Bool) → a ≡ b → T (beq a b)
equal_beq true b e = subst (λ (c : Bool). T (beq true c)) e tt
equal_beq false b e = subst (λ (c : Bool). T (beq false c)) e tt
