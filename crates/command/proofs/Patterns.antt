-- An arm with several patterns: what holds of each of them holds of the value. Assumes nothing.
use Rattle.std.specs.Prelude.{◌≡◌}
use Rattle.std.proofs.Common.{sym, subst}
use mathlib.Core.Logic.{◌⊎◌, inl, inr}

module _ {A : Type 0} (P : A → Type 0) {v x y : A} where
  pub one_of_two : P x → P y → (v ≡ x) ⊎ (v ≡ y) → P v
  one_of_two a b (inl e) = subst P (sym e) a
  one_of_two a b (inr e) = subst P (sym e) b

  pub one_of_three : {z : A} → P x → P y → P z → (v ≡ x) ⊎ ((v ≡ y) ⊎ (v ≡ z)) → P v
  one_of_three a b d (inl e) = subst P (sym e) a
  one_of_three a b d (inr (inl e)) = subst P (sym e) b
  one_of_three a b d (inr (inr e)) = subst P (sym e) d

  pub one_of_four : {z u : A} → P x → P y → P z → P u → (v ≡ x) ⊎ ((v ≡ y) ⊎ ((v ≡ z) ⊎ (v ≡ u))) → P v
  one_of_four a b d f (inl e) = subst P (sym e) a
  one_of_four a b d f (inr (inl e)) = subst P (sym e) b
  one_of_four a b d f (inr (inr (inl e))) = subst P (sym e) d
  one_of_four a b d f (inr (inr (inr e))) = subst P (sym e) f
