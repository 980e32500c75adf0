-- An effect of a block and its copies in the normal form change a variable and its signed variables alike.
-- Assumes nothing.
use Rattle.std.specs.Prelude.{ℕ, ◌+◌, ◌*◌, ◌/◌, ◌%◌, ◌≡◌, Bool, true, false, cond, ◌&&◌, eqb, ℤ, neg_ℤ, ◌+ℤ◌}
use Rattle.std.proofs.Common.{arith, sym, ap₂, ◌∙◌}
use Rattle.std.proofs.Math.Path.{refl, ap}
use mathlib.Core.List.{List, [], ◌∷◌, ◌++◌}
use Rattle.std.proofs.Math.Option.{Option, some}
use Rattle.integer.specs.Linear.{neg_sum}
use Rattle.model.specs.Task.{Term, Comparison, at_least, above, at_most, below, equal, Kind, assign, increase, decrease, Effect, need, add, delete, condition, effect, Block, effect_on}
use Rattle.model.specs.Move.{State, sum, value, changed, changed_by}
use Rattle.model.specs.NormalForm.{negated, signed_sum, least, normal_condition, mirrored, normal_effect, normal_item, normal_block, normal_state}
use Rattle.model.proofs.Theorems.NormalForm.SignedSums.{signed_sum_lem, negated_sum}
use Rattle.model.proofs.Theorems.NormalForm.Blocks.{signed_variable, remainder_cases}

-- z for the even signed variable and −z for the odd one
abbrev pub signed : Bool → ℤ → ℤ
signed even z = cond even z (neg_ℤ z)

signed_plus : (even : Bool) (x y : ℤ) → signed even x +ℤ signed even y ≡ signed even (x +ℤ y)
signed_plus true x y = refl
signed_plus false x y = sym (neg_sum x y)

-- the effect on a signed variable that the normal form writes for an effect on v
abbrev copy : Bool → Kind → ℕ → List Term → ℤ → Effect
copy even k v ts c =
    record {
      kind = k;
      var = cond even (2 * v) (2 * v + 1);
      terms = signed_sum (cond even ts (negated ts));
      base = signed even c;
    }

-- an effect, or what comes after it
abbrev pick : Bool → Effect → Option Effect → Option Effect
pick on-it e later = elim on-it [ true ↦ some e | false ↦ later ]

-- "Each effect on v_i is written on 2i, then mirrored on 2i+1."
mirrored_on :
    (j : ℕ) (k : Kind) (v : ℕ) (ts : List Term) (c : ℤ) (b : Block)
    → effect_on j (mirrored k v ts c ++ b) ≡ pick (eqb v (j / 2)) (copy (eqb (j % 2) 0) k v ts c) (effect_on j b)
unfolding effect_on mirrored
mirrored_on j k v ts c b =
    ap₂ first on_even on_odd
    ∙ remainder_cases (λ even odd. first (on_v && even) (on_v && odd) ≡ pick on_v (copy even k v ts c) (effect_on j b))
    (by_even on_v) (by_odd on_v) (j % 2) (omega arith)
  where
    on_v : Bool
    on_v = eqb v (j / 2)

    on_even : eqb (2 * v) j ≡ (on_v && eqb (j % 2) 0)
    on_even = signed_variable v 0 (2 * v) j (omega arith) (omega arith)

    on_odd : eqb (2 * v + 1) j ≡ (on_v && eqb (j % 2) 1)
    on_odd = signed_variable v 1 (2 * v + 1) j (omega arith) (omega arith)

    first : Bool → Bool → Option Effect
    first x y = pick x (copy true k v ts c) (pick y (copy false k v ts c) (effect_on j b))

    by_even : (x : Bool) → first (x && true) (x && false) ≡ pick x (copy true k v ts c) (effect_on j b)
    by_even true = refl
    by_even false = refl

    by_odd : (x : Bool) → first (x && false) (x && true) ≡ pick x (copy false k v ts c) (effect_on j b)
    by_odd true = refl
    by_odd false = refl

-- the value of −S with −c
negated_value :
    (s : State) (ts : List Term) (c : ℤ)
    → sum s.val (negated ts) +ℤ neg_ℤ c ≡ neg_ℤ (sum s.val ts +ℤ c)
negated_value s ts c =
    ap (λ (z : ℤ). z +ℤ neg_ℤ c) (negated_sum s.val ts) ∙ sym (neg_sum (sum s.val ts) c)

-- the value of an effect's copy, for := and added to the old value for +=
copy_value :
    (s : State) (even : Bool) (k : Kind) (v : ℕ) (ts : List Term) (c : ℤ)
    → value (normal_state s) (copy even k v ts c) ≡ signed even (sum s.val ts +ℤ c)
unfolding value
copy_value s true k v ts c = ap (λ (z : ℤ). z +ℤ c) (signed_sum_lem s ts)
copy_value s false k v ts c = ap (λ (z : ℤ). z +ℤ neg_ℤ c) (signed_sum_lem s (negated ts)) ∙ negated_value s ts c

copy_raise :
    (s : State) (even : Bool) (k : Kind) (v : ℕ) (old : ℤ) (ts : List Term) (c : ℤ)
    → signed even old +ℤ value (normal_state s) (copy even k v ts c) ≡ signed even (old +ℤ (sum s.val ts +ℤ c))
copy_raise s even k v old ts c =
    ap (λ (z : ℤ). signed even old +ℤ z) (copy_value s even k v ts c) ∙ signed_plus even old (sum s.val ts +ℤ c)

module _ (s : State) (j : ℕ) where
  abbrev pub even : Bool
  even = eqb (j % 2) 0

  -- the effect n changes the signed variable j as o changes its variable
  abbrev pub Mirrors : Option Effect → Option Effect → Type 0
  Mirrors n o = changed_by (normal_state s) j n ≡ signed even (changed_by s (j / 2) o)

  mirrored_change :
      (k : Kind) (v : ℕ) (ts : List Term) (c : ℤ) (b : Block) (e : Effect) (o : Option Effect)
      → Mirrors (some (copy even k v ts c)) (some e)
      → Mirrors (effect_on j b) o
      → Mirrors (effect_on j (mirrored k v ts c ++ b)) (pick (eqb v (j / 2)) e o)
  mirrored_change k v ts c b e o here there =
      ap (changed_by (normal_state s) j) (mirrored_on j k v ts c b) ∙ either (eqb v (j / 2))
    where
      either : (on_v : Bool) → Mirrors (pick on_v (copy even k v ts c) (effect_on j b)) (pick on_v e o)
      either true = here
      either false = there

  effect_change :
      (k : Kind) (v : ℕ) (ts : List Term) (c : ℤ) (n b : Block)
      → Mirrors (effect_on j n) (effect_on (j / 2) b)
      → let e : Effect = record { kind = k; var = v; terms = ts; base = c } in
      Mirrors (effect_on j (normal_effect k v ts c ++ n)) (effect_on (j / 2) (effect e ∷ b))
  unfolding normal_effect effect_on changed_by changed value normal_state
  effect_change assign v ts c n b there =
      let e : Effect = record { kind = assign; var = v; terms = ts; base = c } in
      mirrored_change assign v ts c n e (effect_on (j / 2) b) (copy_value s even assign v ts c) there
  effect_change increase v ts c n b there =
      let e : Effect = record { kind = increase; var = v; terms = ts; base = c } in
      mirrored_change increase v ts c n e (effect_on (j / 2) b) (copy_raise s even increase v (s.val (j / 2)) ts c) there
  effect_change decrease v ts c n b there =
      let e : Effect = record { kind = decrease; var = v; terms = ts; base = c } in
      mirrored_change increase v (negated ts) (neg_ℤ c) n e (effect_on (j / 2) b)
      (copy_raise s even increase v (s.val (j / 2)) (negated ts) (neg_ℤ c)
      ∙ ap (λ (z : ℤ). signed even (s.val (j / 2) +ℤ z)) (negated_value s ts c))
      there

  condition_effect :
      (o : Comparison) (ts : List Term) (c : ℤ) (b : Block)
      → effect_on j (normal_condition o ts c ++ b) ≡ effect_on j b
  unfolding effect_on normal_condition least
  condition_effect at_least ts c b = refl
  condition_effect above ts c b = refl
  condition_effect at_most ts c b = refl
  condition_effect below ts c b = refl
  condition_effect equal ts c b = refl

  -- What a block makes of a variable, its normal form makes of 2i, and the negative of it of 2i+1.
  pub normal_change : (b : Block) → Mirrors (effect_on j (normal_block b)) (effect_on (j / 2) b)
  unfolding effect_on changed_by normal_block normal_item normal_state
  normal_change [] = refl
  normal_change (need p ∷ b) = normal_change b
  normal_change (add p ∷ b) = normal_change b
  normal_change (delete p ∷ b) = normal_change b
  normal_change (condition c ∷ b) =
      ap (changed_by (normal_state s) j) (condition_effect c.comparison c.terms c.bound (normal_block b))
      ∙ normal_change b
  normal_change (effect e ∷ b) = effect_change e.kind e.var e.terms e.base (normal_block b) b (normal_change b)
