-- Wants as they stand in arrays: a flag for each proposition, a number for each variable, the least 64-bit number where there is
-- no target. Each step of the wants is a store. Assumes nothing.
use Rattle.std.specs.Prelude.{ℕ, ◌^◌, ◌≤◌, ◌<◌, ◌≡◌, refl, Bool, cond, ◌||◌, List, T, ℤ, pos, negsuc, nat_abs, ◌≤ℤ◌, get_or, set, replicate}
use Rattle.std.proofs.Common.{arith, sym, ◌∙◌, subst, eqb→eq, get_or-set_same, get_or-set_other, eq-eqb, ne_eqb}
use Rattle.std.proofs.Math.Path.{ap}
use Rattle.std.proofs.Math.Bool.{true, false, or-true, or-false}
use Rattle.std.proofs.Math.Dec.{eqb, eqb_refl}
use Rattle.std.specs.Int.Signed.{mag, le_z}
use Rattle.std.proofs.Math.ListN.{length, length-set}
use Rattle.std.proofs.lemmas.List.{length-replicate, get_or-replicate}
use Rattle.integer.specs.Linear.{zlin, nat_abs_split, le_true, le_false, larger, larger_is_right}
use Rattle.model.specs.Plan.{Target, free, least, Wants, no_wants, raise_target, want_prop, want_value}
use Rattle.model.proofs.Theorems.Laws.Booleans.{T-cases}
use Rattle.model.specs.Theorems.Plans.Targets.{EachTarget}
use Rattle.targets.specs.declared.Targets.{Targets}

-- the number that stands for "no target"
abbrev pub lowest : ℤ
lowest = negsuc 9_223_372_036_854_775_807

unfoldable pub code : Target → ℤ
code free = lowest
code (least z) = z

unfoldable pub fresh : Targets
fresh = record { props = replicate 120 false; target = replicate 32 lowest }

-- the size that a target has at most
abbrev pub target_limit : ℕ
target_limit = 10_000_000_000_000_000

abbrev pub SmallTarget : Target → Type 0
SmallTarget = EachTarget (λ (z : ℤ). nat_abs z ≤ target_limit)

-- these propositions and these targets
abbrev pub holding : List Bool → List ℤ → Targets
holding ps ts = record { props = ps; target = ts }

-- the target of v is z or larger
unfoldable pub raised_at : List ℤ → ℕ → ℤ → List ℤ
raised_at ts v z = set ts v (larger (get_or ts v (pos 0)) z)

-- the arrays hold the wants of a table with so many propositions and variables
pub record Encodes (props vars : ℕ) (t : Targets) (w : Wants) : Type 0 where
  pub few_props : props ≤ 120
  pub few_vars : vars ≤ 32
  pub long_props : length t.props ≡ 120
  pub long_target : length t.target ≡ 32
  pub prop : (p : ℕ) → p < props → get_or t.props p false ≡ w.props p
  pub target : (v : ℕ) → v < vars → get_or t.target v (pos 0) ≡ code (w.target v)

pub encodes_none : {props vars : ℕ} → props ≤ 120 → vars ≤ 32 → Encodes props vars fresh no_wants
unfolding fresh no_wants code
encodes_none h k =
    record {
      few_props = h;
      few_vars = k;
      long_props = length-replicate 120 false;
      long_target = length-replicate 32 lowest;
      prop = λ p i. get_or-replicate 120 p false false (omega arith);
      target = λ v i. get_or-replicate 32 v lowest (pos 0) (omega arith);
    }

-- no 64-bit number is below the one that stands for "no target", so that raising is a plain maximum
raise_free : (z : ℤ) → mag z < 2 ^ 63 → lowest ≤ℤ z
raise_free (pos n) h = record { le = tt }
raise_free (negsuc n) h = omega zlin

code_raise : (t : Target) (z : ℤ) → mag z < 2 ^ 63 → larger (code t) z ≡ code (raise_target t z)
unfolding code raise_target
code_raise free z h = larger_is_right (raise_free z h)
code_raise (least y) z h = refl

-- a store at i, read at j
pub stored_at : {A : Type 0} (P : A → Type 0) (l : List A) (i j : ℕ) (a d : A) → i < length l → (j ≡ i → P a) → ((j ≡ i → ⊥) → P (get_or l j d)) → P (get_or (set l i a) j d)
stored_at P l i j a d h here elsewhere =
    T-cases (eqb j i)
    (λ same. let e : j ≡ i = eqb→eq j i same in rw (e, get_or-set_same l i a d h) (here e))
    (λ other.
    let e : j ≡ i → ⊥ = (λ q. other (subst (λ (x : ℕ). T (eqb j x)) q (eqb_refl j))) in
    rw (get_or-set_other l i j a d e) (elsewhere e))

-- r is t with a want more: a proposition, a value of a variable
pub record Added (t : Targets) (p : ℕ) (r : Targets) : Type 0 where
  pub props : r.props ≡ set t.props p true
  pub target : r.target ≡ t.target

pub record Raised (t : Targets) (v : ℕ) (z : ℤ) (r : Targets) : Type 0 where
  pub props : r.props ≡ t.props
  pub target : r.target ≡ raised_at t.target v z

pub raised_at_lem : {ps : List Bool} {ts rs : List ℤ} {v : ℕ} {z : ℤ} → rs ≡ raised_at ts v z → Raised (holding ps ts) v z (holding ps rs)
raised_at_lem e = record { props = refl; target = e }

module _ {props vars : ℕ} {t r : Targets} {w : Wants} (e : Encodes props vars t w) where
  pub encodes_prop : {p : ℕ} → p < props → Added t p r → Encodes props vars r (want_prop w p)
  unfolding want_prop
  encodes_prop {p} h same =
      record {
        few_props = e.few_props;
        few_vars = e.few_vars;
        long_props = ap length same.props ∙ length-set t.props p true ∙ e.long_props;
        long_target = ap length same.target ∙ e.long_target;
        prop =
            λ q i. rw same.props
            (stored_at (λ (b : Bool). b ≡ (w.props q || eqb q p)) t.props p q true false (omega (arith, e.few_props, e.long_props))
            (λ at. rw (eq-eqb q p at, or-true (w.props q)) refl)
            (λ off. rw (ne_eqb q p off, or-false (w.props q)) (e.prop q i)));
        target = λ v i. rw same.target (e.target v i);
      }

  pub encodes_value :
      {v : ℕ} (z : ℤ) → v < vars → mag z < 2 ^ 63
      → Raised t v z r
      → Encodes props vars r (want_value w v z)
  unfolding want_value raised_at
  encodes_value {v} z h fits same =
      record {
        few_props = e.few_props;
        few_vars = e.few_vars;
        long_props = ap length same.props ∙ e.long_props;
        long_target = ap length same.target ∙ length-set t.target v (larger (get_or t.target v (pos 0)) z) ∙ e.long_target;
        prop = λ p i. rw same.props (e.prop p i);
        target =
            λ u i. rw same.target
            (stored_at (λ (x : ℤ). x ≡ code (cond (eqb u v) (raise_target (w.target u) z) (w.target u))) t.target v u
            (larger (get_or t.target v (pos 0)) z) (pos 0) (omega (arith, e.few_vars, e.long_target))
            (λ at. rw (eq-eqb u v at, at, e.target v h) (code_raise (w.target v) z fits))
            (λ off. rw (ne_eqb u v off) (e.target u i)));
      }

-- ---- whether there is a target

-- does the number stand for "no target"
unfoldable pub is_free : ℤ → Bool
is_free z = le_z z lowest

pub free_yes : (t : Target) {z : ℤ} → z ≡ code t → SmallTarget t → is_free z ≡ true → t ≡ free
unfolding is_free code
free_yes free e s h = refl
free_yes (least y) {z} e s h = absurd (omega (zlin, nat_abs_split y, e, le_true z lowest h))

pub free_no : (t : Target) {z : ℤ} → z ≡ code t → is_free z ≡ false → t ≡ least z
unfolding is_free code
free_no free {z} e h = absurd (omega (zlin, e, le_false z lowest h))
free_no (least y) e h = ap least (sym e)
