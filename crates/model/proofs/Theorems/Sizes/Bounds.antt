-- Sizes of numbers: places between two bounds, and the one law for a sum of weighted values. Assumes nothing.
use Rattle.std.specs.Prelude.{ℕ, zero, suc, ◌+◌, ◌*◌, ◌≤◌, List, [], ◌∷◌, ℤ, pos, negsuc, neg_ℤ, nat_abs, ◌+ℤ◌, ◌-ℤ◌, ◌*ℤ◌, length, take, drop, ◌≤ℤ◌}
use Rattle.std.proofs.Common.{mul-le-mul, mul-le-mul_left, mul-le-mul_right, arith, length-take, length-drop}
use Rattle.integer.specs.Linear.{zlin, up, dn, le_in, neg_up, neg_dn, diff, scaled, nat_abs_split, abs_mul, size_above, size_below}
use Rattle.integer.specs.Linear as Linear
use Rattle.model.specs.Limits.{paper}
use Rattle.model.specs.Task.{Form, Term}
use Rattle.model.specs.Move.{sum}
use Rattle.model.specs.Theorems.Reading.WellFormed.{All, TermOk, SumOk}
use Rattle.model.proofs.Theorems.Laws.Searching.{All-map}
use Rattle.model.proofs.Theorems.Printing.Operands as operands
use Rattle.model.specs.Theorems.Sizes.Bounds.{Between, FewTerms}

-- bounds further apart
pub between_wider : {a b c d : ℕ} {z : ℤ} → a ≤ c → b ≤ d → Between a b z → Between c d z
between_wider {a} {b} {c} {d} {z} h k i =
    record {
      from = omega (zlin, i.from, neg_up (pos a), neg_dn (pos a), neg_up (pos c), neg_dn (pos c));
      to = omega (zlin, i.to);
    }

-- a size that both bounds keep to, and bounds from a size
pub between_size : {a b : ℕ} {z : ℤ} (n : ℕ) → a ≤ n → b ≤ n → Between a b z → nat_abs z ≤ n
between_size {a} {b} {z} n h k i = omega (zlin, i.from, i.to, nat_abs_split z, neg_up (pos a), neg_dn (pos a))

pub size_between : (z : ℤ) {n : ℕ} → nat_abs z ≤ n → Between n n z
size_between z {n} h = record { from = size_below z n h; to = size_above z n h }

-- the sum and the difference of two places
pub between_sum : {a b c d : ℕ} {x y : ℤ} → Between a b x → Between c d y → Between (a + c) (b + d) (x +ℤ y)
between_sum {a} {b} {c} {d} {x} {y} h k =
    record {
      from =
          omega (
            zlin,
            h.from,
            k.from,
            Linear.sum x y,
            neg_up (pos a),
            neg_dn (pos a),
            neg_up (pos c),
            neg_dn (pos c),
            neg_up (pos (a + c)),
            neg_dn (pos (a + c)),
          );
      to = omega (zlin, h.to, k.to, Linear.sum x y);
    }

pub between_diff : {a b c d : ℕ} {x y : ℤ} → Between a b x → Between c d y → Between (a + d) (b + c) (x -ℤ y)
between_diff {a} {b} {c} {d} {x} {y} h k =
    record {
      from = omega (zlin, h.from, k.to, diff x y, neg_up (pos a), neg_dn (pos a), neg_up (pos (a + d)), neg_dn (pos (a + d)));
      to = omega (zlin, h.to, k.from, diff x y, neg_up (pos c), neg_dn (pos c));
    }

-- ---- a weight times a value
-- a weight of either sign
product_size : {m n : ℕ} (w z : ℤ) → nat_abs w ≤ m → nat_abs z ≤ n → nat_abs (w *ℤ z) ≤ m * n
product_size w z h k = rw (abs_mul w z) (mul-le-mul h k)

-- a weight of 1 or more keeps the two bounds apart: "Normal: weights 1..1000"
pub product_between : {m a b : ℕ} (w : ℤ) {z : ℤ} → pos 1 ≤ℤ w → nat_abs w ≤ m → Between a b z → Between (m * a) (m * b) (w *ℤ z)
product_between {m} {a} {b} (pos n) {z} p h i =
    record {
      from = omega (zlin, scaled n z, mul-le-mul_left n low, mul-le-mul_right a h, neg_up (pos (m * a)), neg_dn (pos (m * a)));
      to = omega (zlin, scaled n z, mul-le-mul_left n (le_in z (pos b) i.to), mul-le-mul_right b h);
    }
  where
    low : dn z ≤ up z + a
    low = omega (arith, le_in (neg_ℤ (pos a)) z i.from, neg_up (pos a), neg_dn (pos a))
product_between (negsuc n) p h i = absurd p.le

-- ---- sums
-- a sum of n terms, each of them from −a to b, is from −n · a to n · b
pub sum_between :
    (a b : ℕ) (f : ℕ → ℤ) (ts : List Term)
    → All (λ (t : Term). Between a b (t.weight *ℤ f t.var)) ts
    → Between (length ts * a) (length ts * b) (sum f ts)
unfolding sum
sum_between a b f [] h = between_wider (omega arith) (omega arith) (size_between (pos 0) {n = 0} (omega arith))
sum_between a b f (t ∷ ts) h =
    between_wider (omega arith) (omega arith) (between_sum h.0 (sum_between a b f ts h.1))

-- n terms with weights up to 1000 in size and values up to b
pub sum_size :
    (b : ℕ) (f : ℕ → ℤ) (ts : List Term)
    → All (λ (t : Term). (nat_abs t.weight ≤ 1000) × (nat_abs (f t.var) ≤ b)) ts
    → nat_abs (sum f ts) ≤ length ts * (1000 * b)
sum_size b f ts h =
    between_size (length ts * (1000 * b)) (omega arith) (omega arith)
    (sum_between (1000 * b) (1000 * b) f ts
    (All-map {P = λ (t : Term). (nat_abs t.weight ≤ 1000) × (nat_abs (f t.var) ≤ b)} ts
    (λ t small. size_between (t.weight *ℤ f t.var) (product_size t.weight (f t.var) small.0 small.1)) h))

-- "A sum has 0 to 8 terms"
pub sum_few : {f : Form} {vars : ℕ} {ts : List Term} → SumOk paper f vars ts → FewTerms f vars ts
unfolding paper
sum_few ok = record { terms = ok.terms; few = ok.few }

-- "Written: weights −1000..1000 .. Normal: weights 1..1000"
pub weight_size : {f : Form} {vars : ℕ} {t : Term} → TermOk paper f vars t → nat_abs t.weight ≤ 1000
unfolding paper
weight_size {f} {t = t} ok = operands.weight_size paper f t.weight ok.weight

module _ {A : Type 0} (P : A → Type 0) where
  All-take : (n : ℕ) (xs : List A) → All P xs → All P (take n xs)
  All-take zero xs a = tt
  All-take (suc n) [] a = tt
  All-take (suc n) (x ∷ xs) a = (a.0, All-take n xs a.1)

  All-drop : (n : ℕ) (xs : List A) → All P xs → All P (drop n xs)
  All-drop zero xs a = a
  All-drop (suc n) [] a = tt
  All-drop (suc n) (x ∷ xs) a = All-drop n xs a.1

module _ {f : Form} {vars : ℕ} where
  -- the first n of them, and those behind
  pub few_take : (n : ℕ) {ts : List Term} → FewTerms f vars ts → FewTerms f vars (take n ts)
  few_take n {ts} few =
      record {
        terms = All-take (TermOk paper f vars) n ts few.terms;
        few = omega (arith, few.few, length-take n ts);
      }

  pub few_drop : (n : ℕ) {ts : List Term} → FewTerms f vars ts → FewTerms f vars (drop n ts)
  few_drop n {ts} few =
      record {
        terms = All-drop (TermOk paper f vars) n ts few.terms;
        few = omega (arith, few.few, length-drop n ts);
      }
