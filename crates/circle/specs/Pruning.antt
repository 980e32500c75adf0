-- Pruning: after m rounds a variable is alive exactly if a walk of m edges ends in it. Assumes nothing.
use Rattle.std.specs.Prelude.{ℕ, suc, ◌+◌, ◌-◌, ◌≤◌, ◌<◌, ◌≡◌, refl, Bool, true, false, ◌&&◌, List, length, get_or, set, replicate}
use Rattle.std.proofs.Common.{arith, add-one, sym, ◌∙◌, subst, length-set, get_or-set_same, get_or-set_other}
use Rattle.std.proofs.Math.Path.{ap}
use Rattle.std.proofs.lemmas.List.{length-replicate, get_or-replicate}
use Rattle.model.specs.Lists.{any_below}
use Rattle.model.proofs.Theorems.Laws.Booleans.{T_true, true_t, and_right, and_both, T-equal}
use Rattle.model.proofs.Theorems.Laws.Searching.{below_suc, any_below_at}
use Rattle.circle.specs.Walks.{table_edge, any_below_same, walk_in, circular_in, none_longer, walk_shorter}

-- is u alive, with an edge to v
unfoldable pub live_predecessor : List Bool → List Bool → ℕ → ℕ → Bool
live_predecessor es alive v u = table_edge es u v && get_or alive u false

unfoldable pub alive_at : List Bool → ℕ → Bool
alive_at alive v = get_or alive v false

-- does v stay alive
unfoldable pub kept : List Bool → List Bool → ℕ → ℕ → Bool
kept es alive n v = alive_at alive v && any_below (live_predecessor es alive v) n

module _ (es alive : List Bool) (n v : ℕ) {r : Bool} where
  pub kept_alive : alive_at alive v ≡ true → r ≡ any_below (live_predecessor es alive v) n → r ≡ kept es alive n v
  unfolding kept
  kept_alive h e = rw h e

  pub kept_dead : alive_at alive v ≡ false → r ≡ alive_at alive v → r ≡ kept es alive n v
  unfolding kept
  kept_dead h e = rw h (e ∙ h)

pub none_more : (f : ℕ → Bool) (i : ℕ) → any_below f i ≡ false → f i ≡ false → any_below f (i + 1) ≡ false
unfolding any_below
none_more f i h k = rw (add-one i, h, k) refl

pub some_found : (f : ℕ → Bool) (n i : ℕ) → i < n → f i ≡ true → true ≡ any_below f n
some_found f n i h k = sym (T_true (any_below f n) (any_below_at f n i h (true_t k)))

-- after m rounds a variable is alive exactly if a walk of m edges ends in it
pub record Pruned (es : List Bool) (n m : ℕ) (alive : List Bool) : Type 0 where
  pub size : length alive ≡ 32
  pub same : (v : ℕ) → v < n → alive_at alive v ≡ walk_in es n m v

pub pruned_start : (es : List Bool) (n : ℕ) → n ≤ 32 → Pruned es n 0 (replicate 32 true)
unfolding walk_in alive_at
pruned_start es n h =
    record { size = length-replicate 32 true; same = λ v l. get_or-replicate 32 v true false (omega arith) }

pub pruned_next :
    {es : List Bool} {n m : ℕ} {alive next : List Bool} → Pruned es n m alive → length next ≡ 32
    → ((v : ℕ) → v < n → alive_at next v ≡ kept es alive n v)
    → Pruned es n (m + 1) next
pruned_next {es} {n} {m} {alive} {next} h e f =
    record { size = e; same = λ v l. f v l ∙ onward v l ∙ ap (λ (i : ℕ). walk_in es n i v) (sym (add-one m)) }
  where
    each : (v u : ℕ) → u < n → live_predecessor es alive v u ≡ (table_edge es u v && walk_in es n m u)
    each v u k = unfold live_predecessor alive_at in ap (λ (b : Bool). table_edge es u v && b) (h.same u k)

    onward : (v : ℕ) → v < n → kept es alive n v ≡ walk_in es n (suc m) v
    onward v l =
        unfold kept walk_in in
        (rw (h.same v l, any_below_same (live_predecessor es alive v) (λ u. table_edge es u v && walk_in es n m u) n (each v))
        (T-equal (walk_in es n m v && walk_in es n (suc m) v) (walk_in es n (suc m) v) (and_right (walk_in es n m v) (walk_in es n (suc m) v))
        (λ t. and_both (walk_in es n m v) (walk_in es n (suc m) v) (walk_shorter es n m v t) t)))

pub pruned_any : {es : List Bool} {n m : ℕ} {alive : List Bool} → Pruned es n m alive → any_below (alive_at alive) n ≡ any_below (walk_in es n m) n
pruned_any {es} {n} {m} {alive} h = any_below_same (alive_at alive) (walk_in es n m) n h.same

-- none is alive: no circle
pub pruned_none : {es : List Bool} {n m : ℕ} {alive : List Bool} → Pruned es n m alive → m ≤ n → any_below (alive_at alive) n ≡ false → false ≡ circular_in es n
unfolding circular_in
pruned_none {es} {n} {m} h l e =
    let k : m + (n - m) ≡ n = omega arith in
    sym (subst (λ (i : ℕ). any_below (walk_in es n i) n ≡ false) k (none_longer es n m (n - m) (sym (pruned_any h) ∙ e)))

pub pruned_end : {es : List Bool} {n m : ℕ} {alive : List Bool} → Pruned es n m alive → m ≡ n → any_below (alive_at alive) n ≡ circular_in es n
unfolding circular_in
pruned_end {es} {n} {m} h e = pruned_any h ∙ ap (λ (i : ℕ). any_below (walk_in es n i) n) e

pub none_all : (f : ℕ → Bool) (i n : ℕ) → any_below f i ≡ false → i ≤ n → n ≤ i → false ≡ any_below f n
none_all f i n h a b = let e : i ≡ n = omega arith in sym (subst (λ (j : ℕ). any_below f j ≡ false) e h)

-- the first i entries are f's
pub record Filled (f : ℕ → Bool) (i : ℕ) (a : List Bool) : Type 0 where
  pub size : length a ≡ 32
  pub same : (v : ℕ) → v < i → alive_at a v ≡ f v

pub filled_none : (f : ℕ → Bool) (a : List Bool) → a ≡ replicate 32 true → Filled f 0 a
filled_none f a e = record { size = ap length e ∙ length-replicate 32 true; same = λ v h. absurd (omega arith) }

pub filled_more : {f : ℕ → Bool} {i : ℕ} {a : List Bool} {r : Bool} → Filled f i a → i < 32 → r ≡ f i → Filled f (i + 1) (set a i r)
unfolding alive_at
filled_more {f} {i} {a} {r} h l e =
    record {
      size = length-set a i r ∙ h.size;
      same = λ v k. below_suc v i (omega arith)
          (λ m. get_or-set_other a i v r false (λ g. omega arith) ∙ h.same v m)
          (λ g. rw g (get_or-set_same a i r false (omega (arith, h.size)) ∙ e));
    }
