-- The numbers of the moves that do something, before and after the others are dropped: which comes first, and that none takes
-- another's number. Assumes nothing.
use Prim.Native.Nat.{ℕ, zero, suc, ◌+◌, ◌<◌}
use Rattle.std.proofs.Common.{suc-add, add-suc, add-zero, zero-add, arith, ◌∙◌, eqb→eq}
use Rattle.std.specs.Prelude.{◌≡◌, Bool, List, [], ◌∷◌, T, eqb, length, get_or, take}
use Rattle.std.proofs.Math.Path.{refl, sym, ap, subst}
use Rattle.std.proofs.Math.Bool.{true, false, cond}
use Rattle.std.proofs.Math.Option.{Option, none, some}
use Rattle.std.proofs.Math.Dec.{eqb_refl}
use Rattle.std.proofs.Math.Seq.{take-length}
use Rattle.model.specs.Lists.{any, first_from}
use Rattle.model.specs.Task.{Block, active}
use Rattle.model.specs.Rewrite.{active_moves, new_number, old_number}
use Rattle.model.proofs.Theorems.Laws.Booleans.{T_true, true_t, T-equal}
use Rattle.model.proofs.Theorems.Rewriting.Solving.{new_number_lem}

-- a move that does something is one of the list
active_below : (ms : List Block) (b : ℕ) → T (active (get_or ms b [])) → b < length ms
unfolding active any
active_below [] b a = absurd a
active_below (m ∷ ms) zero a = omega arith
active_below (m ∷ ms) (suc b) a = omega (arith, active_below ms b a)

-- it stands under its new number
pub new_same : (ms : List Block) (b : ℕ) → T (active (get_or ms b [])) → get_or (active_moves ms) (new_number ms b) [] ≡ get_or ms b []
new_same ms b a = (new_number_lem ms b (active_below ms b a) a).1

-- the old number of its new number is its number
old_new : (ms : List Block) (b : ℕ) → T (active (get_or ms b [])) → old_number ms (new_number ms b) ≡ b
unfolding active any new_number old_number active_moves
old_new [] b a = absurd a
old_new (m ∷ ms) zero a = ap (λ (c : Bool). cond c 0 (suc (old_number ms 0))) (T_true (active m) a)
old_new (m ∷ ms) (suc b) a = go (active m) refl (active_moves (take b ms)) (old_new ms b a)
  where
    go : (c : Bool) → active m ≡ c → (l : List Block) → old_number ms (length l) ≡ b → old_number (m ∷ ms) (length (cond c (m ∷ l) l)) ≡ suc b
    go true e l later = ap (λ (c : Bool). cond c (suc (old_number ms (length l))) (suc (old_number ms (suc (length l))))) e ∙ ap suc later
    go false e [] later = ap (λ (c : Bool). cond c 0 (suc (old_number ms 0))) e ∙ ap suc later
    go false e (x ∷ l) later = ap (λ (c : Bool). cond c (suc (old_number ms (length l))) (suc (old_number ms (suc (length l))))) e ∙ ap suc later

-- no other that does something has its new number
pub new_equal : (ms : List Block) (b c : ℕ) → T (active (get_or ms b [])) → T (active (get_or ms c [])) → eqb (new_number ms b) (new_number ms c) ≡ eqb b c
new_equal ms b c x y =
    T-equal (eqb (new_number ms b) (new_number ms c)) (eqb b c)
    (λ t. equal_eqb (sym (old_new ms b x) ∙ ap (old_number ms) (eqb→eq (new_number ms b) (new_number ms c) t) ∙ old_new ms c y))
    (λ t. equal_eqb (ap (new_number ms) (eqb→eq b c t)))
  where
    equal_eqb : {m n : ℕ} → m ≡ n → T (eqb m n)
    equal_eqb {m} e = subst (λ (n : ℕ). T (eqb m n)) e (eqb_refl m)

-- the next move's new number is one more if this one does something, else the same
new_next : (ms : List Block) (b : ℕ) → new_number ms (suc b) ≡ cond (active (get_or ms b [])) (suc (new_number ms b)) (new_number ms b)
unfolding active any new_number active_moves
new_next [] zero = refl
new_next [] (suc b) = refl
new_next (m ∷ ms) zero = go (active m)
  where
    go : (c : Bool) → length (cond c (m ∷ []) []) ≡ cond c 1 0
    go true = refl
    go false = refl
new_next (m ∷ ms) (suc b) = go (active m) (active (get_or ms b [])) (active_moves (take (suc b) ms)) (active_moves (take b ms)) (new_next ms b)
  where
    go :
        (c d : Bool) (l k : List Block)
        → length l ≡ cond d (suc (length k)) (length k)
        → length (cond c (m ∷ l) l) ≡ cond d (suc (length (cond c (m ∷ k) k))) (length (cond c (m ∷ k) k))
    go true true l k e = ap suc e
    go true false l k e = ap suc e
    go false d l k e = e

new_last : (ms : List Block) → new_number ms (length ms) ≡ length (active_moves ms)
unfolding new_number
new_last ms = ap (λ (l : List Block). length (active_moves l)) (take-length ms)

-- A walk over all moves beside one over those that do something. P relates the n moves from b on to the m from the new number of b on.
module _ (ms : List Block) (P : ℕ → ℕ → ℕ → ℕ → Type 0) where
  pub walk :
      ((b : ℕ) → P b 0 (new_number ms b) 0)
      → ((b n m : ℕ) → T (active (get_or ms b [])) → P (suc b) n (suc (new_number ms b)) m → P b (suc n) (new_number ms b) (suc m))
      → ((b n m : ℕ) → active (get_or ms b []) ≡ false → P (suc b) n (new_number ms b) m → P b (suc n) (new_number ms b) m)
      → P 0 (length ms) 0 (length (active_moves ms))
  unfolding new_number active_moves
  walk none_left does idle =
      let whole = walked (length ms) 0 in
      subst (P 0 (length ms) 0) (sym (zero-add whole.0) ∙ sym whole.1 ∙ ap (new_number ms) (zero-add (length ms)) ∙ new_last ms) whole.2
    where
      walked : (n b : ℕ) → (m : ℕ) × (new_number ms (b + n) ≡ new_number ms b + m) × P b n (new_number ms b) m
      walked zero b = (0, ap (new_number ms) (add-zero b) ∙ sym (add-zero (new_number ms b)), none_left b)
      walked (suc n) b = go (active (get_or ms b [])) refl (new_next ms b) (ap (new_number ms) (suc-add b n ∙ sym (add-suc b n))) (walked n (suc b))
        where
          go :
              (c : Bool)
              → active (get_or ms b []) ≡ c
              → new_number ms (suc b) ≡ cond c (suc (new_number ms b)) (new_number ms b)
              → new_number ms (suc b + n) ≡ new_number ms (b + suc n)
              → (m : ℕ) × (new_number ms (suc b + n) ≡ new_number ms (suc b) + m) × P (suc b) n (new_number ms (suc b)) m
              → (m : ℕ) × (new_number ms (b + suc n) ≡ new_number ms b + m) × P b (suc n) (new_number ms b) m
          go true e new shift (m, total, rest) = (suc m, omega (arith, total, new, shift), does b n m (true_t e) (subst (λ (j : ℕ). P (suc b) n j m) new rest))
          go false e new shift (m, total, rest) = (m, omega (arith, total, new, shift), idle b n m e (subst (λ (j : ℕ). P (suc b) n j m) new rest))

-- A search that no move passes that does nothing finds the same move, under its new number.
pub first_same :
    (ms : List Block) (f : Block → Bool)
    → ((m : Block) → active m ≡ false → f m ≡ false)
    → (P : Option ℕ → Option ℕ → Type 0)
    → P none none
    → ((b : ℕ) → T (active (get_or ms b [])) → P (some b) (some (new_number ms b)))
    → P (first_from (λ b. f (get_or ms b [])) 0 (length ms)) (first_from (λ b. f (get_or (active_moves ms) b [])) 0 (length (active_moves ms)))
unfolding first_from
first_same ms f fails P nothing found =
    walk ms (λ b n c m. P (old b n) (new c m)) (λ b. nothing)
    (λ b n m does later.
    subst (λ (x : Bool). P (old b (suc n)) (elim x [ true ↦ some (new_number ms b) | false ↦ new (suc (new_number ms b)) m ])) (sym (ap f (new_same ms b does)))
    (here (f (get_or ms b [])) b n m (found b does) later))
    (λ b n m idle later. subst (λ (x : Bool). P (elim x [ true ↦ some b | false ↦ old (suc b) n ]) (new (new_number ms b) m)) (sym (fails (get_or ms b []) idle)) later)
  where
    old : ℕ → ℕ → Option ℕ
    old b n = first_from (λ c. f (get_or ms c [])) b n

    new : ℕ → ℕ → Option ℕ
    new b n = first_from (λ c. f (get_or (active_moves ms) c [])) b n

    here :
        (x : Bool) (b n m : ℕ)
        → P (some b) (some (new_number ms b))
        → P (old (suc b) n) (new (suc (new_number ms b)) m)
        → P (elim x [ true ↦ some b | false ↦ old (suc b) n ]) (elim x [ true ↦ some (new_number ms b) | false ↦ new (suc (new_number ms b)) m ])
    here true b n m hit later = hit
    here false b n m hit later = later
