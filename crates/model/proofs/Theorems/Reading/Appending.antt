-- One element more at the end of a list: of what holds of each element, of rising terms, of items that name nothing twice, and
-- of the bytes of terms, items and moves. Assumes nothing.
use Rattle.std.specs.Prelude.{ℕ, ◌<◌, ◌≡◌, refl, Bool, true, false, ◌||◌, not, List, [], ◌∷◌, ◌++◌, T}
use Rattle.std.proofs.Common.{sym, ap, ◌∙◌, append_assoc, append-nil}
use Rattle.integer.specs.BigEndian.{signed_bytes}
use Rattle.model.specs.Lists.{any}
use Rattle.model.specs.Task.{Term, Item, Block, clashes}
use Rattle.model.specs.Command.{code_of, term, open_move, term_bytes, item_bytes, items_bytes, moves_bytes}
use Rattle.model.specs.Theorems.Reading.WellFormed.{All, Rising, Once}

pub All-snoc {ℓ} : {A : Type ℓ} (P : A → Type 0) (xs : List A) (x : A) → All P xs → P x → All P (xs ++ (x ∷ []))
All-snoc P [] x a p = (p, tt)
All-snoc P (y ∷ xs) x a p = (a.0, All-snoc P xs x a.1 p)

pub Rising-snoc : (ts : List Term) (u : Term) → Rising ts → All (λ (v : Term). v.var < u.var) ts → Rising (ts ++ (u ∷ []))
Rising-snoc [] u r a = (tt, tt)
Rising-snoc (t ∷ ts) u r a = (All-snoc (λ (v : Term). t.var < v.var) ts u r.0 a.0, Rising-snoc ts u r.1 a.1)

-- if neither an element before nor the new one passes, none does
none_snoc : {A : Type 0} (f : A → Bool) (xs : List A) (x : A) → T (not (any f xs)) → T (not (f x)) → T (not (any f (xs ++ (x ∷ []))))
unfolding any
none_snoc f [] x a b = go (f x) b
  where
    go : (c : Bool) → T (not c) → T (not (c || false))
    go true h = h
    go false h = tt
none_snoc f (y ∷ xs) x a b = go (f y) (none_snoc f xs x) a
  where
    go : (c : Bool) → (T (not (any f xs)) → T (not (f x)) → T (not (any f (xs ++ (x ∷ []))))) → T (not (c || any f xs)) → T (not (c || any f (xs ++ (x ∷ []))))
    go true later h = h
    go false later h = later h b

pub Once-snoc : (b : Block) (i : Item) → Once b → T (not (any (λ j. clashes j i) b)) → Once (b ++ (i ∷ []))
unfolding any
Once-snoc [] i o a = (tt, tt)
Once-snoc (j ∷ b) i o a = go (clashes j i) (λ n. none_snoc (clashes j) b i o.0 n) (Once-snoc b i o.1) a
  where
    go : (c : Bool) → (T (not c) → T (not (any (clashes j) (b ++ (i ∷ []))))) → (T (not (any (λ h. clashes h i) b)) → Once (b ++ (i ∷ []))) → T (not (c || any (λ h. clashes h i) b)) → Once (j ∷ (b ++ (i ∷ [])))
    go true f g n = absurd n
    go false f g n = (f tt, g n)

-- ---- bytes
behind : (xs p q r : List ℕ) → p ≡ q ++ r → xs ++ p ≡ xs ++ q ++ r
behind xs p q r e = ap (λ (l : List ℕ). xs ++ l) e ∙ sym (append_assoc xs q r)

pub term_bytes_snoc : (ts : List Term) (u : Term) → term_bytes (ts ++ (u ∷ [])) ≡ term_bytes ts ++ term_bytes (u ∷ [])
unfolding term_bytes
term_bytes_snoc [] u = refl
term_bytes_snoc (t ∷ ts) u =
    behind (code_of term ∷ t.var ∷ signed_bytes 2 t.weight) (term_bytes (ts ++ (u ∷ []))) (term_bytes ts) (term_bytes (u ∷ [])) (term_bytes_snoc ts u)

pub items_bytes_snoc : (b : Block) (i : Item) → items_bytes (b ++ (i ∷ [])) ≡ items_bytes b ++ item_bytes i
unfolding items_bytes
items_bytes_snoc [] i = append-nil (item_bytes i)
items_bytes_snoc (j ∷ b) i = behind (item_bytes j) (items_bytes (b ++ (i ∷ []))) (items_bytes b) (item_bytes i) (items_bytes_snoc b i)

pub moves_bytes_append : (ms bs : List Block) → moves_bytes (ms ++ bs) ≡ moves_bytes ms ++ moves_bytes bs
unfolding moves_bytes
moves_bytes_append [] bs = refl
moves_bytes_append (m ∷ ms) bs =
    behind (code_of open_move ∷ items_bytes m) (moves_bytes (ms ++ bs)) (moves_bytes ms) (moves_bytes bs) (moves_bytes_append ms bs)

pub moves_bytes_snoc : (ms : List Block) (b : Block) → moves_bytes (ms ++ (b ∷ [])) ≡ moves_bytes ms ++ (code_of open_move ∷ items_bytes b)
unfolding moves_bytes
moves_bytes_snoc ms b =
    moves_bytes_append ms (b ∷ []) ∙ ap (λ (l : List ℕ). moves_bytes ms ++ l) (append-nil (code_of open_move ∷ items_bytes b))
