-- The items of a block that are left from an offset of its part on, and what the next of them is.
-- Assumes nothing.
use Rattle.std.specs.Prelude.{ℕ, suc, ◌+◌, ◌*◌, ◌≤◌, ◌<◌, ◌≡◌, refl, List, [], ◌∷◌, ◌++◌, ℤ, nat_abs, ◌*ℤ◌, length, get_or, take, drop}
use Rattle.std.proofs.Common.{arith, sym, ap, ◌∙◌, subst, append_assoc, length-append}
use Rattle.integer.specs.BigEndian.{half, signed, signed_bytes}
use Rattle.integer.proofs.BigEndian.{length_signed_bytes}
use Rattle.integer.specs.Linear.{zlin, nat_abs_split}
use Rattle.model.specs.Limits.{paper, largest_value}
use Rattle.model.specs.Task.{Form, written, normal, Term, Condition, Effect, Item, need, add, delete, condition, effect, Block, terms_of}
use Rattle.model.specs.Command.{term, code_of, comparison_code, kind_code, term_bytes, items_bytes}
use Rattle.model.proofs.Theorems.Printing.Operands.{weight_size}
use Rattle.model.specs.Theorems.Printing.Items.{closing}
use Rattle.model.proofs.Theorems.Printing.Items.{item_parts}
use Rattle.model.specs.Theorems.Reading.WellFormed.{All, WeightOk, SumOk, BoundOk, ConditionOk, EffectOk, ItemOk}
use Rattle.block.specs.Bytes.{At, at_same, at_place, at_head, at_behind, at_tail, at_room, at_signed, at_length}
use Rattle.block.specs.declared.ItemAt.{ItemAt}
use Rattle.block.specs.declared.ItemAt.TheVariants.{Need, Add, Delete, Condition as ConditionAt, Effect as EffectAt, End}

-- the table's form and its counts, which bound what a block names
pub record Ranges : Type 0 where
  pub form : Form
  pub props : ℕ
  pub vars : ℕ

-- from the offset on, the part is the print of the items `rest`
pub record Left (k : Ranges) (part : List ℕ) (at : ℕ) (rest : Block) : Type 0 where
  pub bytes : At part at (items_bytes rest)
  pub items : All (ItemOk paper k.form k.props k.vars) rest

-- some items are left there
pub record Readable (part : List ℕ) (at : ℕ) : Type 0 where
  pub ranges : Ranges
  pub rest : Block
  pub left : Left ranges part at rest

pub readable : {k : Ranges} {part : List ℕ} {at : ℕ} {rest : Block} → Left k part at rest → Readable part at
readable {k} {rest} l = record { ranges = k; rest = rest; left = l }

-- behind the byte that opens a block all its items are left
pub left_start :
    {k : Ranges} {part : List ℕ} {b : Block} (opening : ℕ)
    → part ≡ opening ∷ items_bytes b
    → All (ItemOk paper k.form k.props k.vars) b
    → Left k part 1 b
left_start opening e ok =
    record { bytes = record { within = omega (arith, ap length e); bytes = ap (drop 1) e }; items = ok }

-- the n terms of a sum stand from the offset on
pub record Terms (k : Ranges) (part : List ℕ) (from n : ℕ) (ts : List Term) : Type 0 where
  pub after : List ℕ
  pub bytes : At part from (term_bytes ts ++ after)
  pub many : length ts ≡ n
  pub ok : SumOk paper k.form k.vars ts

pub terms_place :
    {k : Ranges} {part : List ℕ} {from to n m : ℕ} {ts : List Term}
    → Terms k part from n ts
    → from ≡ to
    → n ≡ m
    → Terms k part to m ts
terms_place h e f = record { after = h.after; bytes = at_place h.bytes e; many = h.many ∙ f; ok = h.ok }

-- ---- an item is the terms of its sum and the command that closes it

pub first_parts : (i : Item) (b : Block) → items_bytes (i ∷ b) ≡ term_bytes (terms_of i) ++ (closing i ++ items_bytes b)
unfolding items_bytes closing
first_parts i b = rw (item_parts i, append_assoc (term_bytes (terms_of i)) (closing i) (items_bytes b)) refl

-- the bytes of a first term
unfoldable pub first_term : Term → List ℕ
first_term t = code_of term ∷ t.var ∷ signed_bytes 2 t.weight

pub first_term_length : (t : Term) → length (first_term t) ≡ 4
unfolding first_term
first_term_length t = omega (arith, length_signed_bytes 2 t.weight)

pub terms_cons : (t : Term) (ts : List Term) (bs : List ℕ) → term_bytes (t ∷ ts) ++ bs ≡ first_term t ++ (term_bytes ts ++ bs)
unfolding term_bytes first_term
terms_cons t ts bs = rw (append_assoc (signed_bytes 2 t.weight) (term_bytes ts) bs) refl

-- behind a first term the others stand
pub behind_term :
    {part : List ℕ} {at : ℕ} (t : Term) (ts : List Term) (bs : List ℕ)
    → At part at (term_bytes (t ∷ ts) ++ bs)
    → At part (at + 4) (term_bytes ts ++ bs)
behind_term t ts bs a =
    at_behind 4 (first_term t) (term_bytes ts ++ bs) (at_same a (terms_cons t ts bs)) (first_term_length t)

pub closing_long : (i : Item) → 1 ≤ length (closing i)
unfolding closing
closing_long i = omega arith

-- at the end no item is left
pub left_end : {k : Ranges} {part : List ℕ} {at : ℕ} {rest : Block} → length part ≤ at → Left k part at rest → rest ≡ []
left_end {part} {at} {rest} h l = go rest l.bytes
  where
    go : (b : Block) → At part at (items_bytes b) → b ≡ []
    go [] a = refl
    go (i ∷ b) a =
        absurd
        (omega (arith, at_length (at_same a (first_parts i b)), length-append (term_bytes (terms_of i)) (closing i ++ items_bytes b), length-append (closing i) (items_bytes b), closing_long i))

-- ---- what the next item is

-- the item i stands first, and behind it, at `next`, the others are left
pub record Followed (k : Ranges) (part : List ℕ) (next : ℕ) (rest : Block) (i : Item) : Type 0 where
  pub others : Block
  pub is : rest ≡ i ∷ others
  pub left : Left k part next others
  pub ok : ItemOk paper k.form k.props k.vars i

-- the condition c that the numbers describe: its operator's number, its constant, where its terms stand and how many
pub record ConditionIs (k : Ranges) (part : List ℕ) (o : ℕ) (z : ℤ) (from n : ℕ) (c : Condition) : Type 0 where
  pub comparison : comparison_code c.comparison ≡ o
  pub bound : c.bound ≡ z
  pub terms : Terms k part from n c.terms
  pub ok : ConditionOk paper k.form k.vars c

-- the effect e that the numbers describe
pub record EffectIs (k : Ranges) (part : List ℕ) (kd : ℕ) (z : ℤ) (from n : ℕ) (e : Effect) : Type 0 where
  pub kind : kind_code e.kind ≡ kd
  pub base : e.base ≡ z
  pub terms : Terms k part from n e.terms
  pub ok : EffectOk paper k.form k.vars e

pub record ConditionFound (k : Ranges) (part : List ℕ) (o : ℕ) (z : ℤ) (from n after : ℕ) (rest : Block) : Type 0 where
  pub it : Condition
  pub is : ConditionIs k part o z from n it
  pub followed : Followed k part after rest (condition it)

pub record EffectFound (k : Ranges) (part : List ℕ) (kd v : ℕ) (z : ℤ) (from n after : ℕ) (rest : Block) : Type 0 where
  pub it : Effect
  pub var : it.var ≡ v
  pub is : EffectIs k part kd z from n it
  pub followed : Followed k part after rest (effect it)

-- the description fits the first of the items that are left
abbrev pub Found : Ranges → List ℕ → Block → ItemAt → Type 0
Found k part rest (Need p next) = Followed k part next rest (need p)
Found k part rest (Add p next) = Followed k part next rest (add p)
Found k part rest (Delete p next) = Followed k part next rest (delete p)
Found k part rest (ConditionAt o c from n next) = ConditionFound k part o c from n next rest
Found k part rest (EffectAt kd v c from n next) = EffectFound k part kd v c from n next rest
Found k part rest End = rest ≡ []

-- the offset behind an item; 0 for none
unfoldable pub behind : ItemAt → ℕ
behind (Need p after) = after
behind (Add p after) = after
behind (Delete p after) = after
behind (ConditionAt o z from n after) = after
behind (EffectAt kd v z from n after) = after
behind End = 0

-- the offset behind an item lies ahead; the block ends at the part's end
abbrev pub Moves : ℕ → ℕ → ItemAt → Type 0
Moves at size (Need p next) = (at < next) × (next ≤ size)
Moves at size (Add p next) = (at < next) × (next ≤ size)
Moves at size (Delete p next) = (at < next) × (next ≤ size)
Moves at size (ConditionAt o c from n next) = (at < next) × (next ≤ size)
Moves at size (EffectAt kd v c from n next) = (at < next) × (next ≤ size)
Moves at size End = size ≤ at

pub record Next (part : List ℕ) (at : ℕ) (r : ItemAt) : Type 0 where
  pub moves : Moves at (length part) r
  pub found : (k : Ranges) (rest : Block) → Left k part at rest → Found k part rest r

-- before the part's end
pub next_ahead : {part : List ℕ} {at : ℕ} {r : ItemAt} → at < length part → Next part at r → (at < behind r) × (behind r ≤ length part)
unfolding behind
next_ahead {part} {at} {r} h t = go r t.moves
  where
    go : (x : ItemAt) → Moves at (length part) x → (at < behind x) × (behind x ≤ length part)
    go (Need p after) m = m
    go (Add p after) m = m
    go (Delete p after) m = m
    go (ConditionAt o z from n after) m = m
    go (EffectAt kd v z from n after) m = m
    go End m = absurd (omega arith)

-- ---- sizes

-- the sizes of numbers in range, which four bytes and two bytes hold
pub bound_small : (f : Form) (c : ℤ) → BoundOk paper f c → nat_abs c ≤ 1_000_001
unfolding paper
bound_small written c ok = omega arith
bound_small normal c ok = omega (zlin, nat_abs_split c)

pub base_small : {f : Form} {vars : ℕ} {e : Effect} → EffectOk paper f vars e → nat_abs e.base ≤ 1_000_000
unfolding paper
base_small ok = ok.base

pub weight_small : (f : Form) (w : ℤ) → WeightOk paper f w → nat_abs w ≤ 1000
unfolding paper
weight_small f w ok = weight_size paper f w ok

-- ---- a term

-- some term stands there
pub record TermAt (part : List ℕ) (at : ℕ) : Type 0 where
  pub ranges : Ranges
  pub n : ℕ
  pub first : Term
  pub others : List Term
  pub terms : Terms ranges part at n (first ∷ others)

-- v is its variable, w its weight, r its weight times x, in every reading
pub record IsVariable (part : List ℕ) (at v : ℕ) : Type 0 where
  pub is : (k : Ranges) (n : ℕ) (t : Term) (ts : List Term) → Terms k part at n (t ∷ ts) → v ≡ t.var

pub record IsWeight (part : List ℕ) (at : ℕ) (w : ℤ) : Type 0 where
  pub is : (k : Ranges) (n : ℕ) (t : Term) (ts : List Term) → Terms k part at n (t ∷ ts) → w ≡ t.weight
  pub small : nat_abs w ≤ 1000

pub record IsScaled (part : List ℕ) (at : ℕ) (x r : ℤ) : Type 0 where
  pub is : (k : Ranges) (n : ℕ) (t : Term) (ts : List Term) → Terms k part at n (t ∷ ts) → r ≡ t.weight *ℤ x
  pub small : nat_abs r ≤ 1_000_000_000_000_000

module _ {k : Ranges} {part : List ℕ} {at n : ℕ} {t : Term} {ts : List Term} (h : Terms k part at n (t ∷ ts)) where
  pub term_at : TermAt part at
  term_at = record { ranges = k; n = n; first = t; others = ts; terms = h }

  term_bytes_lem : At part at (first_term t ++ (term_bytes ts ++ h.after))
  term_bytes_lem = at_same h.bytes (terms_cons t ts h.after)

  pub term_room : at + 4 ≤ length part
  term_room = at_room 4 (first_term t) (term_bytes ts ++ h.after) term_bytes_lem (first_term_length t)

  pub term_var : get_or part (at + 1) 0 ≡ t.var
  unfolding first_term
  term_var = at_head (at_tail term_bytes_lem)

  pub term_weight : signed (take 2 (drop (at + 2) part)) ≡ t.weight
  unfolding first_term half
  term_weight =
      at_signed 2 t.weight (term_bytes ts ++ h.after)
      (at_behind 2 (code_of term ∷ t.var ∷ []) (signed_bytes 2 t.weight ++ (term_bytes ts ++ h.after)) term_bytes_lem refl)
      (omega arith)
      (omega (arith, weight_small k.form t.weight h.ok.terms.0.weight))

  pub term_var_small : t.var < k.vars
  term_var_small = h.ok.terms.0.var

  pub term_weight_small : nat_abs t.weight ≤ 1000
  term_weight_small = weight_small k.form t.weight h.ok.terms.0.weight

-- what is read at a term
module _ {part : List ℕ} {at : ℕ} (h : TermAt part at) where
  pub read_weight : {w : ℤ} → w ≡ signed (take 2 (drop (at + 2) part)) → IsWeight part at w
  read_weight {w} e =
      record {
        is = λ k n t ts g. e ∙ term_weight g;
        small = subst (λ (z : ℤ). nat_abs z ≤ 1000) (sym (e ∙ term_weight h.terms)) (term_weight_small h.terms);
      }

-- the other terms stand behind the first
module _ {k : Ranges} {part : List ℕ} {at n : ℕ} {t : Term} {ts : List Term} (h : Terms k part at n (t ∷ ts)) where
  pub terms_behind : (m : ℕ) → n ≡ suc m → Terms k part (at + 4) m ts
  terms_behind m e =
      record {
        after = h.after;
        bytes = behind_term t ts h.after h.bytes;
        many = omega (arith, h.many);
        ok = record { terms = h.ok.terms.1; few = omega (arith, h.ok.few); rising = h.ok.rising.1 };
      }

-- a scaled weight
pub read_scaled :
    {part : List ℕ} {at : ℕ} {x w r : ℤ}
    → IsWeight part at w
    → nat_abs x ≤ largest_value
    → r ≡ w *ℤ x
    → nat_abs r ≤ 1000 * nat_abs x
    → IsScaled part at x r
read_scaled {x} q h e s =
    record { is = λ k n t ts g. e ∙ ap (λ (z : ℤ). z *ℤ x) (q.is k n t ts g); small = omega arith }

-- the first of the terms
pub record FirstOf (k : Ranges) (part : List ℕ) (at n : ℕ) (ts : List Term) : Type 0 where
  pub first : Term
  pub others : List Term
  pub is : ts ≡ first ∷ others
  pub terms : Terms k part at n (first ∷ others)

pub first_of : {k : Ranges} {part : List ℕ} {at n : ℕ} {ts : List Term} → Terms k part at n ts → 0 < n → FirstOf k part at n ts
first_of {k} {part} {at} {n} {ts} h p = go ts h
  where
    go : (l : List Term) → Terms k part at n l → FirstOf k part at n l
    go [] g = absurd (omega (arith, g.many))
    go (t ∷ l) g = record { first = t; others = l; is = refl; terms = g }
