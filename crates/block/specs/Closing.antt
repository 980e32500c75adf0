-- The item that a command closes: the terms before it are passed one by one, and the command says what it is. Assumes nothing.
use Rattle.std.specs.Prelude.{ℕ, ◌+◌, ◌*◌, ◌<◌, ◌≡◌, List, [], ◌∷◌, ◌++◌, ℤ, length, take, drop}
use native.Mathlib.Omega.{arith}
use Rattle.std.proofs.Math.Path.{refl, sym}
use Rattle.std.proofs.Common.{◌∙◌, subst, length-append}
use Rattle.std.proofs.Math.IntN.{nat_abs}
use Rattle.std.proofs.Math.ListN.{get_or}
use Rattle.integer.specs.BigEndian.{half, signed, signed_bytes}
use Rattle.integer.proofs.BigEndian.{length_signed_bytes}
use Rattle.model.specs.Limits.{paper}
use Rattle.model.specs.Task.{Term, Item, need, add, delete, condition, effect, Block, terms_of}
use Rattle.model.specs.Command.{code_of, comparison_code, kind_code, term_bytes, items_bytes}
use Rattle.model.specs.Theorems.Printing.Items.{item_command, item_operands, closing}
use Rattle.model.specs.Theorems.Reading.WellFormed.{All, ItemOk, SumOk}
use Rattle.block.specs.Bytes.{At, at_same, at_place, at_head, at_behind, at_tail, at_signed, at_length}
use Rattle.block.specs.Items.{Ranges, Left, Terms, first_parts, closing_long, behind_term, Followed, ConditionFound, EffectFound, bound_small, base_small}

-- the item at `from`, of which n terms are passed and the terms `ts` are left
pub record Passed (k : Ranges) (part : List ℕ) (from n : ℕ) (rest : Block) : Type 0 where
  pub item : Item
  pub others : Block
  pub is : rest ≡ item ∷ others
  pub ok : ItemOk paper k.form k.props k.vars item
  pub oks : All (ItemOk paper k.form k.props k.vars) others
  pub whole : At part from (term_bytes (terms_of item) ++ (closing item ++ items_bytes others))
  pub ts : List Term
  pub many : n + length ts ≡ length (terms_of item)
  pub bytes : At part (from + 4 * n) (term_bytes ts ++ (closing item ++ items_bytes others))

-- the item at `from` has n terms, and its last command stands behind them
pub record ClosedBy (k : Ranges) (part : List ℕ) (from n : ℕ) (rest : Block) (item : Item) (others : Block) : Type 0 where
  pub is : rest ≡ item ∷ others
  pub ok : ItemOk paper k.form k.props k.vars item
  pub oks : All (ItemOk paper k.form k.props k.vars) others
  pub whole : At part from (term_bytes (terms_of item) ++ (closing item ++ items_bytes others))
  pub many : length (terms_of item) ≡ n
  pub bytes : At part (from + 4 * n) (closing item ++ items_bytes others)

pub record Closed (k : Ranges) (part : List ℕ) (from n : ℕ) (rest : Block) : Type 0 where
  pub item : Item
  pub others : Block
  pub by : ClosedBy k part from n rest item others

-- some item does
pub record Closable (part : List ℕ) (from n : ℕ) : Type 0 where
  pub ranges : Ranges
  pub rest : Block
  pub closed : Closed ranges part from n rest

term_head : {part : List ℕ} {at : ℕ} (t : Term) (ts : List Term) (bs : List ℕ) → At part at (term_bytes (t ∷ ts) ++ bs) → get_or part at 0 ≡ 0x57
unfolding term_bytes code_of
term_head t ts bs a = at_head a

-- no command that closes an item is a term's
closing_head : {part : List ℕ} {at : ℕ} (i : Item) (bs : List ℕ) → At part at (closing i ++ bs) → get_or part at 0 ≡ 0x57 → ⊥
unfolding closing item_command item_operands code_of
closing_head (need p) bs a e = omega (arith, at_head a)
closing_head (add p) bs a e = omega (arith, at_head a)
closing_head (delete p) bs a e = omega (arith, at_head a)
closing_head (condition c) bs a e = omega (arith, at_head a)
closing_head (effect f) bs a e = omega (arith, at_head a)

pub pass_start : {k : Ranges} {part : List ℕ} {at : ℕ} {rest : Block} → at < length part → Left k part at rest → Passed k part at 0 rest
pass_start {k} {part} {at} {rest} h l = go rest l.bytes l.items
  where
    go : (b : Block) → At part at (items_bytes b) → All (ItemOk paper k.form k.props k.vars) b → Passed k part at 0 b
    go [] a ok = absurd (unfold items_bytes in (omega (arith, at_length a)))
    go (i ∷ b) a ok =
        let w : At part at (term_bytes (terms_of i) ++ (closing i ++ items_bytes b)) = at_same a (first_parts i b) in
        record {
          item = i;
          others = b;
          is = refl;
          ok = ok.0;
          oks = ok.1;
          whole = w;
          ts = terms_of i;
          many = omega arith;
          bytes = at_place w (omega arith);
        }

-- the command of the item that is being passed stands within the part
pub pass_room : {k : Ranges} {part : List ℕ} {from n : ℕ} {rest : Block} → Passed k part from n rest → from + 4 * n < length part
pass_room p =
    omega (arith, at_length p.bytes, length-append (term_bytes p.ts) (closing p.item ++ items_bytes p.others), length-append (closing p.item) (items_bytes p.others), closing_long p.item)

-- where a term's command stands, a term is left
pub pass_more :
    {k : Ranges} {part : List ℕ} {from n : ℕ} {rest : Block} (p : Passed k part from n rest)
    → get_or part (from + 4 * n) 0 ≡ 0x57
    → 0 < length p.ts
pass_more {part} {from} {n} p e = go p.ts p.bytes
  where
    go : (ts : List Term) → At part (from + 4 * n) (term_bytes ts ++ (closing p.item ++ items_bytes p.others)) → 0 < length ts
    go [] a = absurd (unfold term_bytes in (closing_head p.item (items_bytes p.others) a e))
    go (t ∷ ts) a = omega arith

pub pass_step :
    {k : Ranges} {part : List ℕ} {from n : ℕ} {rest : Block}
    → Passed k part from n rest
    → get_or part (from + 4 * n) 0 ≡ 0x57
    → Passed k part from (n + 1) rest
pass_step {k} {part} {from} {n} {rest} p e = go p.ts p.many p.bytes
  where
    behind : List ℕ
    behind = closing p.item ++ items_bytes p.others

    go : (ts : List Term) → n + length ts ≡ length (terms_of p.item) → At part (from + 4 * n) (term_bytes ts ++ behind) → Passed k part from (n + 1) rest
    go [] m a = absurd (unfold term_bytes in (closing_head p.item (items_bytes p.others) a e))
    go (t ∷ ts) m a =
        record {
          item = p.item;
          others = p.others;
          is = p.is;
          ok = p.ok;
          oks = p.oks;
          whole = p.whole;
          ts = ts;
          many = omega arith;
          bytes = at_place (behind_term t ts behind a) (omega arith);
        }

pub pass_end :
    {k : Ranges} {part : List ℕ} {from n : ℕ} {rest : Block}
    → Passed k part from n rest
    → (get_or part (from + 4 * n) 0 ≡ 0x57 → ⊥)
    → Closed k part from n rest
pass_end {k} {part} {from} {n} {rest} p e = go p.ts p.many p.bytes
  where
    behind : List ℕ
    behind = closing p.item ++ items_bytes p.others

    go : (ts : List Term) → n + length ts ≡ length (terms_of p.item) → At part (from + 4 * n) (term_bytes ts ++ behind) → Closed k part from n rest
    go [] m a =
        record {
          item = p.item;
          others = p.others;
          by =
              record {
                is = p.is;
                ok = p.ok;
                oks = p.oks;
                whole = p.whole;
                many = omega arith;
                bytes = unfold term_bytes in a;
              };
        }
    go (t ∷ ts) m a = absurd (e (term_head t ts behind a))

-- the command that closes an item stands within the part
pub closed_room : {k : Ranges} {part : List ℕ} {from n : ℕ} {rest : Block} → Closed k part from n rest → from + 4 * n < length part
closed_room c = omega (arith, at_length c.by.bytes, length-append (closing c.item) (items_bytes c.others), closing_long c.item)

-- ---- the item that a command closes

-- a command with a proposition: `mk` is the kind of item that its code stands for
prop_followed :
    {k : Ranges} {part : List ℕ} {at : ℕ} {rest : Block} (mk : ℕ → Item) (code p q : ℕ) (others : Block)
    → rest ≡ mk p ∷ others
    → ItemOk paper k.form k.props k.vars (mk p)
    → All (ItemOk paper k.form k.props k.vars) others
    → At part at (code ∷ p ∷ items_bytes others)
    → q ≡ get_or part (at + 1) 0
    → Followed k part (at + 2) rest (mk q)
prop_followed {k} {part} {at} {rest} mk code p q others is ok oks a e =
    let f : Followed k part (at + 2) rest (mk p) =
    record {
      others = others;
      is = is;
      left = record { bytes = at_behind 2 (code ∷ p ∷ []) (items_bytes others) a refl; items = oks };
      ok = ok;
    } in
    subst (λ (x : ℕ). Followed k part (at + 2) rest (mk x)) (sym (e ∙ at_head (at_tail a))) f

-- a command that ends with a constant
constant_followed :
    {k : Ranges} {part : List ℕ} {at after : ℕ} {rest : Block} (i : Item) (z : ℤ) (others : Block)
    → rest ≡ i ∷ others
    → ItemOk paper k.form k.props k.vars i
    → All (ItemOk paper k.form k.props k.vars) others
    → At part at (signed_bytes 4 z ++ items_bytes others)
    → at + 4 ≡ after
    → Followed k part after rest i
constant_followed i z others is ok oks a e =
    record {
      others = others;
      is = is;
      left =
          record { bytes = at_place (at_behind 4 (signed_bytes 4 z) (items_bytes others) a (length_signed_bytes 4 z)) e; items = oks };
      ok = ok;
    }

-- the terms of the sum that it closes
terms_of_lem :
    {k : Ranges} {part : List ℕ} {from n : ℕ} {rest : Block} {i : Item} {others : Block}
    → ClosedBy k part from n rest i others
    → SumOk paper k.form k.vars (terms_of i)
    → Terms k part from n (terms_of i)
terms_of_lem {i} {others} c ok =
    record { after = closing i ++ items_bytes others; bytes = c.whole; many = c.many; ok = ok }

module _ {k : Ranges} {part : List ℕ} {from n : ℕ} {rest : Block} (closed : Closed k part from n rest) where
  pub found_need : (p : ℕ) → get_or part (from + 4 * n) 0 ≡ 0x50 → p ≡ get_or part (from + 4 * n + 1) 0 → Followed k part (from + 4 * n + 2) rest (need p)
  unfolding closing item_command item_operands code_of
  found_need p h e = go closed.item closed.by
    where
      go : (i : Item) → ClosedBy k part from n rest i closed.others → Followed k part (from + 4 * n + 2) rest (need p)
      go (need q) c = prop_followed need 0x50 q p closed.others c.is c.ok c.oks c.bytes e
      go (add q) c = absurd (omega (arith, at_head c.bytes))
      go (delete q) c = absurd (omega (arith, at_head c.bytes))
      go (condition q) c = absurd (omega (arith, at_head c.bytes))
      go (effect q) c = absurd (omega (arith, at_head c.bytes))

  pub found_add : (p : ℕ) → get_or part (from + 4 * n) 0 ≡ 0x2B → p ≡ get_or part (from + 4 * n + 1) 0 → Followed k part (from + 4 * n + 2) rest (add p)
  unfolding closing item_command item_operands code_of
  found_add p h e = go closed.item closed.by
    where
      go : (i : Item) → ClosedBy k part from n rest i closed.others → Followed k part (from + 4 * n + 2) rest (add p)
      go (need q) c = absurd (omega (arith, at_head c.bytes))
      go (add q) c = prop_followed add 0x2B q p closed.others c.is c.ok c.oks c.bytes e
      go (delete q) c = absurd (omega (arith, at_head c.bytes))
      go (condition q) c = absurd (omega (arith, at_head c.bytes))
      go (effect q) c = absurd (omega (arith, at_head c.bytes))

  pub found_delete : (p : ℕ) → get_or part (from + 4 * n) 0 ≡ 0x2D → p ≡ get_or part (from + 4 * n + 1) 0 → Followed k part (from + 4 * n + 2) rest (delete p)
  unfolding closing item_command item_operands code_of
  found_delete p h e = go closed.item closed.by
    where
      go : (i : Item) → ClosedBy k part from n rest i closed.others → Followed k part (from + 4 * n + 2) rest (delete p)
      go (need q) c = absurd (omega (arith, at_head c.bytes))
      go (add q) c = absurd (omega (arith, at_head c.bytes))
      go (delete q) c = prop_followed delete 0x2D q p closed.others c.is c.ok c.oks c.bytes e
      go (condition q) c = absurd (omega (arith, at_head c.bytes))
      go (effect q) c = absurd (omega (arith, at_head c.bytes))

  pub found_condition :
      (o : ℕ) (z : ℤ)
      → get_or part (from + 4 * n) 0 ≡ 0x43
      → o ≡ get_or part (from + 4 * n + 1) 0
      → z ≡ signed (take 4 (drop (from + 4 * n + 2) part))
      → ConditionFound k part o z from n (from + 4 * n + 6) rest
  unfolding closing item_command item_operands code_of terms_of half
  found_condition o z h e f = go closed.item closed.by
    where
      go : (i : Item) → ClosedBy k part from n rest i closed.others → ConditionFound k part o z from n (from + 4 * n + 6) rest
      go (need q) c = absurd (omega (arith, at_head c.bytes))
      go (add q) c = absurd (omega (arith, at_head c.bytes))
      go (delete q) c = absurd (omega (arith, at_head c.bytes))
      go (condition q) c =
          let code = comparison_code q.comparison in
          let small : nat_abs q.bound < half 4 = unfold half in (omega (arith, bound_small k.form q.bound c.ok.bound)) in
          let number = at_behind 2 (0x43 ∷ code ∷ []) (signed_bytes 4 q.bound ++ items_bytes closed.others) c.bytes refl in
          record {
            it = q;
            is =
                record {
                  comparison = sym (e ∙ at_head (at_tail c.bytes));
                  bound = sym (f ∙ at_signed 4 q.bound (items_bytes closed.others) number (omega arith) small);
                  terms = terms_of_lem c c.ok.sum;
                  ok = c.ok;
                };
            followed = constant_followed (condition q) q.bound closed.others c.is c.ok c.oks number (omega arith);
          }
      go (effect q) c = absurd (omega (arith, at_head c.bytes))

  -- the one command that is left
  pub found_effect :
      (kd v : ℕ) (z : ℤ)
      → (get_or part (from + 4 * n) 0 ≡ 0x50 → ⊥)
      → (get_or part (from + 4 * n) 0 ≡ 0x2B → ⊥)
      → (get_or part (from + 4 * n) 0 ≡ 0x2D → ⊥)
      → (get_or part (from + 4 * n) 0 ≡ 0x43 → ⊥)
      → kd ≡ get_or part (from + 4 * n + 1) 0
      → v ≡ get_or part (from + 4 * n + 2) 0
      → z ≡ signed (take 4 (drop (from + 4 * n + 3) part))
      → EffectFound k part kd v z from n (from + 4 * n + 7) rest
  unfolding closing item_command item_operands code_of terms_of half
  found_effect kd v z h1 h2 h3 h4 e g f = go closed.item closed.by
    where
      go : (i : Item) → ClosedBy k part from n rest i closed.others → EffectFound k part kd v z from n (from + 4 * n + 7) rest
      go (need q) c = absurd (h1 (at_head c.bytes))
      go (add q) c = absurd (h2 (at_head c.bytes))
      go (delete q) c = absurd (h3 (at_head c.bytes))
      go (condition q) c = absurd (h4 (at_head c.bytes))
      go (effect q) c =
          let code = kind_code q.kind in
          let small : nat_abs q.base < half 4 = unfold half in (omega (arith, base_small c.ok)) in
          let target = at_behind 2 (0x46 ∷ code ∷ []) (q.var ∷ signed_bytes 4 q.base ++ items_bytes closed.others) c.bytes refl in
          let number = at_behind 3 (0x46 ∷ code ∷ q.var ∷ []) (signed_bytes 4 q.base ++ items_bytes closed.others) c.bytes refl in
          record {
            it = q;
            var = sym (g ∙ at_head target);
            is =
                record {
                  kind = sym (e ∙ at_head (at_tail c.bytes));
                  base = sym (f ∙ at_signed 4 q.base (items_bytes closed.others) number (omega arith) small);
                  terms = terms_of_lem c c.ok.sum;
                  ok = c.ok;
                };
            followed = constant_followed (effect q) q.base closed.others c.is c.ok c.oks number (omega arith);
          }

  -- whose code is 46
  pub closes_effect :
      (get_or part (from + 4 * n) 0 ≡ 0x50 → ⊥)
      → (get_or part (from + 4 * n) 0 ≡ 0x2B → ⊥)
      → (get_or part (from + 4 * n) 0 ≡ 0x2D → ⊥)
      → (get_or part (from + 4 * n) 0 ≡ 0x43 → ⊥)
      → get_or part (from + 4 * n) 0 ≡ 0x46
  unfolding closing item_command item_operands code_of
  closes_effect h1 h2 h3 h4 = go closed.item closed.by
    where
      go : (i : Item) → ClosedBy k part from n rest i closed.others → get_or part (from + 4 * n) 0 ≡ 0x46
      go (need q) c = absurd (h1 (at_head c.bytes))
      go (add q) c = absurd (h2 (at_head c.bytes))
      go (delete q) c = absurd (h3 (at_head c.bytes))
      go (condition q) c = absurd (h4 (at_head c.bytes))
      go (effect q) c = at_head c.bytes
