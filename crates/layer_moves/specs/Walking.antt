-- The loop over a move's items: a whole block taken in, in every reading of its part.
-- Assumes nothing.
use Rattle.std.specs.Prelude.{ℕ, ◌≤◌, ◌<◌, ◌≡◌, Bool, true, ◌||◌, List, T, ℤ, length, set}
use Rattle.std.proofs.Common.{arith, sym, ap, ◌∙◌, subst, length-set}
use Rattle.std.proofs.Math.Path.{refl}
use Rattle.model.specs.Task.{normal, Item, need, add, delete, condition, Block, adds, effect_on}
use Rattle.model.specs.Layer.{Value, Layer, highest, offered}
use Rattle.model.specs.Theorems.Reading.WellFormed.{Once}
use Rattle.model.specs.Theorems.Layers.Order.{◌⊑◌}
use Rattle.layer_memory.specs.Arrays.{Truths, Values, effect_size}
use Rattle.layer_moves.specs.Raising.{IsRaised}
use Rattle.block.specs.Items.{Ranges, Left, left_end, Followed, EffectFound, Found, behind, Moves, Next}
use Rattle.block.specs.declared.ItemAt.{ItemAt}
use Rattle.block.specs.declared.ItemAt.TheVariants.{Need, Add, Delete, Condition as ConditionAt, Effect as EffectAt, End}
use Rattle.block.specs.Sums.{LayerRow}
use Rattle.layer_moves.specs.Applying.{Applying, inert, applying_start, applying_skip, applying_add, applying_effect, applying_truths, applying_values}

-- the items of a normal table's block stand there, over some layer
pub record Appliable (part : List ℕ) (row : List ℤ) (flags : List Bool) (next : List ℤ) : Type 0 where
  pub ranges : Ranges
  pub block : Block
  pub over : ℕ → Value
  pub left : Left ranges part 1 block
  pub row_is : LayerRow ranges.vars row over
  pub flags_room : ranges.props ≤ length flags
  pub next_room : ranges.vars ≤ length next

-- its propositions are added and its values taken in, in every reading
pub record Applied (part : List ℕ) (row : List ℤ) (flags : List Bool) (next : List ℤ) (flags' : List Bool) (next' : List ℤ) : Type 0 where
  pub same_flags : length flags' ≡ length flags
  pub same_next : length next' ≡ length next
  pub is :
      (k : Ranges) (b : Block) (l : Layer) (h : ℕ → Bool) (f : ℕ → Value)
      → k.form ≡ normal
      → Left k part 1 b
      → Once b
      → LayerRow k.vars row l.val
      → Truths k.props flags h
      → Values effect_size k.vars next f
      → ((v : ℕ) → l.val v ⊑ f v)
      → Truths k.props flags' (λ p. h p || adds p b) × Values effect_size k.vars next' (λ v. highest (f v) (offered l v (effect_on v b)))

-- the items that are left at an offset, in one reading
pub record LeftIn (k : Ranges) (part : List ℕ) (at : ℕ) : Type 0 where
  pub rest : Block
  pub left : Left k part at rest

-- the items before the offset are taken in, in every reading; some items are left there
pub record AppliedUpTo (part : List ℕ) (row : List ℤ) (flags : List Bool) (next : List ℤ) (at : ℕ) (flags' : List Bool) (next' : List ℤ) : Type 0 where
  pub same_flags : length flags' ≡ length flags
  pub same_next : length next' ≡ length next
  pub items : (k : Ranges) (b : Block) → Left k part 1 b → LeftIn k part at
  pub is :
      (k : Ranges) (b : Block) (l : Layer) (h : ℕ → Bool) (f : ℕ → Value)
      → k.form ≡ normal
      → Left k part 1 b
      → Once b
      → LayerRow k.vars row l.val
      → Truths k.props flags h
      → Values effect_size k.vars next f
      → ((v : ℕ) → l.val v ⊑ f v)
      → Applying k part l (λ p. h p || adds p b) (λ v. highest (f v) (offered l v (effect_on v b))) at flags' next'

-- what an item does to the two arrays
abbrev pub AppliesItem : List ℕ → List ℤ → List Bool → List ℤ → List Bool → List ℤ → ItemAt → Type 0
AppliesItem part row flags next flags' next' (Need p after) = (flags' ≡ flags) × (next' ≡ next)
AppliesItem part row flags next flags' next' (Add p after) = (flags' ≡ set flags p true) × (next' ≡ next)
AppliesItem part row flags next flags' next' (Delete p after) = (flags' ≡ flags) × (next' ≡ next)
AppliesItem part row flags next flags' next' (ConditionAt o z from n after) = (flags' ≡ flags) × (next' ≡ next)
AppliesItem part row flags next flags' next' (EffectAt kd v z from n after) = (flags' ≡ flags) × IsRaised part kd v z from n row next next'
AppliesItem part row flags next flags' next' End = (flags' ≡ flags) × (next' ≡ next)

-- an item that is passed over
record Skipped (k : Ranges) (part : List ℕ) (after : ℕ) (rest : Block) : Type 0 where
  pub item : Item
  pub followed : Followed k part after rest item
  pub quiet : T (inert item)

pub upto_start : {part : List ℕ} {row : List ℤ} {flags : List Bool} {next : List ℤ} → AppliedUpTo part row flags next 1 flags next
upto_start =
    record {
      same_flags = refl;
      same_next = refl;
      items = λ k b left. record { rest = b; left = left };
      is = λ k b l h f form left once row_is t v a. applying_start left once t v a;
    }

upto_same :
    {part : List ℕ} {row : List ℤ} {flags : List Bool} {next : List ℤ} {at : ℕ} {f g : List Bool} {n m : List ℤ}
    → g ≡ f
    → m ≡ n
    → AppliedUpTo part row flags next at f n
    → AppliedUpTo part row flags next at g m
upto_same {part} {row} {flags} {next} {at} {f} {m} e d w =
    subst (λ (x : List Bool). AppliedUpTo part row flags next at x m) (sym e)
    (subst (λ (x : List ℤ). AppliedUpTo part row flags next at f x) (sym d) w)

module _ {part : List ℕ} {row : List ℤ} {flags : List Bool} {next : List ℤ} {at : ℕ} {flags' : List Bool} {next' : List ℤ} (w : AppliedUpTo part row flags next at flags' next') where
  upto_skip : {after : ℕ} → ((k : Ranges) (rest : Block) → Left k part at rest → Skipped k part after rest) → AppliedUpTo part row flags next after flags' next'
  upto_skip found =
      record {
        same_flags = w.same_flags;
        same_next = w.same_next;
        items =
            λ k b left.
            let m = w.items k b left in
            let g = (found k m.rest m.left).followed in
            record { rest = g.others; left = g.left };
        is =
            λ k b l h f form left once row_is hs vs a.
            let p = w.is k b l h f form left once row_is hs vs a in
            let g = found k p.rest p.left in
            applying_skip p g.followed g.quiet;
      }

  upto_add : {after p : ℕ} → ((k : Ranges) (rest : Block) → Left k part at rest → Followed k part after rest (add p)) → AppliedUpTo part row flags next after (set flags' p true) next'
  upto_add {after} {p = q} found =
      record {
        same_flags = length-set flags' q true ∙ w.same_flags;
        same_next = w.same_next;
        items =
            λ k b left.
            let m = w.items k b left in
            let g = found k m.rest m.left in
            record { rest = g.others; left = g.left };
        is =
            λ k b l h f form left once row_is hs vs a.
            let p = w.is k b l h f form left once row_is hs vs a in
            applying_add p (found k p.rest p.left);
      }

  upto_effect :
      {kind v : ℕ} {c : ℤ} {from n after : ℕ} {next'' : List ℤ}
      → ((k : Ranges) (rest : Block) → Left k part at rest → EffectFound k part kind v c from n after rest)
      → IsRaised part kind v c from n row next' next''
      → AppliedUpTo part row flags next after flags' next''
  upto_effect {v} found r =
      record {
        same_flags = w.same_flags;
        same_next = ap length r.is ∙ length-set next' v r.worth ∙ w.same_next;
        items =
            λ k b left.
            let m = w.items k b left in
            let g = found k m.rest m.left in
            record { rest = g.followed.others; left = g.followed.left };
        is =
            λ k b l h f form left once row_is hs vs a.
            let p = w.is k b l h f form left once row_is hs vs a in
            applying_effect p (found k p.rest p.left) form row_is r;
      }

  -- one item more
  pub upto_next :
      {x : ItemAt} {flags'' : List Bool} {next'' : List ℤ}
      → at < length part
      → Next part at x
      → AppliesItem part row flags' next' flags'' next'' x
      → AppliedUpTo part row flags next (behind x) flags'' next''
  unfolding behind inert
  upto_next {x} {flags''} {next''} h n q = go x n.moves n.found q
    where
      go :
          (y : ItemAt)
          → Moves at (length part) y
          → ((k : Ranges) (rest : Block) → Left k part at rest → Found k part rest y)
          → AppliesItem part row flags' next' flags'' next'' y
          → AppliedUpTo part row flags next (behind y) flags'' next''
      go (Need p after) m found r =
          upto_same r.0 r.1 (upto_skip (λ k rest l. record { item = need p; followed = found k rest l; quiet = tt }))
      go (Add p after) m found r = upto_same r.0 r.1 (upto_add found)
      go (Delete p after) m found r =
          upto_same r.0 r.1 (upto_skip (λ k rest l. record { item = delete p; followed = found k rest l; quiet = tt }))
      go (ConditionAt o z from n after) m found r =
          upto_same r.0 r.1 (upto_skip (λ k rest l. record { item = condition (found k rest l).it; followed = (found k rest l).followed; quiet = tt }))
      go (EffectAt kd v z from n after) m found r =
          upto_same r.0 refl (upto_effect found r.1)
      go End m found r = absurd (omega arith)

  pub upto_end : length part ≤ at → Applied part row flags next flags' next'
  upto_end past =
      record {
        same_flags = w.same_flags;
        same_next = w.same_next;
        is =
            λ k b l h f form left once row_is hs vs a.
            let p = w.is k b l h f form left once row_is hs vs a in
            let e = left_end past p.left in
            (applying_truths p e, applying_values p e);
      }
