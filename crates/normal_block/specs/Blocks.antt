-- The items of a written block, one after the other, and the bytes of their normal form.
-- Assumes nothing.
use Rattle.std.specs.Prelude.{ℕ, ◌+◌, ◌≤◌, ◌<◌, ◌≡◌, refl, List, [], ◌∷◌, ◌++◌, length}
use Rattle.std.proofs.Common.{arith, ap, ◌∙◌}
use Rattle.model.specs.Task.{Block}
use Rattle.model.specs.Command.{code_of, need_prop, add_prop, delete_prop, item_bytes, items_bytes}
use Rattle.model.specs.Seen.{comparison_of, kind_of}
use Rattle.model.specs.NormalForm.{normal_condition, normal_effect, normal_item, normal_block}
use Rattle.block.specs.Items.{behind, Next}
use Rattle.block.specs.Terms.{terms_at}
use Rattle.block.specs.Remaining.{items_of, Remaining, remaining_none, FirstItem, first_item}
use Rattle.block.specs.declared.ItemAt.{ItemAt}
use Rattle.block.specs.declared.ItemAt.TheVariants.{Need, Add, Delete, Condition as ConditionAt, Effect as EffectAt, End}
use Rattle.output.specs.Writing.{Written, Writing, writing_start, writing_rest, writing_behind, writing_step, writing_end}
use Rattle.normal_condition.specs.Conditions.{items_append}
use Rattle.normal_block.specs.Effects.{effect_print, effect_print_lem}

-- ---- an item as it stands in a part

-- the bytes of its normal form
unfoldable pub print_of : List ℕ → ItemAt → List ℕ
print_of part (Need p next) = code_of need_prop ∷ p ∷ []
print_of part (Add p next) = code_of add_prop ∷ p ∷ []
print_of part (Delete p next) = code_of delete_prop ∷ p ∷ []
print_of part (ConditionAt o c from n next) = items_bytes (normal_condition (comparison_of o) (terms_at part from n) c)
print_of part (EffectAt kd v c from n next) = effect_print (kind_of kd) v (terms_at part from n) c
print_of part End = []

-- ---- the items that are left of a written block

-- the bytes of the normal form of a block's items
unfoldable pub block_print : Block → List ℕ
block_print b = items_bytes (normal_block b)

-- the first of them, and the others
print_first : (part : List ℕ) (i : ItemAt) (others : Block) → block_print (items_of part i ++ others) ≡ print_of part i ++ block_print others
unfolding block_print normal_block normal_item items_bytes item_bytes items_of print_of
print_first part (Need p next) others = refl
print_first part (Add p next) others = refl
print_first part (Delete p next) others = refl
print_first part (ConditionAt o c from n next) others =
    items_append (normal_condition (comparison_of o) (terms_at part from n) c) (normal_block others)
print_first part (EffectAt kd v c from n next) others =
    items_append (normal_effect (kind_of kd) v (terms_at part from n) c) (normal_block others)
    ∙ ap (λ (l : List ℕ). l ++ block_print others) (effect_print_lem (kind_of kd) v (terms_at part from n) c)
print_first part End others = refl

pub first_bytes : {part : List ℕ} {i : ItemAt} {rest : Block} (f : FirstItem part i rest) → block_print rest ≡ print_of part i ++ block_print f.others
first_bytes {part} {i} f = ap block_print f.is ∙ print_first part i f.others

-- at the end nothing is left
pub remaining_end : {part : List ℕ} {at : ℕ} {rest : Block} → length part ≤ at → Remaining part at rest → block_print rest ≡ []
unfolding block_print normal_block items_bytes
remaining_end h r = ap block_print (remaining_none h r)

-- ---- a block's items one by one

-- its items stand in the part, and their normal form from `start` on ends within "normal 64,000 bytes at most"
pub record Printable (part : List ℕ) (start : ℕ) : Type 0 where
  pub block : Block
  pub remaining : Remaining part 1 block
  pub short : start + length (block_print block) ≤ 64_000

-- the items before `at` are written
pub record ItemsWriting (part : List ℕ) (b : Block) (at : ℕ) (old : List ℕ) (start : ℕ) (new : List ℕ) (to : ℕ) : Type 0 where
  pub rest : Block
  pub remaining : Remaining part at rest
  pub writing : Writing old start (block_print b) new to (block_print rest)

pub items_start :
    {part : List ℕ} {b : Block} (old : List ℕ) (start : ℕ)
    → Remaining part 1 b
    → ItemsWriting part b 1 old start old start
items_start {b} old start r = record { rest = b; remaining = r; writing = writing_start old start (block_print b) }

module _ {part : List ℕ} {b : Block} {at : ℕ} {old : List ℕ} {start : ℕ} {new : List ℕ} {to : ℕ} (p : ItemsWriting part b at old start new to) where
  pub items_split : at < length part → {i : ItemAt} → Next part at i → FirstItem part i p.rest
  items_split h {i} n = first_item p.remaining h i n

  pub items_short : start + length (block_print b) ≤ 64_000 → to ≤ 64_000
  items_short h = omega (arith, writing_behind p.writing)

  pub items_step :
      at < length part
      → {i : ItemAt}
      → Next part at i
      → {next : List ℕ} {on after : ℕ}
      → Written new to (print_of part i) next on
      → after ≡ behind i
      → ItemsWriting part b after old start next on
  items_step h {i} n q e =
      let s = items_split h n in
      record {
        rest = s.others;
        remaining = rw e s.left;
        writing = writing_step (writing_rest p.writing (first_bytes s)) q;
      }

  pub items_end : length part ≤ at → Written old start (block_print b) new to
  items_end h = writing_end (writing_rest p.writing (remaining_end h p.remaining))
