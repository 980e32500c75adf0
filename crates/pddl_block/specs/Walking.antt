-- A walk over the items of a block that writes the text of each: `text` is what a block says, item by item. Assumes nothing.
use Rattle.std.specs.Prelude.{ℕ, ◌≤◌, ◌<◌, ◌≡◌, List, [], ◌++◌, length}
use Rattle.std.proofs.Common.{ap, ◌∙◌, MutBor}
use Rattle.model.specs.Task.{Block}
use Rattle.block.specs.Items.{behind, Next}
use Rattle.block.specs.Remaining.{items_of, Writable, Remaining, remaining_none, FirstItem, first_item}
use Rattle.block.specs.declared.ItemAt.{ItemAt}
use Rattle.output.specs.Writing.{Written, Room, Writing, writing_start, writing_rest, writing_room, writing_step, writing_end}

-- the block's items stand in the part, and there is room for their text from `start` on
pub record Printable (text : Block → List ℕ) (part : List ℕ) (start : ℕ) : Type 0 where
  pub block : Block
  pub remaining : Remaining part 1 block
  pub room : Room start (text block)

-- `text` is what a call writes of each item, by what follows of the call
pub record Puts (post : ItemAt → MutBor (List ℕ) → ℕ → ℕ → MutBor (List ℕ) → Type 0) (part : List ℕ) (text : Block → List ℕ) : Type 0 where
  pub none : text [] ≡ []
  pub append : (b d : Block) → text (b ++ d) ≡ text b ++ text d
  pub writes : (i : ItemAt) (out : MutBor (List ℕ)) (at next : ℕ) (after : MutBor (List ℕ)) → post i out at next after → Written out.now at (text (items_of part i)) after.now next

-- and the call may be made of each item of the block, where there is room for what it writes
pub record ItemsPrintable
    (pre : ItemAt → MutBor (List ℕ) → ℕ → Type 0)
    (post : ItemAt → MutBor (List ℕ) → ℕ → ℕ → MutBor (List ℕ) → Type 0)
    (part : List ℕ)
    (start : ℕ)
    : Type 0 where
  pub text : Block → List ℕ
  pub puts : Puts post part text
  pub may : (i : ItemAt) (out : MutBor (List ℕ)) (at : ℕ) → Writable part i → Room at (text (items_of part i)) → pre i out at
  pub printable : Printable text part start

module _ (text : Block → List ℕ) where
  -- the items before `at` are written
  pub record ItemsWriting (part : List ℕ) (b : Block) (at : ℕ) (old : List ℕ) (start : ℕ) (new : List ℕ) (to : ℕ) : Type 0 where
    pub rest : Block
    pub remaining : Remaining part at rest
    pub writing : Writing old start (text b) new to (text rest)

  pub items_start : {part : List ℕ} {b : Block} (old : List ℕ) (start : ℕ) → Remaining part 1 b → ItemsWriting part b 1 old start old start
  items_start {b} old start r = record { rest = b; remaining = r; writing = writing_start old start (text b) }

  module _ (append : (b d : Block) → text (b ++ d) ≡ text b ++ text d) {part : List ℕ} {b : Block} {at : ℕ} {old : List ℕ} {start : ℕ} {new : List ℕ} {to : ℕ} (p : ItemsWriting part b at old start new to) where
    pub items_first : at < length part → {i : ItemAt} → Next part at i → FirstItem part i p.rest
    items_first h {i} n = first_item p.remaining h i n

    first_text : {i : ItemAt} (f : FirstItem part i p.rest) → text p.rest ≡ text (items_of part i) ++ text f.others
    first_text {i} f = ap text f.is ∙ append (items_of part i) f.others

    -- there is room for the next
    pub items_room : at < length part → {i : ItemAt} → Next part at i → Room start (text b) → Room to (text (items_of part i))
    items_room h {i} n r =
        let f = items_first h n in
        writing_room (text (items_of part i)) (text f.others) (writing_rest p.writing (first_text f)) r

    pub items_step :
        at < length part
        → {i : ItemAt}
        → Next part at i
        → {next : List ℕ} {on after : ℕ}
        → Written new to (text (items_of part i)) next on
        → after ≡ behind i
        → ItemsWriting part b after old start next on
    items_step h {i} n w e =
        let f = items_first h n in
        record {
          rest = f.others;
          remaining = rw e f.left;
          writing = writing_step (writing_rest p.writing (first_text f)) w;
        }

    pub items_end : text [] ≡ [] → length part ≤ at → Written old start (text b) new to
    items_end none h = writing_end (writing_rest p.writing (ap text (remaining_none h p.remaining) ∙ none))
