-- What has been read of a table so far, and what each command adds to it. Assumes nothing.
use Rattle.std.specs.Prelude.{ℕ, zero, suc, ◌+◌, List, [], ◌∷◌, ◌++◌, ℤ, get_or, take, drop}
use Rattle.std.proofs.Math.Option.{Option, none, some}
use Rattle.integer.specs.BigEndian.{signed}
use Rattle.model.specs.Task.{Form, written, Term, Comparison, at_least, above, at_most, below, equal, Kind, assign, increase, decrease, Item, need, add, delete, condition, effect, Block}
use Rattle.model.specs.Command.{Command, head, open_move, open_goal, end_table, need_prop, add_prop, delete_prop, term, close_condition, close_effect, unknown, width, Place, start, preamble, in_move, in_goal, finished}

-- "the head's kind and its three counts"
pub record Head : Type 0 where
  pub form : Form
  pub props : ℕ
  pub vars : ℕ
  pub moves : ℕ

-- what has been read so far: the offset of the next command, the head, the closed moves, and of the block that stands open
-- its items and the terms that no condition or effect has closed yet
pub record Seen : Type 0 where
  pub at : ℕ
  pub place : Place
  pub header : Head
  pub moves : List Block
  pub items : Block
  pub terms : List Term
  pub marks : List ℕ

unfoldable pub nothing_seen : Seen
nothing_seen =
    record {
      at = 0;
      place = start;
      header = record { form = written; props = 0; vars = 0; moves = 0 };
      moves = [];
      items = [];
      terms = [];
      marks = [];
    }

-- ---- operands

-- the byte i after the command, and the signed number of w bytes there
unfoldable pub byte_after : List ℕ → Seen → ℕ → ℕ
byte_after t s i = get_or t (s.at + i) 0

unfoldable pub number_after : ℕ → List ℕ → Seen → ℕ → ℤ
number_after w t s i = signed (take w (drop (s.at + i) t))

unfoldable pub comparison_of : ℕ → Comparison
comparison_of zero = at_least
comparison_of (suc zero) = above
comparison_of (suc (suc zero)) = at_most
comparison_of (suc (suc (suc zero))) = below
comparison_of (suc (suc (suc (suc n)))) = equal

unfoldable pub kind_of : ℕ → Kind
kind_of zero = assign
kind_of (suc zero) = increase
kind_of (suc (suc n)) = decrease

unfoldable pub term_at : List ℕ → Seen → Term
term_at t s = record { var = byte_after t s 1; weight = number_after 2 t s 2 }

-- the item that a command completes
unfoldable pub item_at : List ℕ → Seen → Command → Option Item
item_at t s (head f) = none
item_at t s open_move = none
item_at t s open_goal = none
item_at t s end_table = none
item_at t s need_prop = some (need (byte_after t s 1))
item_at t s add_prop = some (add (byte_after t s 1))
item_at t s delete_prop = some (delete (byte_after t s 1))
item_at t s term = none
item_at t s close_condition =
    some
    (condition
    (record { terms = s.terms; comparison = comparison_of (byte_after t s 1); bound = number_after 4 t s 2 }))
item_at t s close_effect =
    some
    (effect
    (record {
      kind = kind_of (byte_after t s 1);
      var = byte_after t s 2;
      terms = s.terms;
      base = number_after 4 t s 3;
    }))
item_at t s unknown = none

-- ---- past a command

-- the moves that stand closed when the next block opens
unfoldable pub closed : Place → List Block → Block → List Block
closed start ms b = ms
closed preamble ms b = ms
closed in_move ms b = ms ++ (b ∷ [])
closed in_goal ms b = ms
closed finished ms b = ms

-- what has been seen once the command is read
unfoldable pub with_head : List ℕ → Seen → Form → Seen
with_head t s f =
    record {
      at = s.at + width (head f);
      place = preamble;
      header =
          record { form = f; props = byte_after t s 1; vars = byte_after t s 2; moves = byte_after t s 3 };
      moves = [];
      items = [];
      terms = [];
      marks = [];
    }

unfoldable pub with_mark : Seen → Place → List Block → Block → Seen
with_mark s p ms b =
    record {
      at = s.at + 1;
      place = p;
      header = s.header;
      moves = ms;
      items = b;
      terms = [];
      marks = s.marks ++ (s.at ∷ []);
    }

unfoldable pub with_term : Seen → Term → Seen
with_term s u =
    record {
      at = s.at + width term;
      place = s.place;
      header = s.header;
      moves = s.moves;
      items = s.items;
      terms = s.terms ++ (u ∷ []);
      marks = s.marks;
    }

unfoldable pub with_item : Seen → ℕ → Option Item → Seen
with_item s n none = s
with_item s n (some i) =
    record {
      at = s.at + n;
      place = s.place;
      header = s.header;
      moves = s.moves;
      items = s.items ++ (i ∷ []);
      terms = [];
      marks = s.marks;
    }

unfoldable pub advance : List ℕ → Seen → Command → Seen
advance t s (head f) = with_head t s f
advance t s open_move = with_mark s in_move (closed s.place s.moves s.items) []
advance t s open_goal = with_mark s in_goal (closed s.place s.moves s.items) []
advance t s end_table = with_mark s finished s.moves s.items
advance t s need_prop = with_item s (width need_prop) (item_at t s need_prop)
advance t s add_prop = with_item s (width add_prop) (item_at t s add_prop)
advance t s delete_prop = with_item s (width delete_prop) (item_at t s delete_prop)
advance t s term = with_term s (term_at t s)
advance t s close_condition = with_item s (width close_condition) (item_at t s close_condition)
advance t s close_effect = with_item s (width close_effect) (item_at t s close_effect)
advance t s unknown = s
