-- The reading as the code keeps it: the cursor, what holds of its numbers, and all checks of one command over them.
-- Assumes nothing.
use Prim.Native.Nat.{ℕ, zero, suc, ◌+◌, ◌*◌, ◌-◌, ◌≤◌, ◌<◌}
use Rattle.std.specs.Prelude.{◌≡◌, Bool, true, false, ◌||◌, not, List, [], ◌∷◌, eqb, leb, ltb, length, get_or, Result, Ok, Err}
use Rattle.std.proofs.Math.Option.{Option, none, some}
use Rattle.model.specs.Limits.{paper}
use Rattle.model.specs.declared.Refusal.{Refusal}
use Rattle.model.specs.Command.{Command, head, open_move, open_goal, end_table, need_prop, add_prop, delete_prop, term, close_condition, close_effect, unknown, width, in_place}
use Rattle.model.specs.Reading as reading
use Rattle.model.specs.Reading.{refused_at, first_refusal}
use Rattle.cursor.specs.declared.Cursor.{Cursor}
use Rattle.command.specs.declared.Place.{Place}
use Rattle.command.specs.declared.Place.TheVariants.{Start, Preamble, InMove, InGoal, Finished}
use Rattle.command.specs.declared.Form.{Form}
use Rattle.command.specs.declared.Form.TheVariants as form
use Rattle.command.specs.Names.{form_of, place_of}
use Rattle.command.specs.Checks.{misplaced, miscounted, closes_idle}
use Rattle.operand.specs.Ranges.{wrong_operand}

-- ---- the cursor before the first command, and behind each

unfoldable pub start_cursor : Cursor
start_cursor =
    record {
      at = 0;
      place = Start;
      form = form.Written;
      active = false;
      props = 0;
      vars = 0;
      moves = 0;
      opened = 0;
      terms = 0;
      next = 0;
      marked = 0;
      stamp = 1;
    }

unfoldable pub head_cursor : Cursor → Form → ℕ → ℕ → ℕ → Cursor
head_cursor c f props vars moves =
    record {
      at = c.at + width (head (form_of f));
      place = Preamble;
      form = f;
      active = false;
      props = props;
      vars = vars;
      moves = moves;
      opened = 0;
      terms = 0;
      next = 0;
      marked = 0;
      stamp = c.stamp;
    }

unfoldable pub mark_cursor : Cursor → Place → ℕ → ℕ → Cursor
mark_cursor c p opened stamp =
    record {
      at = c.at + 1;
      place = p;
      form = c.form;
      active = false;
      props = c.props;
      vars = c.vars;
      moves = c.moves;
      opened = opened;
      terms = 0;
      next = 0;
      marked = c.marked + 1;
      stamp = stamp;
    }

unfoldable pub term_cursor : Cursor → ℕ → Cursor
term_cursor c var =
    record {
      at = c.at + width term;
      place = c.place;
      form = c.form;
      active = c.active;
      props = c.props;
      vars = c.vars;
      moves = c.moves;
      opened = c.opened;
      terms = c.terms + 1;
      next = var + 1;
      marked = c.marked;
      stamp = c.stamp;
    }

unfoldable pub item_cursor : Cursor → ℕ → Bool → Cursor
item_cursor c n active =
    record {
      at = c.at + n;
      place = c.place;
      form = c.form;
      active = active;
      props = c.props;
      vars = c.vars;
      moves = c.moves;
      opened = c.opened;
      terms = 0;
      next = 0;
      marked = c.marked;
      stamp = c.stamp;
    }

-- ---- what holds of its numbers
-- blocks marked, by the place
abbrev pub Stage : Place → ℕ → ℕ → ℕ → Type 0
Stage Start opened moves marked = (marked ≡ opened) × (opened ≤ moves)
Stage Preamble opened moves marked = (marked ≡ opened) × (opened ≤ moves)
Stage InMove opened moves marked = (marked ≡ opened) × (opened ≤ moves)
Stage InGoal opened moves marked = (marked ≡ opened + 1) × (opened ≡ moves)
Stage Finished opened moves marked = (marked ≡ opened + 2) × (opened ≡ moves)

-- where the variable of open term i stands
abbrev pub source_at : Cursor → ℕ → ℕ
source_at c i = c.at - 4 * c.terms + 4 * i + 1

pub record Valid (t : List ℕ) (c : Cursor) : Type 0 where
  pub inside : c.at ≤ length t
  pub props : c.props ≤ 120
  pub vars : c.vars ≤ 32
  pub moves : c.moves ≤ 64
  pub stage : Stage c.place c.opened c.moves c.marked
  pub few : c.terms ≤ 8
  pub behind : 4 * c.terms ≤ c.at
  pub sources : (i : ℕ) → i < c.terms → get_or t (source_at c i) 0 < 32
  pub numbered : 1 ≤ c.stamp
  pub blocks : c.stamp ≤ c.at + 1

-- ---- all checks
-- check 5, by the block that named each proposition and variable last
unfoldable pub repeated : List ℕ → Cursor → List ℕ → List ℕ → List ℕ → Command → Bool
repeated t c needed changed affected (head f) = false
repeated t c needed changed affected open_move = false
repeated t c needed changed affected open_goal = false
repeated t c needed changed affected end_table = false
repeated t c needed changed affected need_prop = eqb (get_or needed (get_or t (c.at + 1) 0) 0) c.stamp
repeated t c needed changed affected add_prop = eqb (get_or changed (get_or t (c.at + 1) 0) 0) c.stamp
repeated t c needed changed affected delete_prop = eqb (get_or changed (get_or t (c.at + 1) 0) 0) c.stamp
repeated t c needed changed affected term = not (leb c.next (get_or t (c.at + 1) 0)) || leb paper.terms c.terms
repeated t c needed changed affected close_condition = false
repeated t c needed changed affected close_effect = eqb (get_or affected (get_or t (c.at + 2) 0) 0) c.stamp
repeated t c needed changed affected unknown = false

unfoldable pub wrong_at : List ℕ → Cursor → Command → ℕ
wrong_at t c k = wrong_operand t c.at (form_of c.form) c.props c.vars k

-- 4 stands at the operand
unfoldable pub refused_offset : ℕ → ℕ → Option Refusal
refused_offset p zero = none
refused_offset p (suc o) = some (record { number = 4; place = p + suc o })

-- "each command, in this order": 3, 2, 6, 4, 5, with 16 "checked after 6"
unfoldable pub in_order : ℕ → Bool → Bool → Bool → Bool → ℕ → Bool → Option Refusal
in_order p a b d i o e =
    first_refusal
    (refused_at 3 a p ∷ refused_at 2 b p ∷ refused_at 6 d p ∷ refused_at 16 i p ∷ refused_offset p o ∷ refused_at 5 e p ∷ [])

unfoldable pub cursor_refusal : reading.Wanted → List ℕ → Cursor → List ℕ → List ℕ → List ℕ → Command → Option Refusal
cursor_refusal w t c needed changed affected k =
    in_order c.at (misplaced w (place_of c.place) c.terms k) (ltb (length t) (c.at + width k))
    (miscounted c.moves c.opened k) (closes_idle w (place_of c.place) c.active k)
    (wrong_at t c k) (repeated t c needed changed affected k)

unfoldable pub check_of : Option Refusal → Result Unit Refusal
check_of none = Ok tt
check_of (some r) = Err r

-- what the checks that pass say
pub record Passed (t : List ℕ) (c : Cursor) (needed changed affected : List ℕ) (k : Command) : Type 0 where
  pub placed : in_place (place_of c.place) k ≡ true
  pub uncut : c.at + width k ≤ length t
  pub counted : miscounted c.moves c.opened k ≡ false
  pub ranged : wrong_at t c k ≡ 0
  pub fresh : repeated t c needed changed affected k ≡ false
