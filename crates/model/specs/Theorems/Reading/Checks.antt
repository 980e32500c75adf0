-- What the checks of a command say once they are passed (document 01, "Where a call turns back"): where the command stands, its
-- operands' ranges, and that it names nothing again. Assumes nothing.
use Rattle.std.specs.Prelude.{ℕ, ◌≤◌}
use Rattle.std.proofs.Math.Bool.{not}
use mathlib.Core.List.{List}
use Rattle.std.proofs.Math.Dec.{T}
use Rattle.model.specs.Limits.{Limits}
use Rattle.model.specs.Lists.{any}
use Rattle.model.specs.Task.{Item, Condition, Effect, clashes}
use Rattle.model.specs.Command.{head, Place, start, preamble, in_move, in_goal, finished}
use Rattle.model.specs.Seen.{Head, Seen, byte_after, number_after, comparison_of, kind_of}
use Rattle.model.specs.Reading.{Wanted, head_wanted}
use Rattle.model.specs.Theorems.Reading.WellFormed.{ItemOk, GoalItem, VarsOk}

-- ---- head: a kind that the call wants, with counts in range
pub record HeadOk (L : Limits) (w : Wanted) (h : Head) : Type 0 where
  pub wanted : T (head_wanted w (head h.form))
  pub props : h.props ≤ L.props
  pub vars : VarsOk L h.form h.vars
  pub moves : h.moves ≤ L.moves

-- ---- items: in a move, or in the goal as a condition
abbrev pub InBlock : Place → Item → Type 0
InBlock start i = ⊥
InBlock preamble i = ⊥
InBlock in_move i = Unit {0}
InBlock in_goal i = GoalItem i
InBlock finished i = ⊥

-- where a block opens: behind the head, or behind a move
abbrev pub Between : Place → Type 0
Between start = ⊥
Between preamble = Unit {0}
Between in_move = Unit {0}
Between in_goal = ⊥
Between finished = ⊥

-- an item that a command completes: it may stand in its block, its operands are in range, and nothing is named again
pub record ItemRead (L : Limits) (s : Seen) (i : Item) : Type 0 where
  pub in_block : InBlock s.place i
  pub ok : ItemOk L s.header.form s.header.props s.header.vars i
  pub fresh : T (not (any (λ j. clashes j i) s.items))

-- the condition and the effect that 43 and 46 complete
abbrev pub condition_at : List ℕ → Seen → Condition
condition_at t s = record { terms = s.terms; comparison = comparison_of (byte_after t s 1); bound = number_after 4 t s 2 }

abbrev pub effect_at : List ℕ → Seen → Effect
effect_at t s =
    record { kind = kind_of (byte_after t s 1); var = byte_after t s 2; terms = s.terms; base = number_after 4 t s 3 }
