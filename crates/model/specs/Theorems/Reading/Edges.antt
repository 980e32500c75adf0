-- An edge means the plain thing: a := effect on v of some move has a term on u in its sum, and the term's weight is not 0. With
-- `Circles.no_circle_lem` this is all that refusal 7 looks at. Assumes nothing.
use Rattle.std.specs.Prelude.{ℕ, ◌<◌, ◌≡◌, nat_abs}
use Rattle.model.specs.Lists.{In}
use Rattle.model.specs.Task.{Term, assign, Effect, effect, Block, Task}

-- "Draw an edge from u to v if u is in the sum of a := effect on v"; of weight 0, "It makes no := edge"
pub record Drawn (k : Task) (u v : ℕ) : Type 0 where
  pub move : Block
  pub in_task : In move k.moves
  pub assignment : Effect
  pub in_move : In (effect assignment) move
  pub kind : assignment.kind ≡ assign
  pub target : assignment.var ≡ v
  pub term : Term
  pub in_sum : In term assignment.terms
  pub source : term.var ≡ u
  pub weighs : 0 < nat_abs term.weight
