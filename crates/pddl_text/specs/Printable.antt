-- What the functions that write the PDDL text are given: an accepted table and an accepted state, so that there is room. Assumes nothing.
use Rattle.std.specs.Prelude.{ℕ, ◌+◌, ◌*◌, ◌≤◌, ◌≡◌}
use Rattle.std.proofs.Common.{arith, sym, ◌∙◌}
use Rattle.std.proofs.Math.Path.{ap, ap₂}
use mathlib.Core.List.{List, ◌++◌}
use Rattle.std.proofs.Math.Option.{none}
use Rattle.std.proofs.Math.ListN.{length}
use Rattle.model.specs.Limits.{paper}
use Rattle.model.specs.Task.{written, Block}
use Rattle.model.specs.Move.{State}
use Rattle.model.specs.StateTable.{state_of, state_refusal}
use Rattle.model.specs.Pddl.{task_text}
use Rattle.model.proofs.Theorems.Reading.States.{accepted_state}
use Rattle.model.proofs.Theorems.Pddl.Sizes.{accepted_size}
use Rattle.table.specs.Outlines.{HeadRead}
use Rattle.block.specs.Remaining.{Remaining}
use Rattle.reader.specs.Written.{read_task, Source, task_is, head_source, head_short}
use Rattle.output.specs.Writing.{Room}
use Rattle.pddl_text.specs.Documents.{action_row, domain_pieces, domain_pieces_lem, problem_pieces, problem_pieces_lem}

-- a block's items stand in the part, and there is room for its action
pub record ActionPrintable (part : List ℕ) (b at : ℕ) : Type 0 where
  pub block : Block
  pub remaining : Remaining part 1 block
  pub room : Room at (action_row b block)

-- an accepted table and an accepted state
pub record Printable (t marks : List ℕ) (props vars moves : ℕ) (bs : List ℕ) : Type 0 where
  pub read : HeadRead written t marks props vars moves
  pub state : state_refusal paper props vars bs ≡ none

module _ {t marks : List ℕ} {props vars moves : ℕ} (h : HeadRead written t marks props vars moves) where
  pub few_props : props ≤ 120
  unfolding paper
  few_props = omega (arith, h.props_is, h.outline.ok.props)

  pub few_vars : vars ≤ 16
  unfolding paper
  few_vars = omega (arith, h.vars_is, h.outline.ok.vars)

module _ {t marks : List ℕ} {props vars moves : ℕ} {bs : List ℕ} (p : Printable t marks props vars moves bs) where
  abbrev s : State
  s = state_of props bs

  pub source : Source t marks moves
  source = head_source p.read

  pub state_long : props + 4 * vars ≤ length bs
  state_long = omega (arith, (accepted_state paper props vars bs p.state).length_is)

  -- the whole text in its pieces
  pub text_pieces : domain_pieces (read_task t) props vars moves ++ problem_pieces s props vars (read_task t).goal ≡ task_text (read_task t) s
  unfolding task_text
  text_pieces =
      let h = p.read in
      let k = read_task t in
      let props_is : props ≡ k.props = rw (task_is h) h.props_is in
      let vars_is : vars ≡ k.vars = rw (task_is h) h.vars_is in
      let moves_is : moves ≡ length k.moves = source.count in
      ap₂ ◌++◌
      (ap₂ (λ (n m : ℕ). domain_pieces k n m moves) props_is vars_is ∙ ap (domain_pieces k k.props k.vars) moves_is ∙ domain_pieces_lem k)
      (ap₂ (λ (n m : ℕ). problem_pieces s n m k.goal) props_is vars_is ∙ problem_pieces_lem k s)

  -- ten bytes for each byte of the table and 10,000 more are enough for it
  pub text_size : length (task_text (read_task t) s) ≤ 10 * length t + 10_000
  text_size =
      let h = p.read in
      let k = h.table.task in
      let right : state_refusal paper k.props k.vars bs ≡ none = ap₂ (λ (n m : ℕ). state_refusal paper n m bs) (sym h.props_is) (sym h.vars_is) ∙ p.state in
      rw (task_is h, h.props_is) (accepted_size t bs h.is right)

  pub text_room : Room 0 (task_text (read_task t) s)
  text_room = record { short = omega (arith, text_size, head_short p.read) }
