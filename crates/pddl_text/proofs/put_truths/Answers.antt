-- `put_truths` meets its contract, proposition by proposition, by its byte. Assumes nothing.
use Rattle.std.proofs.Common.{ℕ, List, ◌≡◌, ◌<◌, sym, ◌∙◌, arith, length, get_or, take}
use Rattle.std.proofs.lemmas.List.{length-take, get_or-take}
use Rattle.model.specs.Ascii.{ascii}
use Rattle.model.specs.StateTable.{state_of}
use Rattle.output.specs.Writing.{written_same, written_none, room_same}
use Rattle.pddl_sum.specs.Names.{each_start, each_room, each_step, each_end}
use Rattle.pddl_text.specs.Documents.{truth_row, true_row, false_row}
use Rattle.pddl_text.proofs.put_truths.Goals as goal
use Rattle.pddl_text.proofs.put_truths.Goals.{then-truth-eq1, else-truth-eq1}

-- the byte that the loop reads is that of proposition p
module _ (bs : List ℕ) (props : ℕ) {p : ℕ} (inside : p < length (take props bs)) where
  below : p < props
  below = omega (arith, length-take props bs)

  byte_read : get_or bs p 0 ≡ get_or (take props bs) p 0
  byte_read = sym (get_or-take props bs p 0 below)

pub loop-p-init : goal.loop-p-init
loop-p-init c = let a = c.args in each_start (truth_row (state_of a.props a.state.now)) a.props a.out.now a.at

pub put_name-to-requires : goal.put_name-to-requires
unfolding ascii
put_name-to-requires c =
    let bs = c.args.state.now in
    let n = c.args.props in
    let h = c.loop-p-test.true in
    room_same (each_room c.loop-p.invariant (below bs n h) c.requires.1) (true_row n bs c.loop-p.p (byte_read bs n h ∙ c.if-truth-eq1.true))

pub loop-p-preserved : goal.loop-p-preserved
unfolding ascii
loop-p-preserved c =
    let bs = c.args.state.now in
    let n = c.args.props in
    let h = c.loop-p-test.true in
    let l = c.loop-p in
    elim c.if-truth-eq1.branch [
      | then-truth-eq1 w ↦
          rw (w.out-is, w.to-is)
          (each_step l.invariant (below bs n h) (written_same w.put_name-to.ensures (sym (true_row n bs l.p (byte_read bs n h ∙ w.if-truth-eq1.true)))))
      | else-truth-eq1 w ↦
          rw (w.out-is, w.to-is)
          (each_step l.invariant (below bs n h)
          (written_same (written_none l.out l.to) (sym (false_row n bs l.p (λ e. w.if-truth-eq1.false (sym (byte_read bs n h) ∙ e))))))
    ]

pub returns : goal.returns
returns c = each_end c.loop-p.invariant (omega (arith, length-take c.args.props c.args.state.now, c.requires.0))
