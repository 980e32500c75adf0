-- `copy` meets its contract. The invariant: the first `i` bytes are copied. Assumes nothing.
use Rattle.std.specs.Prelude.{ℕ, ◌≡◌, List, get_or, set, take}
use Rattle.std.proofs.Common.{ap, sym, ◌∙◌, arith, zero-add}
use Rattle.std.proofs.lemmas.List.{take_min}
use Rattle.integer.specs.Store.{put, put_nil, put_more}
use Rattle.integer.proofs.copy.Goals as goal

pub loop-i-init : goal.loop-i-init
loop-i-init c = sym (put_nil c.args.out.now 0)

pub loop-i-preserved : goal.loop-i-preserved
loop-i-preserved c =
    let a = c.args in
    let i = c.loop-i.i in
    ap (λ (l : List ℕ). set l i (get_or a.from.now i 0)) c.loop-i.invariant
    ∙ rw zero-add at (put_more a.out.now 0 a.from.now i (omega arith) (omega arith))

pub returns : goal.returns
returns c =
    let a = c.args in
    let all : c.loop-i.i ≡ c.min-n.result = omega arith in
    c.loop-i.invariant
    ∙ ap (λ (k : ℕ). put a.out.now 0 (take k a.from.now)) (all ∙ c.min-n.ensures)
    ∙ ap (put a.out.now 0) (take_min _ a.from.now)
