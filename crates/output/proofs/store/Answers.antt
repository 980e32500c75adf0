-- `store` meets its contract. The invariant: the first `i` bytes are stored. Assumes nothing.
use Rattle.std.specs.Prelude.{ℕ, ◌+◌, List, get_or, set, refl}
use Rattle.std.proofs.Common.{ap, sym, ◌∙◌, arith}
use Rattle.std.proofs.lemmas.List.{take_all}
use Rattle.integer.specs.Store.{put, put_nil, put_more}
use Rattle.output.specs.Writing.{written_not, written_whole}
use Rattle.output.proofs.store.Goals as goal

pub returns-then-out-next : goal.returns-then-out-next
returns-then-out-next c = written_not _ (omega arith) (omega arith)

pub loop-i-init : goal.loop-i-init
loop-i-init c = sym (put_nil c.args.out.now c.args.at)

pub loop-i-preserved : goal.loop-i-preserved
loop-i-preserved c =
    let a = c.args in
    let i = c.loop-i.i in
    ap (λ (l : List ℕ). set l (a.at + i) (get_or a.word.now i 0)) c.loop-i.invariant
    ∙ put_more a.out.now a.at a.word.now i (omega arith) (omega arith)

pub returns : goal.returns
returns c =
    let a = c.args in
    let all = take_all c.loop-i.i a.word.now (omega arith) in
    written_whole (omega arith) (c.loop-i.invariant ∙ ap (put a.out.now a.at) all) refl
