-- `put_refusal` meets its contract: one line. Assumes nothing.
use native.Mathlib.Omega.{arith}
use Rattle.model.specs.Listing.{refusal_word, place_word, refusal_text}
use Rattle.report.specs.Lines.{pair_text, pair_room, refusal_room}
use Rattle.report.proofs.put_refusal.Goals as goal

pub put_pair-requires : goal.put_pair-requires
unfolding refusal_word place_word
put_pair-requires c =
    let r = c.args.refusal in
    omega (arith, pair_room refusal_word r.number place_word r.place (omega arith) (omega arith))

pub returns : goal.returns
unfolding refusal_text pair_text refusal_word place_word
returns c = (c.put_pair.ensures, refusal_room c.args.refusal (omega arith) (omega arith))
