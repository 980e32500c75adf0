-- `put_sum` meets its contract: what opens the sum, its constant and what closes it. Assumes nothing.
use mathlib.Core.Path.{◌≡◌, sym, ap, ◌∙◌}
use mathlib.Core.List.{List, ◌++◌}
use lib.IntN.{ℤ}
use Prim.Native.Nat.{ℕ}
use Rattle.integer.specs.Linear.{back}
use Rattle.model.specs.Pddl.{number_text, expression_text, sum_of}
use Rattle.block.specs.Terms.{terms_at, length_terms}
use Rattle.output.specs.Writing.{Room, written_join, written_same, room_same, room_first, room_next}
use Rattle.pddl_sum.specs.Sums.{term_texts, closes, sum_text}
use Rattle.pddl_sum.proofs.put_sum.Goals as goal

-- the sum's text in its three pieces, and the room for those written first
module _ (part : List ℕ) (from n : ℕ) (z : ℤ) where
  abbrev opening : List ℕ
  opening = term_texts (terms_at part from n)

  pieces_are : opening ++ number_text z ++ closes n ≡ expression_text (sum_of (terms_at part from n) z)
  pieces_are = ap (λ (m : ℕ). opening ++ number_text z ++ closes m) (sym (length_terms part from n)) ∙ sum_text (terms_at part from n) z

  module _ {at : ℕ} (room : Room at (expression_text (sum_of (terms_at part from n) z))) where
    whole_room : Room at (opening ++ number_text z ++ closes n)
    whole_room = room_same room (sym pieces_are)

    numbered_room : Room at (opening ++ number_text z)
    numbered_room = room_first (opening ++ number_text z) (closes n) whole_room

pub put_terms-number-requires : goal.put_terms-number-requires
put_terms-number-requires c =
    let t = c.args.terms.now in
    let z = c.args.constant in
    (c.requires.0, room_first (opening t.part.now t.from t.count z) (number_text z) (numbered_room t.part.now t.from t.count z c.requires.2))

pub put_number-close-requires : goal.put_number-close-requires
put_number-close-requires c =
    let t = c.args.terms.now in
    let z = c.args.constant in
    rw (back z c.ranges.constant.sfits)
    (c.requires.1, room_next (number_text z) c.put_terms-number.ensures (numbered_room t.part.now t.from t.count z c.requires.2))

pub put_closes-requires : goal.put_closes-requires
put_closes-requires c =
    let t = c.args.terms.now in
    let z = c.args.constant in
    room_next (closes t.count)
    (written_join c.put_terms-number.ensures (rw (back z c.ranges.constant.sfits) at c.put_number-close.ensures))
    (whole_room t.part.now t.from t.count z c.requires.2)

pub returns : goal.returns
returns c =
    let t = c.args.terms.now in
    let z = c.args.constant in
    written_same
    (written_join (written_join c.put_terms-number.ensures (rw (back z c.ranges.constant.sfits) at c.put_number-close.ensures)) c.put_closes.ensures)
    (pieces_are t.part.now t.from t.count z)
