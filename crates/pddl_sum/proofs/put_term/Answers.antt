-- `put_term` meets its contract: four stores, one behind the other. Assumes nothing.
use Prim.Native.Nat.{ℕ}
use native.Mathlib.Omega.{arith}
use mathlib.Core.Path.{◌≡◌, ◌∙◌}
use mathlib.Core.List.{List, ◌++◌}
use mir.Syntax.{w64}
use mir.Val.{to_z, of_z}
use Rattle.integer.specs.Linear.{back}
use Rattle.model.specs.Ascii.{ascii}
use Rattle.model.specs.Task.{Term}
use Rattle.model.specs.Pddl.{number_text}
use Rattle.block.specs.Terms.{term_of, sum_term, term_variable, term_weighs}
use Rattle.output.specs.Writing.{Room, written_join, room_first, room_next}
use Rattle.pddl_sum.specs.Names.{name_text}
use Rattle.pddl_sum.specs.Sums.{term_text}
use Rattle.pddl_sum.proofs.put_term.Goals as goal

-- the text up to the weight, and the variable's name
abbrev weighed : Term → List ℕ
weighed t = ascii "(+ (* " ++ number_text t.weight

abbrev variable_name : Term → List ℕ
variable_name t = name_text (ascii " (v") t.var

module _ {at : ℕ} (t : Term) (room : Room at (weighed t ++ variable_name t ++ ascii ") ")) where
  named_room : Room at (weighed t ++ variable_name t)
  named_room = room_first (weighed t ++ variable_name t) (ascii ") ") room

  weighed_room : Room at (weighed t)
  weighed_room = room_first (weighed t) (variable_name t) named_room

pub weight-w-requires : goal.weight-w-requires
weight-w-requires c = sum_term c.requires.0.sum c.requires.0.some

pub variable-v-requires : goal.variable-v-requires
variable-v-requires c = sum_term c.requires.0.sum c.requires.0.some

pub put_number-name-requires : goal.put_number-name-requires
unfolding ascii term_text
put_number-name-requires c =
    let t = term_of c.args.part.now c.args.term in
    let word = back c.weight-w.result c.weight-w.type_inv in
    let weighs : to_z w64 (of_z w64 c.weight-w.result) ≡ (term_of c.args.part.now c.args.term).weight = word ∙ term_weighs c.requires.0.sum c.requires.0.some c.weight-w.ensures in (
      rw word (omega (arith, c.weight-w.ensures.small)),
      rw weighs (room_next (number_text t.weight) c.put_bytes-weight.ensures (weighed_room t c.requires.1)),
    )

pub put_name-close-requires : goal.put_name-close-requires
unfolding ascii term_text
put_name-close-requires c =
    let t = term_of c.args.part.now c.args.term in
    let names : c.variable-v.result ≡ (term_of c.args.part.now c.args.term).var = (term_variable c.requires.0.sum c.requires.0.some c.variable-v.ensures).0 in
    let weighs : to_z w64 (of_z w64 c.weight-w.result) ≡ (term_of c.args.part.now c.args.term).weight = back c.weight-w.result c.weight-w.type_inv ∙ term_weighs c.requires.0.sum c.requires.0.some c.weight-w.ensures in
    rw names
    (room_next (variable_name t) (written_join c.put_bytes-weight.ensures (rw weighs at c.put_number-name.ensures)) (named_room t c.requires.1))

pub put_bytes-requires : goal.put_bytes-requires
unfolding ascii term_text
put_bytes-requires c =
    let weighs : to_z w64 (of_z w64 c.weight-w.result) ≡ (term_of c.args.part.now c.args.term).weight = back c.weight-w.result c.weight-w.type_inv ∙ term_weighs c.requires.0.sum c.requires.0.some c.weight-w.ensures in
    let names : c.variable-v.result ≡ (term_of c.args.part.now c.args.term).var = (term_variable c.requires.0.sum c.requires.0.some c.variable-v.ensures).0 in
    let numbered = written_join c.put_bytes-weight.ensures (rw weighs at c.put_number-name.ensures) in
    omega (arith, (room_next (ascii ") ") (written_join numbered (rw names at c.put_name-close.ensures)) c.requires.1).short)

pub returns : goal.returns
unfolding ascii term_text
returns c =
    let weighs : to_z w64 (of_z w64 c.weight-w.result) ≡ (term_of c.args.part.now c.args.term).weight = back c.weight-w.result c.weight-w.type_inv ∙ term_weighs c.requires.0.sum c.requires.0.some c.weight-w.ensures in
    let names : c.variable-v.result ≡ (term_of c.args.part.now c.args.term).var = (term_variable c.requires.0.sum c.requires.0.some c.variable-v.ensures).0 in
    let numbered = written_join c.put_bytes-weight.ensures (rw weighs at c.put_number-name.ensures) in
    written_join (written_join numbered (rw names at c.put_name-close.ensures)) c.put_bytes.ensures
