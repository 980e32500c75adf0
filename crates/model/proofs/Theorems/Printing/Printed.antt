-- Every command that passes its checks is printed as it was read: the bytes before the next command stay the bytes of what has
-- been seen. Assumes nothing.
use Rattle.std.specs.Prelude.{ℕ, suc, ◌+◌, ◌≡◌, take, drop}
use Rattle.std.proofs.Common.{arith, sym, ap, ◌∙◌}
use Rattle.std.proofs.Math.Path.{refl, subst}
use mathlib.Core.List.{List, [], ◌∷◌, ◌++◌, append-nil}
use Rattle.std.proofs.Math.Option.{some}
use Rattle.integer.specs.BigEndian.{signed_bytes}
use Rattle.model.specs.Limits.{Limits}
use Rattle.model.specs.Task.{Form, Term, Item, need, add, delete}
use Rattle.model.specs.Command.{Command, head, open_move, open_goal, end_table, need_prop, add_prop, delete_prop, term, close_condition, close_effect, unknown, code_of, width, term_bytes, item_bytes, moves_bytes, Place, after_term}
use Rattle.model.specs.Seen.{Seen, byte_after, number_after, term_at, item_at, with_head, with_mark, with_term, with_item, advance}
use Rattle.model.specs.Reading.{Wanted, operands}
use Rattle.model.proofs.Theorems.Reading.Ranges.{comparison_in_range_lem, kind_in_range_lem}
use Rattle.model.specs.Theorems.Reading.Commands.{Passes}
use Rattle.model.specs.Theorems.Reading.Checks.{ItemRead}
use Rattle.model.proofs.Theorems.Reading.Checks.{in_place_lem, terms_closed, need_read, add_read, delete_read, condition_read, effect_read, open_move_read, open_goal_read, end_table_read}
use Rattle.model.specs.Theorems.Reading.Soundness.{Sound}
use Rattle.model.proofs.Theorems.Reading.Soundness.{open_move_between}
use Rattle.model.specs.Theorems.Printing.SeenBytes.{Prints, head_bytes, seen_bytes}
use Rattle.model.proofs.Theorems.Printing.SeenBytes.{prints_nothing, prints_byte, prints_number, prints_command, block_behind, item_seen, head_seen, term_seen}
use Rattle.model.specs.Theorems.Printing.Printed.{Printed}

-- an item that closes no terms
prop_bytes : (ts : List Term) (c : Command) (i : Item) (ys : List ℕ) → ts ≡ [] → code_of c ∷ ys ≡ item_bytes i → term_bytes ts ++ (code_of c ∷ ys) ≡ item_bytes i
unfolding term_bytes
prop_bytes ts c i ys none same = ap (λ (us : List Term). term_bytes us ++ (code_of c ∷ ys)) none ∙ same

module _ {L : Limits} {w : Wanted} {t : List ℕ} {s : Seen} where
  printed_item : {c : Command} {i : Item} {ys : List ℕ} (n : ℕ) → width c ≡ suc n → Passes L w t s c → Printed t s → ItemRead L s i → term_bytes s.terms ++ (code_of c ∷ ys) ≡ item_bytes i → Prints t (take n (drop (s.at + 1) t)) ys → Printed t (with_item s (width c) (some i))
  unfolding with_item
  printed_item {c} {i} {ys} n e h p r bytes q =
      subst (Prints t (take (s.at + width c) t))
      (item_seen s.place s.header s.moves s.items s.terms i (code_of c ∷ ys) r.in_block bytes)
      (prints_command n e h q p)

  -- the one operand of 50, 2B and 2D
  prop_operand : {c : Command} → width c ≡ 2 → Passes L w t s c → Prints t (take 1 (drop (s.at + 1) t)) (byte_after t s 1 ∷ [])
  unfolding byte_after
  prop_operand e h = prints_byte t s.at 1 0 (omega (arith, h.uncut)) refl (prints_nothing (drop (s.at + 2) t))

  printed_head : (f : Form) → Passes L w t s (head f) → Printed t s → Printed t (with_head t s f)
  unfolding with_head seen_bytes head_bytes moves_bytes width byte_after
  printed_head f h p =
      subst (λ (l : List ℕ). Prints t (take (s.at + 4) t) (l ++ (code_of (head f) ∷ byte_after t s 1 ∷ byte_after t s 2 ∷ byte_after t s 3 ∷ [])))
      (head_seen f s.place s.header s.moves s.items s.terms (in_place_lem h))
      (prints_command 3 refl h
      (prints_byte t s.at 1 2 (omega (arith, h.uncut)) refl
      (prints_byte t s.at 2 1 (omega (arith, h.uncut)) refl
      (prints_byte t s.at 3 0 (omega (arith, h.uncut)) refl
      (prints_nothing (drop (s.at + 4) t)))))
      p)

  -- 41, 47 and 45: one byte behind closed terms
  printed_mark : {ys : List ℕ} (c : Command) → width c ≡ 1 → s.terms ≡ [] → Passes L w t s c → Printed t s → seen_bytes s.place s.header s.moves s.items [] ++ (code_of c ∷ []) ≡ ys → Prints t (take (s.at + 1) t) ys
  printed_mark {ys} c e none h p same =
      subst (λ (n : ℕ). Prints t (take (s.at + n) t) ys) e
      (subst (Prints t (take (s.at + width c) t))
      (ap (λ (ts : List Term). seen_bytes s.place s.header s.moves s.items ts ++ (code_of c ∷ [])) none ∙ same)
      (prints_command 0 e h (prints_nothing (drop (s.at + 1) t)) p))

  printed_term : Passes L w t s term → Printed t s → Printed t (with_term s (term_at t s))
  unfolding with_term term_at term_bytes width byte_after number_after
  printed_term h p =
      let weight = signed_bytes 2 (number_after 2 t s 2) in
      subst (Prints t (take (s.at + 4) t))
      (term_seen s.place s.header s.moves s.items s.terms (term_at t s) (in_place_lem h))
      (prints_command 3 refl h
      (prints_byte t s.at 1 2 (omega (arith, h.uncut)) refl
      (subst (Prints t (take 2 (drop (s.at + 2) t))) (sym (append-nil weight)) (prints_number t s.at 2 2 (omega (arith, h.uncut)))))
      p)

  pub printed_step : (c : Command) → Sound L w s → Passes L w t s c → Printed t s → Printed t (advance t s c)
  unfolding advance with_mark item_at item_bytes seen_bytes width after_term operands byte_after number_after
  printed_step (head f) k h p = printed_head f h p
  printed_step open_move k h p =
      printed_mark open_move refl (open_move_read h).0 h p
      (block_behind open_move s.place s.header s.moves s.items (open_move_between k h))
  printed_step open_goal k h p =
      printed_mark open_goal refl (open_goal_read h).0 h p
      (block_behind open_goal s.place s.header s.moves s.items (open_goal_read h).2)
  printed_step end_table k h p =
      printed_mark end_table refl (end_table_read h).0 h p
      (ap (λ (q : Place). seen_bytes q s.header s.moves s.items [] ++ (code_of end_table ∷ [])) (end_table_read h).1)
  printed_step need_prop k h p =
      printed_item 1 refl h p (need_read h) (prop_bytes s.terms need_prop (need (byte_after t s 1)) (byte_after t s 1 ∷ []) (terms_closed refl h) refl) (prop_operand refl h)
  printed_step add_prop k h p =
      printed_item 1 refl h p (add_read h) (prop_bytes s.terms add_prop (add (byte_after t s 1)) (byte_after t s 1 ∷ []) (terms_closed refl h) refl) (prop_operand refl h)
  printed_step delete_prop k h p =
      printed_item 1 refl h p (delete_read h) (prop_bytes s.terms delete_prop (delete (byte_after t s 1)) (byte_after t s 1 ∷ []) (terms_closed refl h) refl) (prop_operand refl h)
  printed_step term k h p = printed_term h p
  printed_step close_condition k h p =
      printed_item 5 refl h p (condition_read k.terms h) refl
      (prints_byte t s.at 1 4 (omega (arith, h.uncut))
      (sym (comparison_in_range_lem s.header.form (byte_after t s 1) h.ranged.0).1)
      (prints_number t s.at 2 4 (omega (arith, h.uncut))))
  printed_step close_effect k h p =
      printed_item 6 refl h p (effect_read k.terms h) refl
      (prints_byte t s.at 1 5 (omega (arith, h.uncut))
      (sym (kind_in_range_lem s.header.form (byte_after t s 1) h.ranged.0).1)
      (prints_byte t s.at 2 4 (omega (arith, h.uncut)) refl
      (prints_number t s.at 3 4 (omega (arith, h.uncut)))))
  printed_step unknown k h p = p
