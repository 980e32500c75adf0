-- A condition and a numeric effect of the PDDL text, by the numbers that describe them in a part. Assumes nothing.
use Rattle.std.specs.Prelude.{ℕ, ◌≡◌, ℤ, pos}
use Rattle.std.proofs.Math.Path.{sym, ap}
use Rattle.std.proofs.Common.{◌∙◌}
use mathlib.Core.List.{List, ◌++◌, append_assoc}
use Rattle.model.specs.Ascii.{ascii}
use Rattle.model.specs.Seen.{comparison_of, kind_of}
use Rattle.model.specs.Pddl.{number, atom, compare, gain, lose, alter, atom_text, number_text, expression_text, comparison_text, kind_text, formula_text, change_text, head_text, sum_of, compare_of, alter_of, formulas_of, changes_of}
use Rattle.block.specs.Terms.{terms_at}
use Rattle.block.specs.Remaining.{items_of}
use Rattle.block.specs.declared.ItemAt.{ItemAt}
use Rattle.block.specs.declared.ItemAt.TheVariants.{Need, Add, Delete, Condition as ConditionAt, Effect as EffectAt}
use Rattle.pddl_sum.specs.Names.{name_text}
use Rattle.pddl_block.specs.Rows.{rows_one, condition_rows, effect_rows, lose_name}

unfoldable pub condition_text : List ℕ → ℕ → ℤ → ℕ → ℕ → List ℕ
condition_text part o c from n =
    ascii "(" ++ comparison_text (comparison_of o) ++ expression_text (sum_of (terms_at part from n) (pos 0)) ++ ascii " " ++ number_text c ++ ascii ")"

unfoldable pub effect_text : List ℕ → ℕ → ℕ → ℤ → ℕ → ℕ → List ℕ
effect_text part kd v c from n =
    ascii "(" ++ kind_text (kind_of kd) ++ name_text (ascii "(v") v ++ ascii " " ++ expression_text (sum_of (terms_at part from n) c) ++ ascii ")"

-- ---- the line of an item, by its kind

module _ (line part : List ℕ) {i : ItemAt} where
  pub need_row : {p next : ℕ} → i ≡ Need p next → condition_rows line (items_of part i) ≡ line ++ name_text (ascii "(p") p
  unfolding condition_rows items_of formulas_of formula_text atom_text name_text
  need_row {p} e = ap (λ (j : ItemAt). condition_rows line (items_of part j)) e ∙ rows_one line formula_text (atom p)

  pub condition_row : {o : ℕ} {c : ℤ} {from n next : ℕ} → i ≡ ConditionAt o c from n next → condition_rows line (items_of part i) ≡ line ++ condition_text part o c from n
  unfolding condition_rows items_of formulas_of formula_text compare_of condition_text expression_text
  condition_row {o} {c} {from} {n} e =
      ap (λ (j : ItemAt). condition_rows line (items_of part j)) e
      ∙ rows_one line formula_text (compare (comparison_of o) (sum_of (terms_at part from n) (pos 0)) (number c))

  pub add_row : {p next : ℕ} → i ≡ Add p next → effect_rows line (items_of part i) ≡ line ++ name_text (ascii "(p") p
  unfolding effect_rows items_of changes_of change_text atom_text name_text
  add_row {p} e = ap (λ (j : ItemAt). effect_rows line (items_of part j)) e ∙ rows_one line change_text (gain p)

  pub delete_row : {p next : ℕ} → i ≡ Delete p next → effect_rows line (items_of part i) ≡ line ++ name_text (ascii "(not (p") p ++ ascii ")"
  unfolding effect_rows items_of changes_of
  delete_row {p} e =
      ap (λ (j : ItemAt). effect_rows line (items_of part j)) e
      ∙ rows_one line change_text (lose p)
      ∙ ap (λ (l : List ℕ). line ++ l) (sym (lose_name p))
      ∙ sym (append_assoc line (name_text (ascii "(not (p") p) (ascii ")"))

  pub effect_row : {kd v : ℕ} {c : ℤ} {from n next : ℕ} → i ≡ EffectAt kd v c from n next → effect_rows line (items_of part i) ≡ line ++ effect_text part kd v c from n
  unfolding effect_rows items_of changes_of change_text alter_of effect_text head_text name_text
  effect_row {kd} {v} {c} {from} {n} e =
      ap (λ (j : ItemAt). effect_rows line (items_of part j)) e
      ∙ rows_one line change_text (alter (kind_of kd) v (sum_of (terms_at part from n) c))
