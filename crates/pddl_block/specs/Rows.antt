-- Lists of the PDDL text, an element on each line; a block's conditions and effects as such lists. Assumes nothing.
use Rattle.std.specs.Prelude.{ℕ, ◌≡◌}
use Prim.Native.String.{String}
use Rattle.std.proofs.Math.Path.{refl, sym, ap}
use Rattle.std.proofs.Common.{◌∙◌}
use mathlib.Core.List.{List, [], ◌∷◌, ◌++◌, append_assoc, append-nil}
use Rattle.model.specs.Ascii.{ascii}
use Rattle.model.specs.Task.{need, add, delete, condition, effect, Block}
use Rattle.model.specs.Pddl.{atom_text, formula_text, change_text, lose, lines, compare_of, alter_of, formulas_of, changes_of}
use Rattle.pddl_sum.specs.Names.{name_text}

-- ---- an element a line, each behind the bytes `line`

module _ {A : Type 0} (line : List ℕ) (print : A → List ℕ) where
  unfoldable pub rows : List A → List ℕ
  rows [] = []
  rows (x ∷ xs) = line ++ print x ++ rows xs

  pub rows_append : (xs ys : List A) → rows (xs ++ ys) ≡ rows xs ++ rows ys
  unfolding rows
  rows_append [] ys = refl
  rows_append (x ∷ xs) ys =
      ap (λ (l : List ℕ). line ++ print x ++ l) (rows_append xs ys) ∙ sym (append_assoc (line ++ print x) (rows xs) (rows ys))

  pub rows_one : (x : A) → rows (x ∷ []) ≡ line ++ print x
  unfolding rows
  rows_one x = append-nil (line ++ print x)

-- a list of the text is its elements and a closing bracket
pub lines_rows : {A : Type 0} (indent : String) (print : A → List ℕ) (xs : List A) → lines indent print xs ≡ rows (ascii "\n" ++ ascii indent) print xs ++ ascii ")"
unfolding lines rows
lines_rows indent print [] = refl
lines_rows indent print (x ∷ xs) =
    let first = ascii "\n" ++ ascii indent ++ print x in
    ap (λ (l : List ℕ). first ++ l) (lines_rows indent print xs)
    ∙ sym (append_assoc first (rows (ascii "\n" ++ ascii indent) print xs) (ascii ")"))

-- ---- the conditions and the effects of a block

module _ (line : List ℕ) where
  unfoldable pub condition_rows : Block → List ℕ
  condition_rows b = rows line formula_text (formulas_of b)

  unfoldable pub effect_rows : Block → List ℕ
  effect_rows b = rows line change_text (changes_of b)

formulas_append : (b d : Block) → formulas_of (b ++ d) ≡ formulas_of b ++ formulas_of d
unfolding formulas_of
formulas_append [] d = refl
formulas_append (need p ∷ b) d = ap (λ l. formulas_of (need p ∷ []) ++ l) (formulas_append b d)
formulas_append (add p ∷ b) d = formulas_append b d
formulas_append (delete p ∷ b) d = formulas_append b d
formulas_append (condition c ∷ b) d = ap (λ l. compare_of c ∷ l) (formulas_append b d)
formulas_append (effect e ∷ b) d = formulas_append b d

changes_append : (b d : Block) → changes_of (b ++ d) ≡ changes_of b ++ changes_of d
unfolding changes_of
changes_append [] d = refl
changes_append (need p ∷ b) d = changes_append b d
changes_append (add p ∷ b) d = ap (λ l. changes_of (add p ∷ []) ++ l) (changes_append b d)
changes_append (delete p ∷ b) d = ap (λ l. changes_of (delete p ∷ []) ++ l) (changes_append b d)
changes_append (condition c ∷ b) d = changes_append b d
changes_append (effect e ∷ b) d = ap (λ l. alter_of e ∷ l) (changes_append b d)

module _ (line : List ℕ) where
  pub conditions_append : (b d : Block) → condition_rows line (b ++ d) ≡ condition_rows line b ++ condition_rows line d
  unfolding condition_rows
  conditions_append b d = ap (rows line formula_text) (formulas_append b d) ∙ rows_append line formula_text (formulas_of b) (formulas_of d)

  pub effects_append : (b d : Block) → effect_rows line (b ++ d) ≡ effect_rows line b ++ effect_rows line d
  unfolding effect_rows
  effects_append b d = ap (rows line change_text) (changes_append b d) ∙ rows_append line change_text (changes_of b) (changes_of d)

-- ---- names

pub atom_name : (p : ℕ) → atom_text p ≡ name_text (ascii "(p") p
unfolding atom_text name_text
atom_name p = refl

pub lose_name : (p : ℕ) → name_text (ascii "(not (p") p ++ ascii ")" ≡ change_text (lose p)
unfolding change_text atom_text name_text
lose_name p = simp append_assoc (unfold ascii in refl)
