-- The domain and the problem of the PDDL text in the pieces that are written. Assumes nothing.
use Rattle.std.specs.Prelude.{ℕ, zero, suc, ◌+◌, ◌≡◌, refl, Bool, ℤ, length, get_or, drop}
use Prim.Native.String.{String}
use Rattle.std.proofs.Common.{arith, sym, ap₂, ◌∙◌, eq-eqb, ne_eqb, drop-cons}
use Rattle.std.proofs.Math.Path.{ap}
use Rattle.std.proofs.Math.Bool.{true, false}
use mathlib.Core.List.{List, [], ◌∷◌, ◌++◌, append_assoc}
use Rattle.std.proofs.Math.Seq.{drop-length}
use Rattle.model.specs.Ascii.{ascii}
use Rattle.model.specs.Listing.{decimal}
use Rattle.model.specs.Lists.{tabulate}
use Rattle.model.specs.Task.{Block, Task}
use Rattle.model.specs.Move.{State, move_at}
use Rattle.model.specs.StateTable.{state_of}
use Rattle.model.specs.Pddl.{given, equals, number_text, atom_text, head_text, formula_text, change_text, action_text, declarations, domain_text, fact_text, problem_text, formulas_of, changes_of, action_of, actions_from, domain_of, truths, values, problem_of}
use Rattle.pddl_sum.specs.Names.{name_text, each, each_same, declared}
use Rattle.pddl_block.specs.Rows.{rows, rows_append, lines_rows, condition_rows, effect_rows}

-- the lines of a list that is made from numbers
pub rows_tabulate : {A : Type 0} (line : List ℕ) (print : A → List ℕ) (f : ℕ → A) (i n : ℕ) → rows line print (tabulate f i n) ≡ each (λ j. line ++ print (f j)) i n
unfolding each rows tabulate
rows_tabulate line print f i zero = refl
rows_tabulate line print f i (suc n) = ap (λ (l : List ℕ). line ++ print (f i) ++ l) (rows_tabulate line print f (suc i) n)

-- ---- declarations

-- an atom or a head on its line
atom_line : (p : ℕ) → ascii "\n" ++ ascii "    " ++ atom_text p ≡ name_text (ascii "\n    (p") p
unfolding atom_text name_text
atom_line p = simp append_assoc (unfold ascii in refl)

head_line : (v : ℕ) → ascii "\n" ++ ascii "    " ++ head_text v ≡ name_text (ascii "\n    (v") v
unfolding head_text name_text
head_line v = simp append_assoc (unfold ascii in refl)

declarations_are :
    (word : String) (print : ℕ → List ℕ) (w : List ℕ)
    → ((n : ℕ) → ascii "\n" ++ ascii "    " ++ print n ≡ name_text w n)
    → (n : ℕ)
    → declarations word print (tabulate (λ i. i) 0 n) ≡ declared (ascii word) w n
unfolding declarations declared tabulate
declarations_are word print w e zero = refl
declarations_are word print w e (suc n) =
    ap (λ (l : List ℕ). ascii word ++ l)
    (lines_rows "    " print (tabulate (λ i. i) 0 (suc n))
    ∙ ap (λ (l : List ℕ). l ++ ascii ")")
    (rows_tabulate (ascii "\n" ++ ascii "    ") print (λ i. i) 0 (suc n) ∙ each_same e 0 (suc n)))
    ∙ sym (append_assoc (ascii word) (each (name_text w) 0 (suc n)) (ascii ")"))

-- ---- the facts of a state

-- a proposition on its line, if it is true
unfoldable pub truth_row : State → ℕ → List ℕ
truth_row s p = elim (s.has p) [ true ↦ name_text (ascii "\n    (p") p | false ↦ [] ]

truths_rows : (s : State) (i n : ℕ) → rows (ascii "\n" ++ ascii "    ") fact_text (truths s i n) ≡ each (truth_row s) i n
unfolding rows truths each truth_row
truths_rows s i zero = refl
truths_rows s i (suc n) = go (s.has i) (truths_rows s (suc i) n)
  where
    go :
        (b : Bool)
        → rows (ascii "\n" ++ ascii "    ") fact_text (truths s (suc i) n) ≡ each (truth_row s) (suc i) n
        → rows (ascii "\n" ++ ascii "    ") fact_text (elim b [ true ↦ given i ∷ truths s (suc i) n | false ↦ truths s (suc i) n ])
        ≡ elim b [ true ↦ name_text (ascii "\n    (p") i | false ↦ [] ] ++ each (truth_row s) (suc i) n
    go true rest = unfold fact_text rows in (ap₂ ◌++◌ (atom_line i) rest)
    go false rest = rest

-- by the proposition's byte
module _ (props : ℕ) (bs : List ℕ) (p : ℕ) where
  pub true_row : get_or bs p 0 ≡ 1 → truth_row (state_of props bs) p ≡ name_text (ascii "\n    (p") p
  unfolding truth_row state_of
  true_row e = ap (λ (b : Bool). elim b [ true ↦ name_text (ascii "\n    (p") p | false ↦ [] ]) (eq-eqb (get_or bs p 0) 1 e)

  pub false_row : (get_or bs p 0 ≡ 1 → ⊥) → truth_row (state_of props bs) p ≡ []
  unfolding truth_row state_of
  false_row n = ap (λ (b : Bool). elim b [ true ↦ name_text (ascii "\n    (p") p | false ↦ [] ]) (ne_eqb (get_or bs p 0) 1 n)

-- a variable's value on its line
unfoldable pub value_text : ℕ → ℤ → List ℕ
value_text v z = name_text (ascii "\n    (= (v") v ++ ascii " " ++ number_text z ++ ascii ")"

unfoldable pub value_row : State → ℕ → List ℕ
value_row s v = value_text v (s.val v)

value_line : (v : ℕ) (z : ℤ) → ascii "\n" ++ ascii "    " ++ fact_text (equals v z) ≡ value_text v z
unfolding fact_text head_text value_text name_text
value_line v z = simp append_assoc (unfold ascii in refl)

values_rows : (s : State) (n : ℕ) → rows (ascii "\n" ++ ascii "    ") fact_text (values s n) ≡ each (value_row s) 0 n
unfolding values value_row
values_rows s n =
    rows_tabulate (ascii "\n" ++ ascii "    ") fact_text (λ v. equals v (s.val v)) 0 n
    ∙ each_same (λ v. value_line v (s.val v)) 0 n

-- ---- actions

-- move b, of the items of block m, on its lines
unfoldable pub action_row : ℕ → Block → List ℕ
action_row b m =
    ascii "\n  (:action a"
    ++ decimal b
    ++ ascii "\n    :parameters ()\n    :precondition (and"
    ++ condition_rows (ascii "\n      ") m
    ++ ascii ")\n    :effect (and"
    ++ effect_rows (ascii "\n      ") m
    ++ ascii "))"

unfoldable pub action_at : Task → ℕ → List ℕ
action_at k b = action_row b (move_at k b)

action_line : (b : ℕ) (m : Block) → ascii "\n" ++ ascii "  " ++ action_text (action_of b m) ≡ action_row b m
unfolding action_text action_of action_row condition_rows effect_rows
action_line b m =
    rw (lines_rows "      " formula_text (formulas_of m), lines_rows "      " change_text (changes_of m))
    (simp append_assoc (unfold ascii in refl))

actions_from_lem :
    (k : Task) (n i : ℕ)
    → i + n ≡ length k.moves
    → rows (ascii "\n" ++ ascii "  ") action_text (actions_from i (drop i k.moves)) ≡ each (action_at k) i n
unfolding rows each actions_from action_at move_at
actions_from_lem k zero i e =
    let end : i ≡ length k.moves = omega (arith, e) in
    ap (λ (l : List Block). rows (ascii "\n" ++ ascii "  ") action_text (actions_from i l))
    (ap (λ (j : ℕ). drop j k.moves) end ∙ drop-length k.moves)
actions_from_lem k (suc n) i e =
    ap (λ (l : List Block). rows (ascii "\n" ++ ascii "  ") action_text (actions_from i l)) (drop-cons k.moves i [] (omega (arith, e)))
    ∙ ap₂ ◌++◌ (action_line i (get_or k.moves i [])) (actions_from_lem k n (suc i) (omega (arith, e)))

actions_rows : (k : Task) → rows (ascii "\n" ++ ascii "  ") action_text (actions_from 0 k.moves) ≡ each (action_at k) 0 (length k.moves)
actions_rows k = actions_from_lem k (length k.moves) 0 (omega arith)

-- ---- the two documents

-- the domain of a task with so many propositions, variables and moves
unfoldable pub domain_pieces : Task → ℕ → ℕ → ℕ → List ℕ
domain_pieces k props vars moves =
    ascii "(define (domain campaign)\n  (:requirements :strips :fluents)"
    ++ declared (ascii "\n  (:predicates") (ascii "\n    (p") props
    ++ declared (ascii "\n  (:functions") (ascii "\n    (v") vars
    ++ each (action_at k) 0 moves
    ++ ascii ")\n"

pub domain_pieces_lem : (k : Task) → domain_pieces k k.props k.vars (length k.moves) ≡ domain_text (domain_of k)
unfolding domain_text domain_of domain_pieces
domain_pieces_lem k =
    rw (declarations_are "\n  (:predicates" atom_text (ascii "\n    (p") atom_line k.props, declarations_are "\n  (:functions" head_text (ascii "\n    (v") head_line k.vars, lines_rows "  " action_text (actions_from 0 k.moves), actions_rows k)
    (simp append_assoc (unfold ascii in refl))

-- the problem of a state with so many propositions and variables, and of a goal
unfoldable pub problem_pieces : State → ℕ → ℕ → Block → List ℕ
problem_pieces s props vars goal =
    ascii "(define (problem start)\n  (:domain campaign)\n  (:init"
    ++ each (truth_row s) 0 props
    ++ each (value_row s) 0 vars
    ++ ascii ")\n  (:goal (and"
    ++ condition_rows (ascii "\n    ") goal
    ++ ascii ")))\n"

pub problem_pieces_lem : (k : Task) (s : State) → problem_pieces s k.props k.vars k.goal ≡ problem_text (problem_of k s)
unfolding problem_text problem_of condition_rows problem_pieces
problem_pieces_lem k s =
    rw (lines_rows "    " fact_text (truths s 0 k.props ++ values s k.vars), rows_append (ascii "\n" ++ ascii "    ") fact_text (truths s 0 k.props) (values s k.vars), truths_rows s 0 k.props, values_rows s k.vars, lines_rows "    " formula_text (formulas_of k.goal))
    (simp append_assoc (unfold ascii in refl))
