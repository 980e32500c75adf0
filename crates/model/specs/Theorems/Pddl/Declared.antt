-- The text is well formed as PDDL 2.1 asks beyond its grammar: every name is declared, once; each fluent has one initial value; and an
-- action names an atom or a fluent once in its effects, so that the order of effects and what is undefined never matter. Assumes nothing.
use Rattle.std.specs.Prelude.{ℕ, ◌≡◌, Bool, false, not, T, eqb, ℤ}
use mathlib.Core.List.{List, [], ◌∷◌, map}
use Rattle.model.specs.Lists.{In, any}
use Rattle.model.specs.Pddl.{Expression, number, fluent, plus, times, Formula, atom, compare, Change, gain, lose, alter, Action, Domain, Fact, given, equals, Problem}
use Rattle.model.specs.Theorems.Reading.WellFormed.{All}

-- ---- what is asked, over the grammar alone

-- no name stands twice
abbrev pub Distinct : List ℕ → Type 0
Distinct [] = Unit {0}
Distinct (n ∷ ns) = (In n ns → ⊥) × Distinct ns

-- do two effects name the same atom, or the same fluent
unfoldable pub meets : Change → Change → Bool
meets (gain p) (gain q) = eqb p q
meets (gain p) (lose q) = eqb p q
meets (gain p) (alter k v e) = false
meets (lose p) (gain q) = eqb p q
meets (lose p) (lose q) = eqb p q
meets (lose p) (alter k v e) = false
meets (alter j u d) (gain q) = false
meets (alter j u d) (lose q) = false
meets (alter j u d) (alter k v e) = eqb u v

-- no two effects do
abbrev pub Single : List Change → Type 0
Single [] = Unit {0}
Single (c ∷ cs) = T (not (any (meets c) cs)) × Single cs

-- every name that a form uses is declared
module _ (d : Domain) where
  abbrev pub ExpressionDeclared : Expression → Type 0
  ExpressionDeclared (number z) = Unit {0}
  ExpressionDeclared (fluent v) = In v d.functions
  ExpressionDeclared (plus e f) = ExpressionDeclared e × ExpressionDeclared f
  ExpressionDeclared (times e f) = ExpressionDeclared e × ExpressionDeclared f

  abbrev pub FormulaDeclared : Formula → Type 0
  FormulaDeclared (atom p) = In p d.predicates
  FormulaDeclared (compare o e f) = ExpressionDeclared e × ExpressionDeclared f

  abbrev pub ChangeDeclared : Change → Type 0
  ChangeDeclared (gain p) = In p d.predicates
  ChangeDeclared (lose p) = In p d.predicates
  ChangeDeclared (alter k v e) = In v d.functions × ExpressionDeclared e

  abbrev pub FactDeclared : Fact → Type 0
  FactDeclared (given p) = In p d.predicates
  FactDeclared (equals v z) = In v d.functions

  pub record ActionDeclared (a : Action) : Type 0 where
    pub conditions : All FormulaDeclared a.conditions
    pub changes : All ChangeDeclared a.changes
    pub single : Single a.changes

  pub record Declared (p : Problem) : Type 0 where
    pub predicates : Distinct d.predicates
    pub functions : Distinct d.functions
    pub names : Distinct (map (λ (a : Action). a.name) d.actions)
    pub actions : All ActionDeclared d.actions
    pub init : All FactDeclared p.init
    pub goal : All FormulaDeclared p.goal
    -- each fluent has a value in `:init`, and no other
    pub valued :
        (v : ℕ)
        → In v d.functions
        → (z : ℤ) × In (equals v z) p.init × ((y : ℤ) → In (equals v y) p.init → y ≡ z)
