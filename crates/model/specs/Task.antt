-- A task: what an accepted table stands for. Written and normal tables share this shape.
-- Assumes nothing.
use Rattle.std.specs.Prelude.{ℕ, Bool, true, false, List, [], ◌∷◌, eqb, ℤ, nat_abs}
use Rattle.std.proofs.Math.Option.{Option, none, some}
use Rattle.model.specs.Lists.{any}

-- "54 P V A: head of a written table"; "4E P N A: head of a normal table"
pub data Form : Type 0 where
  written normal : Form

-- "57 v w: one term; variable, weight"
pub record Term : Type 0 where
  pub var : ℕ
  pub weight : ℤ

-- "A written term with weight 0 is to be read as no contribution": the terms that contribute, in their order
unfoldable pub kept : List Term → List Term
kept [] = []
kept (t ∷ ts) = elim (eqb (nat_abs t.weight) 0) [ true ↦ kept ts | false ↦ t ∷ kept ts ]

-- "o is 0 ≥, 1 >, 2 ≤, 3 <, 4 ="
pub data Comparison : Type 0 where
  at_least above at_most below equal : Comparison

-- "43 o c: closes the terms before it into a condition, sum against c"
pub record Condition : Type 0 where
  pub terms : List Term
  pub comparison : Comparison
  pub bound : ℤ

-- "k is 0 := , 1 += , 2 −="
pub data Kind : Type 0 where
  assign increase decrease : Kind

-- "46 k v c: closes the terms before it into an effect on v with value sum + c"
pub record Effect : Type 0 where
  pub kind : Kind
  pub var : ℕ
  pub terms : List Term
  pub base : ℤ

-- what a block holds, in table order: "50 p: proposition p must be true. 2B p adds it, 2D p deletes it"
pub data Item : Type 0 where
  need : ℕ → Item
  add : ℕ → Item
  delete : ℕ → Item
  condition : Condition → Item
  effect : Effect → Item

-- "Moves and goal are blocks."
abbrev pub Block : Type 0
Block = List Item

pub record Task : Type 0 where
  pub props : ℕ
  pub vars : ℕ
  pub moves : List Block
  pub goal : Block

-- the terms of an item's sum
unfoldable pub terms_of : Item → List Term
terms_of (need p) = []
terms_of (add p) = []
terms_of (delete p) = []
terms_of (condition c) = c.terms
terms_of (effect e) = e.terms

unfoldable pub is_add : ℕ → Item → Bool
is_add p (need q) = false
is_add p (add q) = eqb q p
is_add p (delete q) = false
is_add p (condition c) = false
is_add p (effect e) = false

unfoldable pub is_delete : ℕ → Item → Bool
is_delete p (need q) = false
is_delete p (add q) = false
is_delete p (delete q) = eqb q p
is_delete p (condition c) = false
is_delete p (effect e) = false

-- does the block add p, delete p
unfoldable pub adds : ℕ → Block → Bool
adds p b = any (is_add p) b

unfoldable pub deletes : ℕ → Block → Bool
deletes p b = any (is_delete p) b

-- the block's effect on v: "a move has one effect at most on a variable"
unfoldable pub effect_on : ℕ → Block → Option Effect
effect_on v [] = none
effect_on v (need p ∷ b) = effect_on v b
effect_on v (add p ∷ b) = effect_on v b
effect_on v (delete p ∷ b) = effect_on v b
effect_on v (condition c ∷ b) = effect_on v b
effect_on v (effect e ∷ b) = elim (eqb e.var v) [ true ↦ some e | false ↦ effect_on v b ]

-- does the item change anything: "A move without 2B, 2D or 46" has none that does
unfoldable pub changes : Item → Bool
changes (need p) = false
changes (add p) = true
changes (delete p) = true
changes (condition c) = false
changes (effect e) = true

unfoldable pub active : Block → Bool
active b = any changes b

-- "In a block a proposition is named once at most by 50, and once at most by 2B and 2D together; a move has one effect at
-- most on a variable": do two items of a block name the same thing
unfoldable pub clashes : Item → Item → Bool
clashes (need p) (need q) = eqb p q
clashes (need p) (add q) = false
clashes (need p) (delete q) = false
clashes (need p) (condition d) = false
clashes (need p) (effect f) = false
clashes (add p) (need q) = false
clashes (add p) (add q) = eqb p q
clashes (add p) (delete q) = eqb p q
clashes (add p) (condition d) = false
clashes (add p) (effect f) = false
clashes (delete p) (need q) = false
clashes (delete p) (add q) = eqb p q
clashes (delete p) (delete q) = eqb p q
clashes (delete p) (condition d) = false
clashes (delete p) (effect f) = false
clashes (condition c) (need q) = false
clashes (condition c) (add q) = false
clashes (condition c) (delete q) = false
clashes (condition c) (condition d) = false
clashes (condition c) (effect f) = false
clashes (effect e) (need q) = false
clashes (effect e) (add q) = false
clashes (effect e) (delete q) = false
clashes (effect e) (condition d) = false
clashes (effect e) (effect f) = eqb e.var f.var
