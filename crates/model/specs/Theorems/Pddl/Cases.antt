-- PDDL text computed from bytes: M1's, that of a table with every form, the empty table's, that of a table with a term of weight 0; the
-- order of refusals; a plan of M1's text. Assumes nothing.
use Rattle.std.specs.Prelude.{ℕ, ◌≡◌, List, [], ◌∷◌, ◌++◌, Ok, Err}
use Prim.Native.String.{String}
use Rattle.model.specs.Limits.{paper}
use Rattle.model.specs.Ascii.{ascii}
use Rattle.model.specs.Pddl.{pddl_answer, pddl_out}
use Rattle.model.specs.Theorems.Campaigns.Tables.{zeros, m1, m1_normal, empty_goal}
use Rattle.model.specs.Theorems.Campaigns.Cases.{grid}

-- lines of text, each with its end
unfoldable pub text_lines : List String → List ℕ
text_lines [] = []
text_lines (l ∷ ls) = ascii l ++ ascii "\n" ++ text_lines ls

unfoldable pub m1_text : List ℕ
m1_text =
    text_lines
    ("(define (domain campaign)"
    ∷ "  (:requirements :strips :fluents)"
    ∷ "  (:predicates"
    ∷ "    (p0))"
    ∷ "  (:functions"
    ∷ "    (v0)"
    ∷ "    (v1))"
    ∷ "  (:action a0"
    ∷ "    :parameters ()"
    ∷ "    :precondition (and)"
    ∷ "    :effect (and"
    ∷ "      (increase (v0) 5)))"
    ∷ "  (:action a1"
    ∷ "    :parameters ()"
    ∷ "    :precondition (and"
    ∷ "      (>= (+ (* 1 (v0)) 0) 3))"
    ∷ "    :effect (and"
    ∷ "      (increase (v1) 2)"
    ∷ "      (decrease (v0) 3)))"
    ∷ "  (:action a2"
    ∷ "    :parameters ()"
    ∷ "    :precondition (and"
    ∷ "      (>= (+ (* 1 (v0)) 0) 10))"
    ∷ "    :effect (and"
    ∷ "      (p0))))"
    ∷ "(define (problem start)"
    ∷ "  (:domain campaign)"
    ∷ "  (:init"
    ∷ "    (= (v0) 0)"
    ∷ "    (= (v1) 0))"
    ∷ "  (:goal (and"
    ∷ "    (p0)"
    ∷ "    (>= (+ (* 1 (v1)) 0) 7))))"
    ∷ [])

-- every comparison, every kind of effect, sums of no, one and two terms, negative numbers, conditions and effects mixed in one block
unfoldable pub mixed : List ℕ
mixed =
    (0x54 ∷ 2 ∷ 2 ∷ 1 ∷ 0x41 ∷ 0x2D ∷ 0 ∷ 0x50 ∷ 1 ∷ [])
    ++ (0x57 ∷ 0 ∷ 0 ∷ 1 ∷ 0x43 ∷ 1 ∷ 0xFF ∷ 0xF0 ∷ 0xBD ∷ 0xC0 ∷ [])
    ++ (0x57 ∷ 0 ∷ 0xFC ∷ 0x18 ∷ 0x57 ∷ 1 ∷ 0 ∷ 2 ∷ 0x43 ∷ 2 ∷ 0 ∷ 0 ∷ 0 ∷ 0 ∷ [])
    ++ (0x43 ∷ 3 ∷ 0 ∷ 0 ∷ 0 ∷ 1 ∷ 0x57 ∷ 1 ∷ 0 ∷ 1 ∷ 0x43 ∷ 4 ∷ 0 ∷ 0 ∷ 0 ∷ 10 ∷ [])
    ++ (0x57 ∷ 0 ∷ 0xFF ∷ 0xFD ∷ 0x46 ∷ 0 ∷ 1 ∷ 0xFF ∷ 0xFF ∷ 0xFF ∷ 0xF9 ∷ [])
    ++ (0x2B ∷ 1 ∷ 0x46 ∷ 2 ∷ 0 ∷ 0 ∷ 0 ∷ 0 ∷ 100 ∷ [])
    ++ (0x47 ∷ 0x50 ∷ 0 ∷ 0x57 ∷ 0 ∷ 0xFF ∷ 0xFF ∷ 0x43 ∷ 0 ∷ 0xFF ∷ 0xFF ∷ 0xFF ∷ 0xFB ∷ 0x45 ∷ [])

unfoldable pub mixed_state : List ℕ
mixed_state = 1 ∷ 0 ∷ 0xFF ∷ 0xF0 ∷ 0xBD ∷ 0xC0 ∷ 0 ∷ 0 ∷ 0 ∷ 42 ∷ []

unfoldable pub mixed_text : List ℕ
mixed_text =
    text_lines
    ("(define (domain campaign)"
    ∷ "  (:requirements :strips :fluents)"
    ∷ "  (:predicates"
    ∷ "    (p0)"
    ∷ "    (p1))"
    ∷ "  (:functions"
    ∷ "    (v0)"
    ∷ "    (v1))"
    ∷ "  (:action a0"
    ∷ "    :parameters ()"
    ∷ "    :precondition (and"
    ∷ "      (p1)"
    ∷ "      (> (+ (* 1 (v0)) 0) -1000000)"
    ∷ "      (<= (+ (* -1000 (v0)) (+ (* 2 (v1)) 0)) 0)"
    ∷ "      (< 0 1)"
    ∷ "      (= (+ (* 1 (v1)) 0) 10))"
    ∷ "    :effect (and"
    ∷ "      (not (p0))"
    ∷ "      (assign (v1) (+ (* -3 (v0)) -7))"
    ∷ "      (p1)"
    ∷ "      (decrease (v0) 100))))"
    ∷ "(define (problem start)"
    ∷ "  (:domain campaign)"
    ∷ "  (:init"
    ∷ "    (p0)"
    ∷ "    (= (v0) -1000000)"
    ∷ "    (= (v1) 42))"
    ∷ "  (:goal (and"
    ∷ "    (p0)"
    ∷ "    (>= (+ (* -1 (v0)) 0) -5))))"
    ∷ [])

-- no propositions, variables, moves or conditions
unfoldable pub empty_text : List ℕ
empty_text =
    text_lines
    ("(define (domain campaign)"
    ∷ "  (:requirements :strips :fluents))"
    ∷ "(define (problem start)"
    ∷ "  (:domain campaign)"
    ∷ "  (:init)"
    ∷ "  (:goal (and)))"
    ∷ [])

-- v0 := 0·v0 + v1
unfoldable pub grid_text : List ℕ
grid_text =
    text_lines
    ("(define (domain campaign)"
    ∷ "  (:requirements :strips :fluents)"
    ∷ "  (:functions"
    ∷ "    (v0)"
    ∷ "    (v1))"
    ∷ "  (:action a0"
    ∷ "    :parameters ()"
    ∷ "    :precondition (and)"
    ∷ "    :effect (and"
    ∷ "      (assign (v0) (+ (* 0 (v0)) (+ (* 1 (v1)) 0))))))"
    ∷ "(define (problem start)"
    ∷ "  (:domain campaign)"
    ∷ "  (:init"
    ∷ "    (= (v0) 0)"
    ∷ "    (= (v1) 0))"
    ∷ "  (:goal (and)))"
    ∷ [])

pub record Cases : Type 0 where
  pub m1_text_holds : pddl_out paper m1 (zeros 9) (zeros 631) ≡ m1_text
  -- "the answer carries the length written from the start"
  pub m1_length : pddl_answer paper m1 (zeros 9) (zeros 631) ≡ Ok 631
  pub mixed_text_holds : pddl_out paper mixed mixed_state (zeros 596) ≡ mixed_text
  pub empty_text_holds : pddl_out paper empty_goal [] (zeros 134) ≡ empty_text
  -- weight 0: "The PDDL text writes it out."
  pub grid_text_holds : pddl_out paper grid (zeros 8) (zeros 325) ≡ grid_text
  -- "Too short a buffer is 13 .. and comes last": behind the table's refusals and the state's
  pub short : pddl_answer paper m1 (zeros 9) (zeros 630) ≡ Err (record { number = 13; place = 0 })
  pub state_first : pddl_answer paper m1 (zeros 8) [] ≡ Err (record { number = 8; place = 0 })
  pub table_first : pddl_answer paper m1_normal [] [] ≡ Err (record { number = 3; place = 0 })
