-- The goal part that blocks (document 02, request 3): "what to give up" when a campaign comes back as "no plan". Assumes nothing.
use Rattle.std.specs.Prelude.{ℕ, not, List, ◌∷◌, ◌++◌, ℤ, length, get_or, take, Option as Maybe, Some, None, Result, Ok, Err}
use Rattle.std.proofs.Math.Option.{Option, none, some}
use Rattle.model.specs.Limits.{Limits}
use Rattle.model.specs.Lists.{first_from}
use Rattle.model.specs.Task.{normal, Item, need, Task, terms_of}
use Rattle.model.specs.Command.{head, open_goal, code_of, term_bytes, items_bytes, moves_bytes}
use Rattle.model.specs.Move.{State}
use Rattle.model.specs.Layer.{Layer, holds_in, layer_at, reached, exhausted}
use Rattle.model.specs.Memory.{Built, answered, stopped, build}
use Rattle.model.specs.Calls.{Ready, ready, unready, prepared, decide_memory}
use Rattle.model.specs.declared.Refusal.{Refusal}

-- part n of the goal, in table order: a 50, or the sum that a 43 closes
unfoldable pub goal_part : Task → ℕ → Item
goal_part k n = get_or k.goal n (need 0)

-- "the first 50 or 43 command of the goal, in table order, that the last layer does not meet": the number of that part
unfoldable pub first_unmet : Task → Layer → Option ℕ
first_unmet k l = first_from (λ n. not (holds_in l (goal_part k n))) 0 (length k.goal)

-- the normal table up to the 50 or 43 of part n: the parts before it, and the terms that this 43 closes
unfoldable pub before_part : Task → ℕ → List ℕ
before_part k n =
    code_of (head normal)
    ∷ k.props
    ∷ k.vars
    ∷ length k.moves
    ∷ moves_bytes k.moves
    ++ code_of open_goal
    ∷ items_bytes (take n k.goal)
    ++ term_bytes (terms_of (goal_part k n))

-- "the offset, in the normal table", of its 50 or 43
unfoldable pub part_offset : Task → ℕ → ℕ
part_offset k n = length (before_part k n)

-- the offset of that part; with "no plan" there always is one (`Theorems.Blocking.Calls.blocks_where`)
unfoldable pub unmet_answer : Task → Option ℕ → Result (Maybe ℕ) Refusal
unmet_answer k none = Ok None
unmet_answer k (some n) = Ok (Some (part_offset k n))

-- "If decide answers otherwise, the tool says that nothing blocks."; with "no plan" the last layer is the one that decide reports
unfoldable pub blocked : Task → State → Built → Result (Maybe ℕ) Refusal
blocked k s (answered (reached m)) = Ok None
blocked k s (answered (exhausted m)) = unmet_answer k (first_unmet k (layer_at k s m))
blocked k s (stopped n m) = Err (record { number = n; place = m })

-- "Refusals .. are those of decide.": those of the table and of the state first, then those of its layers
unfoldable pub blocking_of : Limits → ℕ → Ready → Result (Maybe ℕ) Refusal
blocking_of L size (ready k s) = blocked k s (build L k s size)
blocking_of L size (unready r) = Err r

unfoldable pub blocking_answer : Limits → List ℕ → List ℕ → List ℤ → Result (Maybe ℕ) Refusal
blocking_answer L t bs mem = blocking_of L (length mem) (prepared L t bs)

-- ".. and layer memory are those of decide."
unfoldable pub blocking_memory : Limits → List ℕ → List ℕ → List ℤ → List ℤ
blocking_memory L t bs mem = decide_memory L t bs mem
