-- An accepted written table and the print of its task without the terms of weight 0: that one is accepted too. Accepted tables that
-- differ only in terms of weight 0: normalise, step, campaign and the listing program do the same for both. Terms of weight 0 put into an
-- accepted table: it stays accepted. Assumes nothing.
use Rattle.std.specs.Prelude.{ℕ, ◌≤◌, ◌≡◌, refl, true, false, ◌||◌, T, ltb, length, Err}
use Rattle.std.proofs.Common.{arith, sym, ap₂, ◌∙◌, subst, length-append}
use Rattle.std.proofs.Math.Path.{ap}
use mathlib.Core.List.{List, [], ◌∷◌, map}
use Rattle.std.proofs.Math.Option.{Option, none, some}
use Rattle.model.specs.declared.Refusal.{Refusal}
use Rattle.model.specs.Limits.{Limits, paper}
use Rattle.model.specs.Lists.{any}
use Rattle.model.specs.Task.{written, Item, need, add, delete, condition, effect, Block, Task, terms_of, changes, active}
use Rattle.model.specs.Move.{State}
use Rattle.model.specs.Command.{item_bytes, items_bytes, moves_bytes, task_bytes}
use Rattle.model.specs.Reading.{Table, Verdict, accepted, only, length_limit, reading}
use Rattle.model.specs.StateTable.{state_of, state_refusal}
use Rattle.model.specs.Calls.{Output, writes, turns, fitted, write_answer, output_after, normal_of, normalised, normalise_answer, normalise_out, result_of, moved, step_with_state, step_of, stepped, step_answer, step_out, on_output, prepared, decide_answer, plan_answer, plan_memory, plan_out, campaign_decision, campaign_plan, campaign_memory, campaign_out}
use Rattle.model.specs.Listing.{listing_bytes, refusal_text, ready_text, listing}
use Rattle.model.specs.Theorems.Reading.WellFormed.{All, TaskOk}
use Rattle.model.proofs.Theorems.Reading.Accepted.{reading_task, reading_active}
use Rattle.model.specs.Theorems.Reading.Active.{AllActive}
use Rattle.model.proofs.Theorems.Reading.Active.{only_checks}
use Rattle.model.proofs.Theorems.Reading.Kept.{kept_length}
use Rattle.model.proofs.Theorems.Printing.Passing.{paper_small}
use Rattle.model.specs.Theorems.Printing.Items.{item_command}
use Rattle.model.proofs.Theorems.Printing.Items.{length_item}
use Rattle.model.specs.Theorems.Printing.Tables.{printed_table}
use Rattle.model.proofs.Theorems.Printing.Tables.{print_read_only}
use Rattle.model.proofs.Theorems.NormalForm.Blocks.{All-of-map}
use Rattle.model.proofs.Theorems.NormalForm.Print.{length_task, written_short}
use Rattle.model.specs.Theorems.NormalForm.ZeroTerms.{item_without, block_without, without_zero}
use Rattle.model.proofs.Theorems.NormalForm.ZeroTerms.{without_normal_bytes, without_ok, without_moves, move_applicable, after_move, SumsOk, filled_ok}
use Rattle.model.specs.Theorems.NormalForm.ZeroTables.{SameAnswers}

-- ---- it is no longer

item_shorter : (i : Item) → length (item_bytes (item_without i)) ≤ length (item_bytes i)
unfolding item_without terms_of item_command
item_shorter (need p) = omega arith
item_shorter (add p) = omega arith
item_shorter (delete p) = omega arith
item_shorter (condition c) = omega (arith, length_item (item_without (condition c)), length_item (condition c), kept_length c.terms)
item_shorter (effect e) = omega (arith, length_item (item_without (effect e)), length_item (effect e), kept_length e.terms)

block_shorter : (b : Block) → length (items_bytes (block_without b)) ≤ length (items_bytes b)
unfolding items_bytes block_without
block_shorter [] = omega arith
block_shorter (i ∷ b) =
    omega (
      arith,
      length-append (item_bytes (item_without i)) (items_bytes (block_without b)),
      length-append (item_bytes i) (items_bytes b),
      item_shorter i,
      block_shorter b,
    )

blocks_shorter : (bs : List Block) → length (moves_bytes (map block_without bs)) ≤ length (moves_bytes bs)
unfolding moves_bytes
blocks_shorter [] = omega arith
blocks_shorter (b ∷ bs) =
    omega (
      arith,
      length-append (items_bytes (block_without b)) (moves_bytes (map block_without bs)),
      length-append (items_bytes b) (moves_bytes bs),
      block_shorter b,
      blocks_shorter bs,
    )

without_shorter : (k : Task) → length (task_bytes written (without_zero k)) ≤ length (task_bytes written k)
unfolding without_zero
without_shorter k =
    omega
    (arith, length_task written (without_zero k), length_task written k, blocks_shorter k.moves, block_shorter k.goal)

-- ---- it does as much
item_changes : (i : Item) → changes (item_without i) ≡ changes i
unfolding item_without changes
item_changes (need p) = refl
item_changes (add p) = refl
item_changes (delete p) = refl
item_changes (condition c) = refl
item_changes (effect e) = refl

block_active : (b : Block) → active (block_without b) ≡ active b
unfolding active any block_without
block_active [] = refl
block_active (i ∷ b) = ap₂ ◌||◌ (item_changes i) (block_active b)

without_active : (ms : List Block) → AllActive ms → AllActive (map block_without ms)
without_active ms = All-of-map (λ b. T (active b)) block_without ms (λ b. subst T (sym (block_active b)))

filled_active : (ms : List Block) → AllActive (map block_without ms) → AllActive ms
filled_active [] a = tt
filled_active (b ∷ ms) a = (subst T (block_active b) a.0, filled_active ms a.1)

-- ---- a move
moved_same : (L : Limits) (k : Task) (s : State) (b : ℕ) → moved L (without_zero k) s b ≡ moved L k s b
unfolding moved without_zero
moved_same L k s b =
    λ i.
    elim (move_applicable k b s i) [
      | true ↦ result_of L k.props k.vars (after_move k b s i)
      | false ↦ turns (record { number = 11; place = 0 })
    ]

step_same : (L : Limits) (k : Task) (bs : List ℕ) (b : ℕ) (o : Option Refusal) → step_with_state L (without_zero k) bs b o ≡ step_with_state L k bs b o
unfolding step_with_state without_zero
step_same L k bs b (some r) = refl
step_same L k bs b none =
    λ i.
    elim (ltb b (without_moves k i)) [
      | true ↦ moved_same L k (state_of k.props bs) b i
      | false ↦ turns (record { number = 10; place = 0 })
    ]

-- ---- the calls
accepted_active : (t : List ℕ) {w : Table} → reading paper (only written) t ≡ accepted w → AllActive w.task.moves
accepted_active t read = reading_active paper (only written) t read (only_checks written)

module _ (t : List ℕ) {w : Table} (read : reading paper (only written) t ≡ accepted w) where
  -- the table without its terms of weight 0
  abbrev pub lean : List ℕ
  lean = task_bytes written (without_zero w.task)

  pub lean_accepted : reading paper (only written) lean ≡ accepted (printed_table written (without_zero w.task))
  unfolding paper length_limit without_zero
  lean_accepted =
      print_read_only written (without_zero w.task) paper_small (without_ok w.task (reading_task paper written t read))
      (without_active w.task.moves (accepted_active t read))
      (omega (arith, without_shorter w.task, written_short t read))

  lean_normalised : (size : ℕ) → normalised paper lean size ≡ normalised paper t size
  unfolding normalised normal_of printed_table
  lean_normalised size =
      ap (λ (v : Verdict). fitted size (normal_of v)) lean_accepted
      ∙ ap (λ (bs : List ℕ). fitted size (writes bs)) (without_normal_bytes w.task)
      ∙ ap (λ (v : Verdict). fitted size (normal_of v)) (sym read)

  -- "the normal form drops it": normalise answers and writes the same
  pub lean_normalise_answer : (out : List ℕ) → normalise_answer paper lean out ≡ normalise_answer paper t out
  unfolding normalise_answer
  lean_normalise_answer out = ap write_answer (lean_normalised (length out))

  pub lean_normalise_out : (out : List ℕ) → normalise_out paper lean out ≡ normalise_out paper t out
  unfolding normalise_out
  lean_normalise_out out = ap (λ (o : Output). output_after o out) (lean_normalised (length out))

  lean_stepped : (bs : List ℕ) (b size : ℕ) → stepped paper lean bs b size ≡ stepped paper t bs b size
  unfolding stepped step_of printed_table without_zero
  lean_stepped bs b size =
      ap (λ (v : Verdict). fitted size (step_of paper v bs b)) lean_accepted
      ∙ ap (fitted size) (step_same paper w.task bs b (state_refusal paper w.task.props w.task.vars bs))
      ∙ ap (λ (v : Verdict). fitted size (step_of paper v bs b)) (sym read)

  -- "a real step passes over it": so does step
  pub lean_step_answer : (bs : List ℕ) (b : ℕ) (out : List ℕ) → step_answer paper lean bs b out ≡ step_answer paper t bs b out
  unfolding step_answer
  lean_step_answer bs b out = ap write_answer (lean_stepped bs b (length out))

  pub lean_step_out : (bs : List ℕ) (b : ℕ) (out : List ℕ) → step_out paper lean bs b out ≡ step_out paper t bs b out
  unfolding step_out
  lean_step_out bs b out = ap (λ (o : Output). output_after o out) (lean_stepped bs b (length out))

module _
    (t u : List ℕ) {w z : Table}
    (first : reading paper (only written) t ≡ accepted w)
    (second : reading paper (only written) u ≡ accepted z)
    (same : without_zero w.task ≡ without_zero z.task) where
  -- what does the same for each table without its terms of weight 0 does the same for both
  alike : {X : Type 0} (f : List ℕ → X) → f (lean t first) ≡ f t → f (lean u second) ≡ f u → f t ≡ f u
  alike f e g = sym e ∙ ap (λ (k : Task). f (task_bytes written k)) same ∙ g

  same_normalised : (size : ℕ) → normalised paper t size ≡ normalised paper u size
  same_normalised size = alike (λ (l : List ℕ). normalised paper l size) (lean_normalised t first size) (lean_normalised u second size)

  -- "A written term with weight 0 is to be read as no contribution."
  pub same_answers : SameAnswers t u
  unfolding campaign_decision campaign_plan campaign_memory campaign_out listing
  same_answers =
      record {
        normalise = λ out. (
          alike (λ (l : List ℕ). normalise_answer paper l out) (lean_normalise_answer t first out) (lean_normalise_answer u second out),
          alike (λ (l : List ℕ). normalise_out paper l out) (lean_normalise_out t first out) (lean_normalise_out u second out),
        );
        step = λ bs b out. (
          alike (λ (l : List ℕ). step_answer paper l bs b out) (lean_step_answer t first bs b out) (lean_step_answer u second bs b out),
          alike (λ (l : List ℕ). step_out paper l bs b out) (lean_step_out t first bs b out) (lean_step_out u second bs b out),
        );
        decision = λ bs normalOut mem.
            ap (λ (o : Output). on_output o (λ nb. decide_answer paper nb bs mem) (λ r. Err r)) (same_normalised (length normalOut));
        plan = λ bs normalOut mem out.
            ap (λ (o : Output). on_output o (λ nb. plan_answer paper nb bs mem out) (λ r. Err r)) (same_normalised (length normalOut));
        memory = λ bs normalOut mem.
            ap (λ (o : Output). on_output o (λ nb. plan_memory paper nb bs mem) (λ r. mem)) (same_normalised (length normalOut));
        records = λ bs normalOut mem out.
            ap (λ (o : Output). on_output o (λ nb. plan_out paper nb bs mem out) (λ r. out)) (same_normalised (length normalOut));
        listed = λ bs.
            ap (λ (o : Output). on_output o (λ nb. ready_text paper (prepared paper nb bs)) (λ r. refusal_text r)) (same_normalised listing_bytes);
      }

-- "Refusal 4 no longer covers it": where a table is accepted, so is the print of any task k that differs from it only in terms of weight 0,
-- if that is not too long and each sum of k has eight terms at most, on variables of the table, strictly rising
pub filled_accepted :
    (t : List ℕ) {w : Table} (read : reading paper (only written) t ≡ accepted w) (k : Task)
    → without_zero k ≡ without_zero w.task
    → All (SumsOk paper written k.vars) k.moves
    → SumsOk paper written k.vars k.goal
    → length (task_bytes written k) ≤ 32_000
    → reading paper (only written) (task_bytes written k) ≡ accepted (printed_table written k)
unfolding paper length_limit without_zero
filled_accepted t {w} read k same moves goal short =
    let ok : TaskOk paper written (without_zero k) =
    subst (TaskOk paper written) (sym same) (without_ok w.task (reading_task paper written t read))
    in
    let does : AllActive (without_zero k).moves =
    subst (λ (n : Task). AllActive n.moves) (sym same) (without_active w.task.moves (accepted_active t read))
    in
    print_read_only written k paper_small (filled_ok k ok moves goal) (filled_active k.moves does) short
