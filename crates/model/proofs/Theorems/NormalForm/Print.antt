-- The printed normal form: at most twice as long as the written table, accepted as the normal task, with a state that is
-- accepted for both tables or for neither. Assumes nothing.
use Rattle.std.specs.Prelude.{ℕ, ◌+◌, ◌*◌, ◌/◌, ◌≤◌, ◌≡◌, refl, List, [], ◌∷◌, ◌++◌, map, ℤ, pos, neg_ℤ, ◌+ℤ◌, ◌-ℤ◌, length}
use Rattle.std.proofs.Common.{arith, sym, ◌∙◌, length-append}
use Rattle.std.proofs.Math.Path.{ap}
use Rattle.std.proofs.lemmas.List.{length-map}
use Rattle.model.specs.Limits.{Limits, paper}
use Rattle.model.specs.Task.{Form, written, normal, Term, kept, Comparison, at_least, above, at_most, below, equal, Kind, assign, increase, decrease, Item, need, add, delete, condition, effect, Block, Task, terms_of}
use Rattle.model.specs.NormalForm.{negated, signed_term, signed_sum, least, normal_condition, mirrored, normal_effect, normal_item, normal_block, normal_task}
use Rattle.model.specs.Command.{open_goal, end_table, code_of, width, item_bytes, items_bytes, moves_bytes, task_bytes}
use Rattle.model.specs.Reading.{Table, accepted, only, length_limit, reading}
use Rattle.model.specs.Calls.{normal_bytes}
use Rattle.model.specs.StateTable.{state_refusal}
use Rattle.model.specs.Theorems.Reading.WellFormed.{TaskOk}
use Rattle.model.proofs.Theorems.Reading.Kept.{kept_length}
use Rattle.model.proofs.Theorems.Reading.Accepted.{reading_length, reading_limit, reading_form, reading_task, reading_active}
use Rattle.model.specs.Theorems.NormalForm.SignedSums.{negative}
use Rattle.model.proofs.Theorems.NormalForm.SignedSums.{negated_map}
use Rattle.model.specs.Theorems.Reading.Active.{AllActive}
use Rattle.model.proofs.Theorems.Reading.Active.{only_checks}
use Rattle.model.proofs.Theorems.NormalForm.Active.{normal_all_active}
use Rattle.model.proofs.Theorems.NormalForm.Task.{normal_ok}
use Rattle.model.specs.Theorems.Printing.Passing.{SmallLimits}
use Rattle.model.proofs.Theorems.Printing.Passing.{paper_small}
use Rattle.model.specs.Theorems.Printing.Items.{item_command}
use Rattle.model.proofs.Theorems.Printing.Items.{length_item}
use Rattle.model.specs.Theorems.Printing.Tables.{head_of, printed_table}
use Rattle.model.proofs.Theorems.Printing.Tables.{print_read_only}
use Rattle.model.specs.Theorems.NormalForm.Print.{normal_table}

-- ---- lengths

-- "the normal form drops it": a signed sum has no more terms
length_signed : (ts : List Term) → length (signed_sum ts) ≤ length ts
unfolding signed_sum
length_signed ts = omega (arith, length-map (kept ts) signed_term, kept_length ts)

length_negated : (ts : List Term) → length (negated ts) ≡ length ts
length_negated ts = rw (← negated_map ts) (length-map ts negative)

length_items : (b d : Block) → length (items_bytes (b ++ d)) ≡ length (items_bytes b) + length (items_bytes d)
unfolding items_bytes
length_items [] d = omega arith
length_items (i ∷ b) d =
    omega (arith, length-append (item_bytes i) (items_bytes (b ++ d)), length-append (item_bytes i) (items_bytes b), length_items b d)

-- a normal condition, and a normal effect, in front of a block
length_least :
    (ts : List Term) (c : ℤ) (b : Block)
    → length (items_bytes (least ts c ∷ b)) ≤ 4 * length ts + 6 + length (items_bytes b)
unfolding items_bytes least terms_of item_command width
length_least ts c b =
    omega (arith, length-append (item_bytes (least ts c)) (items_bytes b), length_item (least ts c), length_signed ts)

length_effect :
    (k : Kind) (v : ℕ) (ts : List Term) (c : ℤ) (b : Block)
    → length (items_bytes (effect (record { kind = k; var = v; terms = signed_sum ts; base = c }) ∷ b))
    ≤ 4 * length ts + 7 + length (items_bytes b)
unfolding items_bytes terms_of item_command width
length_effect k v ts c b =
    let i : Item = effect (record { kind = k; var = v; terms = signed_sum ts; base = c }) in
    omega (arith, length-append (item_bytes i) (items_bytes b), length_item i, length_signed ts)

condition_length :
    (o : Comparison) (ts : List Term) (c : ℤ)
    → length (items_bytes (normal_condition o ts c)) ≤ 2 * (4 * length ts + 6)
unfolding normal_condition items_bytes
condition_length at_least ts c = omega (arith, length_least ts c [])
condition_length above ts c = omega (arith, length_least ts (c +ℤ pos 1) [])
condition_length at_most ts c = omega (arith, length_least (negated ts) (neg_ℤ c) [], length_negated ts)
condition_length below ts c = omega (arith, length_least (negated ts) (pos 1 -ℤ c) [], length_negated ts)
condition_length equal ts c =
    let second = least (negated ts) (neg_ℤ c) in
    omega (arith, length_least ts c (second ∷ []), length_least (negated ts) (neg_ℤ c) [], length_negated ts)

mirrored_length :
    (k : Kind) (v : ℕ) (ts : List Term) (c : ℤ)
    → length (items_bytes (mirrored k v ts c)) ≤ 2 * (4 * length ts + 7)
unfolding mirrored items_bytes
mirrored_length k v ts c =
    let mirror : Item = effect (record { kind = k; var = 2 * v + 1; terms = signed_sum (negated ts); base = neg_ℤ c }) in
    omega
    (arith, length_effect k (2 * v) ts c (mirror ∷ []), length_effect k (2 * v + 1) (negated ts) (neg_ℤ c) [], length_negated ts)

effect_length :
    (k : Kind) (v : ℕ) (ts : List Term) (c : ℤ)
    → length (items_bytes (normal_effect k v ts c)) ≤ 2 * (4 * length ts + 7)
unfolding normal_effect
effect_length assign v ts c = mirrored_length assign v ts c
effect_length increase v ts c = mirrored_length increase v ts c
effect_length decrease v ts c = omega (arith, mirrored_length increase v (negated ts) (neg_ℤ c), length_negated ts)

item_length : (i : Item) → length (items_bytes (normal_item i)) ≤ 2 * length (item_bytes i)
unfolding normal_item item_bytes items_bytes terms_of item_command width
item_length (need p) = omega arith
item_length (add p) = omega arith
item_length (delete p) = omega arith
item_length (condition c) = omega (arith, condition_length c.comparison c.terms c.bound, length_item (condition c))
item_length (effect e) = omega (arith, effect_length e.kind e.var e.terms e.base, length_item (effect e))

block_length : (b : Block) → length (items_bytes (normal_block b)) ≤ 2 * length (items_bytes b)
unfolding normal_block items_bytes
block_length [] = omega arith
block_length (i ∷ b) =
    omega
    (arith, length_items (normal_item i) (normal_block b), length-append (item_bytes i) (items_bytes b), item_length i, block_length b)

moves_length : (bs : List Block) → length (moves_bytes (map normal_block bs)) ≤ 2 * length (moves_bytes bs)
unfolding moves_bytes
moves_length [] = omega arith
moves_length (b ∷ bs) =
    let normal-rest = moves_bytes (map normal_block bs) in
    omega (
      arith,
      length-append (items_bytes (normal_block b)) normal-rest,
      length-append (items_bytes b) (moves_bytes bs),
      block_length b,
      moves_length bs,
    )

pub length_task :
    (f : Form) (k : Task)
    → length (task_bytes f k) ≡ 6 + length (moves_bytes k.moves) + length (items_bytes k.goal)
unfolding task_bytes
length_task f k =
    let moves = moves_bytes k.moves in
    let goal = code_of open_goal ∷ items_bytes k.goal in
    omega (arith, length-append (moves ++ goal) (code_of end_table ∷ []), length-append moves goal)

-- A printed normal form is at most twice as long as the written table.
pub normal_length_lem : (k : Task) → length (normal_bytes k) ≤ 2 * length (task_bytes written k)
unfolding normal_bytes normal_task
normal_length_lem k =
    omega (arith, length_task written k, length_task normal (normal_task k), moves_length k.moves, block_length k.goal)

-- "written 32,000, normal 64,000 bytes at most": the normal form of a written table is never too long
pub normal_fits : (k : Task) → length (task_bytes written k) ≤ 32_000 → length (normal_bytes k) ≤ 64_000
normal_fits k short = omega (arith, normal_length_lem k)

normal_table_lem : (k : Task) → printed_table normal (normal_task k) ≡ normal_table k
unfolding printed_table head_of normal_table normal_task
normal_table_lem k = rw (length-map k.moves normal_block) refl

-- where a normal table may be twice as long as a written one
pub normal_read :
    {L : Limits} (k : Task)
    → SmallLimits L
    → 2 * L.written_length ≤ L.normal_length
    → TaskOk L written k
    → AllActive k.moves
    → length (task_bytes written k) ≤ L.written_length
    → reading L (only normal) (normal_bytes k) ≡ accepted (normal_table k)
unfolding normal_bytes length_limit
normal_read {L} k small room ok does short =
    print_read_only normal (normal_task k) small (normal_ok L k ok) (unfold normal_task in (normal_all_active k.moves does)) (omega (arith, normal_length_lem k))
    ∙ ap accepted (normal_table_lem k)

-- the print of an accepted written table's task is as long as the table
pub written_length_lem : (t : List ℕ) {w : Table} → reading paper (only written) t ≡ accepted w → length (task_bytes written w.task) ≡ length t
written_length_lem t {w} e =
    ap (λ (f : Form). length (task_bytes f w.task)) (sym (reading_form paper written t e)) ∙ sym (reading_length paper (only written) t e)

-- "written 32,000 .. bytes at most"
pub written_short : (t : List ℕ) {w : Table} → reading paper (only written) t ≡ accepted w → length (task_bytes written w.task) ≤ 32_000
unfolding paper length_limit
written_short t {w} e =
    let limit : length t ≤ 32_000 = reading_limit paper (only written) t e in
    omega (arith, written_length_lem t e)

-- The normal form of every accepted written table is a table that decide and plan accept: head 4E with the same propositions,
-- twice the variables and as many moves, and the normal task.
pub normal_accepted :
    (t : List ℕ) {w : Table}
    → reading paper (only written) t ≡ accepted w
    → reading paper (only normal) (normal_bytes w.task) ≡ accepted (normal_table w.task)
unfolding paper
normal_accepted t {w} e =
    normal_read w.task paper_small (omega arith) (reading_task paper written t e)
    (reading_active paper (only written) t e (only_checks written)) (written_short t e)

-- ---- the state
-- "then one 4-byte value a written variable (V, or N/2)": a state is accepted for a written table and for its normal form, or
-- refused for both, with the same number and place.
pub normal_state :
    (L : Limits) (k : Task) (bs : List ℕ)
    → state_refusal L (normal_task k).props ((normal_task k).vars / 2) bs ≡ state_refusal L k.props k.vars bs
unfolding normal_task
normal_state L k bs = ap (λ (n : ℕ). state_refusal L k.props n bs) (omega arith)
