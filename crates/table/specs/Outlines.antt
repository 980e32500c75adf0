-- An accepted table with its head and the offsets of its blocks, each block's part being its print; or the refusal.
-- Assumes nothing.
use Rattle.std.specs.Prelude.{ℕ, zero, suc, ◌+◌, ◌-◌, ◌≤◌, ◌<◌, ◌≡◌, refl, List, [], ◌∷◌, ◌++◌, length, get_or, take, drop, Result, Ok, Err}
use Rattle.std.proofs.Common.{add-one, arith, sym, ap, ap₂, ◌∙◌, subst, length-append}
use Rattle.std.proofs.Math.Seq.{slice, take-nil, take-append_seam}
use Rattle.integer.specs.BigEndian.{AllBytes}
use Rattle.model.specs.declared.Refusal.{Refusal}
use Rattle.model.specs.declared.Head.{Head}
use Rattle.model.specs.Limits.{paper}
use Rattle.model.specs.Task.{Form, Block, Task}
use Rattle.model.specs.Command.{open_move, open_goal, code_of, items_bytes, moves_bytes, task_bytes}
use Rattle.model.specs.Reading.{Table, accepted, refused, Wanted, only, stored, length_limit, reading}
use Rattle.model.specs.Theorems.Reading.WellFormed.{TaskOk}
use Rattle.model.specs.Theorems.Reading.Accepted.{Accepted}
use Rattle.model.proofs.Theorems.Reading.Accepted.{reading_accepted, reading_canonical, reading_form, reading_head}
use Rattle.model.proofs.Theorems.Rewriting.Accepted.{stored_limit}
use Rattle.model.proofs.Theorems.Reading.Marks.{starts_at}
use Rattle.model.proofs.Theorems.Reading.Parts.{move_part, goal_part}
use Rattle.table.specs.Answer.{Outlined, answer_accepted, answer_refused}

-- a part by its start and its length
pub part_slice : (f e : ℕ) (l : List ℕ) → f ≤ e → take (e - f) (drop f l) ≡ slice f e l
part_slice zero e l h = ap (λ (n : ℕ). take n l) (zero_less e)
  where
    zero_less : (n : ℕ) → n - 0 ≡ n
    zero_less n = omega arith
part_slice (suc f) zero l h = absurd (omega arith)
part_slice (suc f) (suc e) [] h = take-nil (suc e - suc f)
part_slice (suc f) (suc e) (x ∷ l) h = ap (λ (n : ℕ). take n (drop f l)) (both e f) ∙ part_slice f e l (omega arith)
  where
    both : (m n : ℕ) → suc m - suc n ≡ m - n
    both m n = omega arith

-- the part of block b
abbrev pub part_at : List ℕ → List ℕ → ℕ → List ℕ
part_at table marks b = take (get_or marks (b + 1) 0 - get_or marks b 0) (drop (get_or marks b 0) table)

-- the table's task, with its blocks where the marks say
pub record Outline (f : Form) (table marks : List ℕ) (k : Task) : Type 0 where
  pub ok : TaskOk paper f k
  pub short : length (task_bytes f k) ≤ length_limit paper (only f) table
  pub long : length k.moves + 2 ≤ length marks
  pub ordered : (b : ℕ) → b ≤ length k.moves → get_or marks b 0 ≤ get_or marks (b + 1) 0
  pub within : (b : ℕ) → b ≤ length k.moves → get_or marks (b + 1) 0 ≤ length table
  pub move : (b : ℕ) → b < length k.moves → part_at table marks b ≡ code_of open_move ∷ items_bytes (get_or k.moves b [])
  pub goal : part_at table marks (length k.moves) ≡ code_of open_goal ∷ items_bytes k.goal
  -- the goal stands behind the head and the moves
  pub goal_mark : get_or marks (length k.moves) 0 ≡ 4 + length (moves_bytes k.moves)

-- what is above 0 stands within the list
pub inside_list : (l : List ℕ) (i : ℕ) → 0 < get_or l i 0 → i < length l
inside_list [] i h = absurd (omega arith)
inside_list (x ∷ l) zero h = omega arith
inside_list (x ∷ l) (suc i) h = omega (arith, inside_list l i h)

-- what reading and the offsets of the 41, 47 and 45 commands give, of a table of the form f
module _ (w : Wanted) (f : Form) (table marks : List ℕ) (t : Table) (e : reading paper w table ≡ accepted t)
    (form_is : t.header.form ≡ f) (limit : length_limit paper w table ≡ length_limit paper (only f) table) (all : AllBytes table)
    (same : (b : ℕ) → b ≤ t.header.moves + 1 → get_or marks b 0 ≡ get_or t.marks b 0)
    (rising : (b : ℕ) → b ≤ t.header.moves → get_or marks b 0 < get_or marks (suc b) 0)
    (inside : (b : ℕ) → b ≤ t.header.moves + 1 → get_or marks b 0 < length table)
  where
    a : Accepted paper w table t
    a = reading_accepted paper w table e

    pub outline_moves : t.header.moves ≡ length t.task.moves
    outline_moves = a.moves

    order : (b : ℕ) → b ≤ length t.task.moves → get_or marks b 0 ≤ get_or marks (b + 1) 0
    order b h = rw (add-one b) (omega (arith, rising b (omega (arith, outline_moves))))

    last : (b : ℕ) → b ≤ length t.task.moves → get_or marks (b + 1) 0 ≤ length table
    last b h = omega (arith, inside (b + 1) (omega (arith, outline_moves)))

    part_is : (b : ℕ) → b ≤ length t.task.moves → part_at table marks b ≡ slice (get_or t.marks b 0) (get_or t.marks (suc b) 0) table
    part_is b h =
        part_slice (get_or marks b 0) (get_or marks (b + 1) 0) table (order b h)
        ∙ ap₂ (λ (x y : ℕ). slice x y table) (same b (omega (arith, outline_moves)))
        (same (b + 1) (omega (arith, outline_moves)) ∙ ap (λ (n : ℕ). get_or t.marks n 0) (add-one b))

    goal_at : get_or marks (length t.task.moves) 0 ≡ 4 + length (moves_bytes t.task.moves)
    goal_at =
        let ms = t.task.moves in
        same (length ms) (omega (arith, outline_moves))
        ∙ ap (λ (l : List ℕ). get_or l (length ms) 0) a.marks
        ∙ starts_at 4 (ms ++ (t.task.goal ∷ [])) (length ms) (omega (arith, length-append ms (t.task.goal ∷ [])))
        ∙ ap (λ (bs : List Block). 4 + length (moves_bytes bs)) (take-append_seam ms (t.task.goal ∷ []))

    pub outline_of : Outline f table marks t.task
    outline_of =
        record {
          ok = subst (λ (g : Form). TaskOk paper g t.task) form_is a.ok;
          short =
              subst (λ (g : Form). length (task_bytes g t.task) ≤ length_limit paper (only f) table) form_is
              (omega (arith, a.prints.long, a.short, limit));
          long =
              omega
              (arith, inside_list marks (suc t.header.moves) (omega (arith, rising t.header.moves (omega arith))), outline_moves);
          ordered = order;
          within = last;
          move = λ b h. part_is b (omega arith) ∙ move_part a all b h;
          goal = part_is (length t.task.moves) (omega arith) ∙ goal_part a all;
          goal_mark = goal_at;
        }

-- the head that was read, of an accepted table
pub record HeadRead (f : Form) (t marks : List ℕ) (props vars moves : ℕ) : Type 0 where
  pub table : Table
  pub is : reading paper (only f) t ≡ accepted table
  pub outline : Outline f t marks table.task
  pub props_is : props ≡ table.task.props
  pub vars_is : vars ≡ table.task.vars
  pub count : moves ≡ length table.task.moves

module _ (f : Form) {t marks : List ℕ} {r : Result Head Refusal} (o : Outlined t (reading paper (only f) t) r marks) where
  pub head_read :
      {h : Head}
      → r ≡ Ok h
      → AllBytes t
      → HeadRead f t marks h.props h.vars h.moves
  head_read {h} e all =
      let a = answer_accepted (reading paper (only f) t) h (sym o.answer ∙ e) in
      let k = a.table in
      let sizes = reading_head paper (only f) t a.is in
      record {
        table = k;
        is = a.is;
        outline = outline_of (only f) f t marks k a.is (reading_form paper f t a.is) refl all (o.marks k a.is) (o.rising k a.is) (o.inside k a.is);
        props_is = sym a.props_is ∙ sizes.0;
        vars_is = sym a.vars_is ∙ sizes.1;
        count = sym a.moves_is ∙ sizes.2;
      }

  pub head_refused : {q : Refusal} → r ≡ Err q → reading paper (only f) t ≡ refused q
  head_refused {q} e = answer_refused (reading paper (only f) t) q (sym o.answer ∙ e)

-- ---- a stored table, of either form

pub record StoredRead (t marks : List ℕ) (moves : ℕ) : Type 0 where
  pub table : Table
  pub is : reading paper stored t ≡ accepted table
  pub outline : Outline table.header.form t marks table.task
  pub prints : t ≡ task_bytes table.header.form table.task
  pub count : moves ≡ length table.task.moves

pub stored_read :
    {t marks : List ℕ} {r : Result Head Refusal} {h : Head}
    → Outlined t (reading paper stored t) r marks
    → r ≡ Ok h
    → AllBytes t
    → StoredRead t marks h.moves
stored_read {t} {marks} {h = h} o e all =
    let a = answer_accepted (reading paper stored t) h (sym o.answer ∙ e) in
    let k = a.table in
    let f = k.header.form in
    let prints = reading_canonical paper stored t a.is all in
    let limit : length_limit paper stored t ≡ length_limit paper (only f) t =
    ap (length_limit paper stored) prints ∙ stored_limit paper f k.task k.task ∙ sym (ap (length_limit paper (only f)) prints)
    in
    record {
      table = k;
      is = a.is;
      outline = outline_of stored f t marks k a.is refl limit all (o.marks k a.is) (o.rising k a.is) (o.inside k a.is);
      prints = prints;
      count = sym a.moves_is ∙ (reading_head paper stored t a.is).2;
    }
