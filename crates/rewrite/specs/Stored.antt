-- An accepted stored table, whose moves are read from its parts, and the rewritten one, move by move. Assumes nothing.
use Rattle.std.specs.Prelude.{ℕ, ◌+◌, ◌-◌, ◌≤◌, ◌<◌, ◌≡◌, drop}
use Rattle.std.proofs.Common.{add-one, sym, ◌∙◌, length-drop, drop-cons, length-take-le}
use native.Mathlib.Omega.{arith}
use Rattle.std.proofs.Math.Path.{ap, ap₂}
use mathlib.Core.List.{List, [], ◌∷◌, ◌++◌, append_assoc}
use Rattle.std.proofs.Math.ListN.{length, get_or}
use Rattle.std.proofs.Math.Seq.{drop-length}
use Rattle.model.specs.Limits.{paper}
use Rattle.model.specs.Task.{Form, written, normal, Block, Task}
use Rattle.model.specs.Command.{head, open_move, open_goal, end_table, code_of, items_bytes, moves_bytes, task_bytes}
use Rattle.model.specs.Reading.{Verdict, accepted, refused, only, stored, length_limit, reading}
use Rattle.model.specs.Rewrite.{active_moves, rewritten}
use Rattle.model.proofs.Theorems.NormalForm.Print.{length_task}
use Rattle.model.proofs.Theorems.Rewriting.Accepted.{kept_few, kept_bytes, rewritten_shorter}
use Rattle.table.specs.Outlines.{part_at, Outline, StoredRead}
use Rattle.block.specs.Items.{Left}
use Rattle.block.specs.Parts.{ranges_of, move_left}
use Rattle.reader.specs.Parts.{PartIn, outline_part}
use Rattle.reader.specs.Written.{task_in}
use Rattle.output.specs.Writing.{Written, written_join, written_same, Writing, writing_start, writing_rest, writing_behind, writing_step, writing_end}
use Rattle.rewrite.specs.Active.{kept_first, bytes_first}

-- the form and the task that a stored table stands for
unfoldable pub form_in : Verdict → Form
form_in (accepted k) = k.header.form
form_in (refused r) = written

unfoldable pub stored_form : List ℕ → Form
stored_form t = form_in (reading paper stored t)

unfoldable pub stored_task : List ℕ → Task
stored_task t = task_in (reading paper stored t)

-- the bytes of the rewritten table
unfoldable pub rewritten_bytes : List ℕ → List ℕ
rewritten_bytes t = task_bytes (stored_form t) (rewritten (stored_task t))

-- an accepted stored table, with the offsets of its blocks
pub record Stored (t marks : List ℕ) (moves : ℕ) : Type 0 where
  pub outline : Outline (stored_form t) t marks (stored_task t)
  pub prints : t ≡ task_bytes (stored_form t) (stored_task t)
  pub count : moves ≡ length (stored_task t).moves

-- what the outline of the table answers
module _ {t marks : List ℕ} {moves : ℕ} (h : StoredRead t marks moves) where
  pub form_is : stored_form t ≡ h.table.header.form
  unfolding stored_form form_in
  form_is = ap form_in h.is

  pub task_is : stored_task t ≡ h.table.task
  unfolding stored_task task_in
  task_is = ap task_in h.is

  pub read_stored : Stored t marks moves
  read_stored =
      record {
        outline = rw (form_is, task_is) h.outline;
        prints = rw (form_is, task_is) h.prints;
        count = rw task_is h.count;
      }

module _ {t marks : List ℕ} {moves : ℕ} (s : Stored t marks moves) where
  pub few_moves : moves ≤ 64
  unfolding paper
  few_moves = omega (arith, s.count, s.outline.ok.moves)

  -- "normal 64,000 bytes at most", and written ones no more
  pub short : length t ≤ 64_000
  unfolding paper length_limit
  short = go (stored_form t) (omega (arith, ap length s.prints)) s.outline.short
    where
      go : (f : Form) → length t ≤ length (task_bytes (stored_form t) (stored_task t)) → length (task_bytes (stored_form t) (stored_task t)) ≤ length_limit paper (only f) t → length t ≤ 64_000
      go written e h = omega arith
      go normal e h = omega arith

  pub move_in : (b : ℕ) → b < moves → {part : List ℕ} → part ≡ part_at t marks b → Left (ranges_of (stored_form t) (stored_task t)) part 1 (get_or (stored_task t).moves b [])
  move_in b h e = rw e (let i : b < length (stored_task t).moves = omega (arith, s.count) in move_left s.outline.ok b i (s.outline.move b i))

  pub move_bytes : (b : ℕ) → b < moves → {part : List ℕ} → part ≡ part_at t marks b → part ≡ code_of open_move ∷ items_bytes (get_or (stored_task t).moves b [])
  move_bytes b h e = e ∙ s.outline.move b (omega (arith, s.count))

  pub goal_bytes : {part : List ℕ} → part ≡ part_at t marks moves → part ≡ code_of open_goal ∷ items_bytes (stored_task t).goal
  goal_bytes e = e ∙ ap (part_at t marks) s.count ∙ s.outline.goal

  -- the offsets of a block
  pub block_in : (b : ℕ) → b ≤ moves → PartIn t marks b
  block_in b h = outline_part s.outline b (omega (arith, s.count))

  pub part_short : (b : ℕ) → b ≤ moves → {part : List ℕ} → part ≡ part_at t marks b → length part ≤ 64_000
  part_short b h e =
      let p = block_in b h in
      let from = get_or marks b 0 in
      let to = get_or marks (b + 1) 0 in
      omega
      (arith, ap length e, length-take-le (to - from) (drop from t) (omega (arith, length-drop from t, p.rises, p.within)), p.within, short)

  pub kept_most : length (active_moves (stored_task t).moves) ≤ 64
  kept_most = omega (arith, kept_few (stored_task t).moves, s.count, few_moves)

  -- the table and what is written of it
  pub table_size : length t ≡ 6 + length (moves_bytes (stored_task t).moves) + length (items_bytes (stored_task t).goal)
  table_size = ap length s.prints ∙ length_task (stored_form t) (stored_task t)

  pub kept_short : length (moves_bytes (active_moves (stored_task t).moves)) ≤ 64_000
  kept_short = omega (arith, kept_bytes (stored_task t).moves, table_size, short)

  pub not_longer : length (rewritten_bytes t) ≤ length t
  unfolding rewritten_bytes
  not_longer = omega (arith, rewritten_shorter (stored_task t) (stored_form t), ap length s.prints)

  -- the bytes of the head
  head_bytes_lem : (get_or t 0 0 ≡ code_of (head (stored_form t))) × (get_or t 1 0 ≡ (stored_task t).props) × (get_or t 2 0 ≡ (stored_task t).vars)
  unfolding task_bytes
  head_bytes_lem = (ap (λ (l : List ℕ). get_or l 0 0) s.prints, ap (λ (l : List ℕ). get_or l 1 0) s.prints, ap (λ (l : List ℕ). get_or l 2 0) s.prints)

  -- the head, the moves that are kept, the goal, the end
  pub whole_written :
      {kept : ℕ} {part old a b c d : List ℕ} {start goal end size : ℕ}
      → kept ≡ length (active_moves (stored_task t).moves)
      → part ≡ part_at t marks moves
      → Written old 0 (get_or t 0 0 ∷ get_or t 1 0 ∷ get_or t 2 0 ∷ kept ∷ []) a start
      → Written a start (moves_bytes (active_moves (stored_task t).moves)) b goal
      → Written b goal part c end
      → Written c end (code_of end_table ∷ []) d size
      → Written old 0 (rewritten_bytes t) d size
  unfolding rewritten_bytes task_bytes rewritten
  whole_written {kept} {part} e f p q r u =
      let k = stored_task t in
      let moved = moves_bytes (active_moves k.moves) in
      let goals = code_of open_goal ∷ items_bytes k.goal in
      written_same (written_join p (written_join q (written_join r u)))
      (ap (λ (l : List ℕ). get_or t 0 0 ∷ get_or t 1 0 ∷ get_or t 2 0 ∷ kept ∷ (moved ++ (l ++ (code_of end_table ∷ [])))) (goal_bytes f)
      ∙ ap (λ (n : ℕ). n ∷ get_or t 1 0 ∷ get_or t 2 0 ∷ kept ∷ (moved ++ (goals ++ (code_of end_table ∷ [])))) head_bytes_lem.0
      ∙ ap₂ (λ (n m : ℕ). code_of (head (stored_form t)) ∷ n ∷ m ∷ kept ∷ (moved ++ (goals ++ (code_of end_table ∷ [])))) head_bytes_lem.1 head_bytes_lem.2
      ∙ ap (λ (n : ℕ). code_of (head (stored_form t)) ∷ k.props ∷ k.vars ∷ n ∷ (moved ++ (goals ++ (code_of end_table ∷ [])))) e
      ∙ ap (λ (l : List ℕ). code_of (head (stored_form t)) ∷ k.props ∷ k.vars ∷ length (active_moves k.moves) ∷ l) (sym (append_assoc moved goals (code_of end_table ∷ []))))

-- ---- the moves one by one

module _ (ms : List Block) (b : ℕ) where
  next_move : b < length ms → drop b ms ≡ get_or ms b [] ∷ drop (b + 1) ms
  next_move h = drop-cons ms b [] h ∙ ap (λ (n : ℕ). get_or ms b [] ∷ drop n ms) (sym (add-one b))

  no_move : b ≡ length ms → drop b ms ≡ []
  no_move e = ap (λ (n : ℕ). drop n ms) e ∙ drop-length ms

-- the moves before b are counted
pub record Counting (ms : List Block) (b kept : ℕ) : Type 0 where
  pub within : b ≤ length ms
  pub same : kept + length (active_moves (drop b ms)) ≡ length (active_moves ms)

pub counting_start : (ms : List Block) → Counting ms 0 0
counting_start ms = record { within = omega arith; same = omega arith }

module _ {ms : List Block} {b kept : ℕ} (c : Counting ms b kept) where
  pub counting_step : b < length ms → {n : ℕ} → n ≡ length (active_moves (get_or ms b [] ∷ [])) → Counting ms (b + 1) (kept + n)
  counting_step h {n} e =
      record {
        within = omega arith;
        same =
            omega
            (arith, c.same, e, ap (λ (l : List Block). length (active_moves l)) (next_move ms b h), kept_first (get_or ms b []) (drop (b + 1) ms));
      }

  pub counting_end : length ms ≤ b → kept ≡ length (active_moves ms)
  unfolding active_moves
  counting_end h = omega (arith, c.same, ap (λ (l : List Block). length (active_moves l)) (no_move ms b (omega (arith, c.within))))

-- the moves before b are written
pub record MovesWriting (ms : List Block) (b : ℕ) (old : List ℕ) (start : ℕ) (new : List ℕ) (to : ℕ) : Type 0 where
  pub within : b ≤ length ms
  pub writing : Writing old start (moves_bytes (active_moves ms)) new to (moves_bytes (active_moves (drop b ms)))

pub moves_start : (ms : List Block) (old : List ℕ) (start : ℕ) → MovesWriting ms 0 old start old start
moves_start ms old start = record { within = omega arith; writing = writing_start old start (moves_bytes (active_moves ms)) }

module _ {ms : List Block} {b : ℕ} {old : List ℕ} {start : ℕ} {new : List ℕ} {to : ℕ} (p : MovesWriting ms b old start new to) where
  pub moves_short : to ≤ start + length (moves_bytes ms)
  moves_short = omega (arith, writing_behind p.writing, kept_bytes ms)

  pub moves_step :
      b < length ms
      → {next : List ℕ} {on : ℕ}
      → Written new to (moves_bytes (active_moves (get_or ms b [] ∷ []))) next on
      → MovesWriting ms (b + 1) old start next on
  moves_step h w =
      record {
        within = omega arith;
        writing =
            writing_step
            (writing_rest p.writing
            (ap (λ (l : List Block). moves_bytes (active_moves l)) (next_move ms b h) ∙ bytes_first (get_or ms b []) (drop (b + 1) ms)))
            w;
      }

  pub moves_end : length ms ≤ b → Written old start (moves_bytes (active_moves ms)) new to
  unfolding active_moves moves_bytes
  moves_end h =
      writing_end
      (writing_rest p.writing (ap (λ (l : List Block). moves_bytes (active_moves l)) (no_move ms b (omega (arith, p.within)))))
