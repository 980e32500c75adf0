-- The normal form of a whole table, block by block. Assumes nothing.
use Rattle.std.specs.Prelude.{ℕ, ◌+◌, ◌*◌, ◌≤◌, ◌<◌, ◌≡◌, List, [], ◌∷◌, ◌++◌, map, length, get_or, drop}
use Rattle.std.proofs.Common.{add-one, arith, sym, ap, ap₂, ◌∙◌, append_assoc, length-append, drop-cons}
use Rattle.std.proofs.lemmas.List.{length-map}
use Rattle.std.proofs.Math.Seq.{drop-length}
use Rattle.model.specs.Limits.{paper}
use Rattle.model.specs.Task.{written, normal, Block, Task}
use Rattle.model.specs.Command.{head, open_move, open_goal, end_table, code_of, items_bytes, moves_bytes, task_bytes}
use Rattle.model.specs.Reading.{length_limit}
use Rattle.model.specs.NormalForm.{normal_block, normal_task}
use Rattle.model.specs.Calls.{normal_bytes}
use Rattle.model.proofs.Theorems.NormalForm.Print.{normal_length_lem, normal_fits, written_length_lem}
use Rattle.table.specs.Outlines.{HeadRead}
use Rattle.reader.specs.Written.{read_task, Source, task_is}
use Rattle.output.specs.Writing.{Written, written_join, written_same, Writing, writing_start, writing_rest, writing_behind, writing_step, writing_end}
use Rattle.normal_block.specs.Blocks.{block_print}

-- "normal 64,000 bytes at most"
pub source_small : {t marks : List ℕ} {moves : ℕ} → Source t marks moves → length (normal_bytes (read_task t)) ≤ 64_000
source_small {t} s = normal_fits (read_task t) (unfold paper length_limit in s.outline.short)

-- an output of twice the table's length is long enough
pub normal_twice : {t marks : List ℕ} {props vars moves : ℕ} → HeadRead written t marks props vars moves → length (normal_bytes (read_task t)) ≤ 2 * length t
normal_twice {t} h = rw (task_is h) (omega (arith, normal_length_lem h.table.task, written_length_lem t h.is))

-- ---- the bytes of the moves

unfoldable pub moves_print : List Block → List ℕ
moves_print ms = moves_bytes (map normal_block ms)

pub moves_next : (ms : List Block) (b : ℕ) → b < length ms → moves_print (drop b ms) ≡ (code_of open_move ∷ block_print (get_or ms b [])) ++ moves_print (drop (b + 1) ms)
unfolding moves_print moves_bytes block_print
moves_next ms b h = ap moves_print (drop-cons ms b [] h ∙ ap (λ (n : ℕ). get_or ms b [] ∷ drop n ms) (sym (add-one b)))

pub moves_none : (ms : List Block) (b : ℕ) → b ≡ length ms → moves_print (drop b ms) ≡ []
unfolding moves_print moves_bytes
moves_none ms b e = ap moves_print (ap (λ (n : ℕ). drop n ms) e ∙ drop-length ms)

-- ---- the bytes of the table

pub normal_parts :
    (k : Task)
    → normal_bytes k
    ≡ (code_of (head normal) ∷ k.props ∷ [])
    ++ ((2 * k.vars ∷ length k.moves ∷ [])
    ++ (moves_print k.moves ++ ((code_of open_goal ∷ block_print k.goal) ++ (code_of end_table ∷ []))))
unfolding normal_bytes task_bytes normal_task moves_print block_print
normal_parts k =
    rw (length-map k.moves normal_block)
    (ap (λ (l : List ℕ). code_of (head normal) ∷ k.props ∷ 2 * k.vars ∷ length k.moves ∷ l)
    (append_assoc (moves_bytes (map normal_block k.moves)) (code_of open_goal ∷ items_bytes (normal_block k.goal)) (code_of end_table ∷ [])))

pub normal_size : (k : Task) → length (normal_bytes k) ≡ length (moves_print k.moves) + length (block_print k.goal) + 6
normal_size k =
    omega
    (arith, ap length (normal_parts k), length-append (moves_print k.moves) ((code_of open_goal ∷ block_print k.goal) ++ (code_of end_table ∷ [])), length-append (code_of open_goal ∷ block_print k.goal) (code_of end_table ∷ []))

pub whole_short :
    {t marks : List ℕ} {moves : ℕ}
    → Source t marks moves
    → length (moves_print (read_task t).moves) + length (block_print (read_task t).goal) + 6 ≤ 64_000
whole_short {t} s = omega (arith, normal_size (read_task t), source_small s)

-- ---- the moves one by one

-- the blocks before b are written
pub record MovesWriting (ms : List Block) (b : ℕ) (old : List ℕ) (start : ℕ) (new : List ℕ) (to : ℕ) : Type 0 where
  pub within : b ≤ length ms
  pub writing : Writing old start (moves_print ms) new to (moves_print (drop b ms))

pub moves_start : (ms : List Block) (old : List ℕ) (start : ℕ) → MovesWriting ms 0 old start old start
moves_start ms old start = record { within = omega arith; writing = writing_start old start (moves_print ms) }

module _ {ms : List Block} {b : ℕ} {old : List ℕ} {start : ℕ} {new : List ℕ} {to : ℕ} (p : MovesWriting ms b old start new to) where
  pub moves_short : b < length ms → start + length (moves_print ms) ≤ 64_000 → to + 1 + length (block_print (get_or ms b [])) ≤ 64_000
  moves_short h short =
      omega
      (arith, writing_behind p.writing, ap length (moves_next ms b h), length-append (code_of open_move ∷ block_print (get_or ms b [])) (moves_print (drop (b + 1) ms)))

  pub moves_step :
      b < length ms
      → {next : List ℕ} {on : ℕ}
      → Written new to (code_of open_move ∷ block_print (get_or ms b [])) next on
      → MovesWriting ms (b + 1) old start next on
  moves_step h w = record { within = omega arith; writing = writing_step (writing_rest p.writing (moves_next ms b h)) w }

  pub moves_end : length ms ≤ b → Written old start (moves_print ms) new to
  moves_end h = writing_end (writing_rest p.writing (moves_none ms b (omega (arith, p.within))))

-- ---- the whole table

pub whole_written :
    (k : Task) {props vars moves : ℕ} {old a b c d : List ℕ} {start goal end size : ℕ}
    → props ≡ k.props
    → vars ≡ k.vars
    → moves ≡ length k.moves
    → Written old 0 (code_of (head normal) ∷ props ∷ 2 * vars ∷ moves ∷ []) a start
    → Written a start (moves_print k.moves) b goal
    → Written b goal (code_of open_goal ∷ block_print k.goal) c end
    → Written c end (code_of end_table ∷ []) d size
    → Written old 0 (normal_bytes k) d size
whole_written k {props} {vars} {moves} e f g p q r s =
    let rest = moves_print k.moves ++ ((code_of open_goal ∷ block_print k.goal) ++ (code_of end_table ∷ [])) in
    written_same (written_join p (written_join q (written_join r s)))
    (ap (λ (n : ℕ). code_of (head normal) ∷ n ∷ 2 * vars ∷ moves ∷ rest) e
    ∙ ap₂ (λ (n m : ℕ). code_of (head normal) ∷ k.props ∷ 2 * n ∷ m ∷ rest) f g
    ∙ sym (normal_parts k))
