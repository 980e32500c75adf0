-- The bytes of one block of an accepted table (document 01: "its bytes run from its 41 or 47 up to the next 41, 47 or 45
-- command, that one left out"): they are the bytes of the block's items behind its command. Assumes nothing.
use Rattle.std.specs.Prelude.{ℕ, zero, suc, ◌+◌, ◌≤◌, ◌<◌, ◌≡◌, refl, Bool, true, false, List, [], ◌∷◌, ◌++◌, leb, length, get_or, take, drop}
use Rattle.std.proofs.Common.{arith, sym, ap, ◌∙◌, subst, append_assoc, length-append, take_all, take-suc}
use Rattle.std.proofs.Math.Seq.{slice, split_at, take-append-add, take-append_seam, take-length, drop-append_seam}
use Rattle.std.proofs.lemmas.List.{take-append-le}
use Rattle.integer.specs.BigEndian.{AllBytes}
use Rattle.model.specs.Limits.{Limits}
use Rattle.model.specs.Task.{Form, Block, Task}
use Rattle.model.specs.Command.{head, open_move, open_goal, end_table, code_of, items_bytes, moves_bytes, task_bytes}
use Rattle.model.specs.Reading.{Wanted, Table, Verdict, accepted, refused, both, reading}
use Rattle.model.specs.Calls.{part_of, start_of, block_part, block_start}
use Rattle.model.proofs.Theorems.Reading.Appending.{moves_bytes_append, moves_bytes_snoc}
use Rattle.model.proofs.Theorems.Reading.Marks.{starts_at}
use Rattle.model.specs.Theorems.Reading.Accepted.{Accepted}

-- the middle of three parts
slice_middle : (xs ys zs : List ℕ) (i j : ℕ) → i ≡ length xs → j ≡ length xs + length ys → slice i j (xs ++ (ys ++ zs)) ≡ ys
slice_middle xs ys zs i j e f =
    subst (λ (n : ℕ). slice n j (xs ++ (ys ++ zs)) ≡ ys) (sym e)
    (subst (λ (n : ℕ). slice (length xs) n (xs ++ (ys ++ zs)) ≡ ys) (sym f)
    (ap (drop (length xs)) (take-append-add xs (ys ++ zs) (length ys))
    ∙ drop-append_seam xs (take (length ys) (ys ++ zs))
    ∙ take-append_seam ys zs))

-- the head's four bytes
abbrev front_bytes : Form → Task → List ℕ
front_bytes f k = code_of (head f) ∷ k.props ∷ k.vars ∷ length k.moves ∷ []

-- a task's bytes around one of its moves, and around its goal
around_move : (f : Form) (k : Task) (b : ℕ) → b < length k.moves → task_bytes f k ≡ front_bytes f k ++ moves_bytes (take b k.moves) ++ ((code_of open_move ∷ items_bytes (get_or k.moves b [])) ++ (moves_bytes (drop (suc b) k.moves) ++ ((code_of open_goal ∷ items_bytes k.goal) ++ (code_of end_table ∷ []))))
unfolding task_bytes moves_bytes
around_move f k b h =
    let e : moves_bytes k.moves ≡ moves_bytes (take b k.moves) ++ moves_bytes (get_or k.moves b [] ∷ drop (suc b) k.moves) =
    ap moves_bytes (split_at k.moves b [] h) ∙ moves_bytes_append (take b k.moves) (get_or k.moves b [] ∷ drop (suc b) k.moves) in
    ap (λ (l : List ℕ). front_bytes f k ++ (l ++ (code_of open_goal ∷ items_bytes k.goal) ++ (code_of end_table ∷ []))) e ∙ simp append_assoc

around_goal : (f : Form) (k : Task) → task_bytes f k ≡ front_bytes f k ++ moves_bytes k.moves ++ ((code_of open_goal ∷ items_bytes k.goal) ++ (code_of end_table ∷ []))
unfolding task_bytes
around_goal f k = append_assoc (front_bytes f k ++ moves_bytes k.moves) (code_of open_goal ∷ items_bytes k.goal) (code_of end_table ∷ [])

module _ {L : Limits} {w : Wanted} {t : List ℕ} {k : Table} (a : Accepted L w t k) where
  mark_at : (b : ℕ) → b ≤ suc (length k.task.moves) → get_or k.marks b 0 ≡ 4 + length (moves_bytes (take b (k.task.moves ++ (k.task.goal ∷ []))))
  mark_at b h =
      ap (λ (l : List ℕ). get_or l b 0) a.marks
      ∙ starts_at 4 (k.task.moves ++ (k.task.goal ∷ [])) b (omega (arith, length-append k.task.moves (k.task.goal ∷ [])))

  -- Mark b is the offset of block b's command: the head's four bytes, then the blocks before it.
  pub block_mark : (b : ℕ) → b ≤ length k.task.moves → get_or k.marks b 0 ≡ 4 + length (moves_bytes (take b k.task.moves))
  block_mark b h =
      mark_at b (omega arith)
      ∙ ap (λ (ms : List Block). 4 + length (moves_bytes ms)) (take-append-le b k.task.moves (k.task.goal ∷ []) h)

  -- The last mark is that of 45.
  pub end_mark : get_or k.marks (suc (length k.task.moves)) 0 ≡ 4 + length (moves_bytes k.task.moves) + suc (length (items_bytes k.task.goal))
  end_mark =
      let ms = k.task.moves in
      let b = k.task.goal in
      let e : take (suc (length ms)) (ms ++ (b ∷ [])) ≡ ms ++ (b ∷ []) = take_all (suc (length ms)) (ms ++ (b ∷ [])) (omega (arith, length-append ms (b ∷ []))) in
      omega (arith, mark_at (suc (length ms)) (omega arith), ap (λ (l : List Block). length (moves_bytes l)) e, ap length (moves_bytes_snoc ms b), length-append (moves_bytes ms) (code_of open_move ∷ items_bytes b))

  -- The part of block b, a move: 41 and the move's items.
  pub move_part : AllBytes t → (b : ℕ) → b < length k.task.moves → slice (get_or k.marks b 0) (get_or k.marks (suc b) 0) t ≡ code_of open_move ∷ items_bytes (get_or k.task.moves b [])
  move_part all b h =
      let ms = k.task.moves in
      let f = k.header.form in
      let before = moves_bytes (take b ms) in
      let part = code_of open_move ∷ items_bytes (get_or ms b []) in
      let after = moves_bytes (drop (suc b) ms) ++ ((code_of open_goal ∷ items_bytes k.task.goal) ++ (code_of end_table ∷ [])) in
      ap (slice (get_or k.marks b 0) (get_or k.marks (suc b) 0)) (a.prints.same all ∙ around_move f k.task b h)
      ∙ slice_middle (front_bytes f k.task ++ before) part after (get_or k.marks b 0) (get_or k.marks (suc b) 0)
      (omega (arith, block_mark b (omega arith)))
      (omega (arith, block_mark (suc b) h, ap (λ (l : List Block). length (moves_bytes l)) (take-suc ms b [] h), ap length (moves_bytes_snoc (take b ms) (get_or ms b [])), length-append before part))

  -- The part of block A, the goal: 47 and the goal's items.
  pub goal_part : AllBytes t → slice (get_or k.marks (length k.task.moves) 0) (get_or k.marks (suc (length k.task.moves)) 0) t ≡ code_of open_goal ∷ items_bytes k.task.goal
  goal_part all =
      let ms = k.task.moves in
      let f = k.header.form in
      let part = code_of open_goal ∷ items_bytes k.task.goal in
      ap (slice (get_or k.marks (length ms) 0) (get_or k.marks (suc (length ms)) 0)) (a.prints.same all ∙ around_goal f k.task)
      ∙ slice_middle (front_bytes f k.task ++ moves_bytes ms) part (code_of end_table ∷ []) (get_or k.marks (length ms) 0) (get_or k.marks (suc (length ms)) 0)
      (omega (arith, block_mark (length ms) (omega arith), ap (λ (l : List Block). length (moves_bytes l)) (take-length ms)))
      (omega (arith, end_mark))

-- ---- where the part lies
slice_lies : (f e : ℕ) (l : List ℕ) → take (length (slice f e l)) (drop f l) ≡ slice f e l
slice_lies zero zero l = refl
slice_lies zero (suc e) [] = refl
slice_lies zero (suc e) (x ∷ l) = ap (λ (xs : List ℕ). x ∷ xs) (slice_lies zero e l)
slice_lies (suc f) zero l = refl
slice_lies (suc f) (suc e) [] = refl
slice_lies (suc f) (suc e) (x ∷ l) = slice_lies f e l

-- "as a part of the caller's table": the bytes of the part stand in the table where it starts
pub part_lies : (L : Limits) (t : List ℕ) (b : ℕ) → take (length (block_part L t b)) (drop (block_start L t b) t) ≡ block_part L t b
unfolding block_part block_start part_of start_of
part_lies L t b = go (reading L both t)
  where
    go : (v : Verdict) → take (length (part_of t b v)) (drop (start_of b v) t) ≡ part_of t b v
    go (accepted k) = by (leb b k.header.moves) refl
      where
        by : (x : Bool) → leb b k.header.moves ≡ x → take (length (part_of t b (accepted k))) (drop (start_of b (accepted k)) t) ≡ part_of t b (accepted k)
        by true e = rw (e, part_of, start_of) (slice_lies (get_or k.marks b 0) (get_or k.marks (suc b) 0) t)
        by false e = rw (e, part_of, start_of) refl
    go (refused r) = refl
