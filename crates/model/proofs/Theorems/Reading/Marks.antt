-- The marks of a table, the offsets of its 41, 47 and 45 commands: mark b is where the bytes of block b begin, the last mark
-- where those of the goal end. Assumes nothing.
use Rattle.std.specs.Prelude.{ℕ, zero, suc, ◌+◌, ◌≤◌, ◌≡◌, List, [], ◌∷◌, ◌++◌, get_or, take}
use Rattle.std.proofs.Common.{arith, sym, ap₂, ◌∙◌, subst, append-nil, length-append, length-take-le}
use Rattle.std.proofs.Math.Path.{refl, ap}
use Rattle.std.proofs.Math.ListN.{length}
use Rattle.model.specs.Limits.{Limits}
use Rattle.model.specs.Task.{Term, Item, need, add, delete, condition, effect, Block}
use Rattle.model.specs.Command.{Command, head, open_move, open_goal, end_table, need_prop, add_prop, delete_prop, term, close_condition, close_effect, unknown, code_of, term_bytes, items_bytes, moves_bytes, Place, start, preamble, in_move, in_goal, finished}
use Rattle.model.specs.Seen.{Head, Seen, closed, byte_after, item_at, with_head, with_mark, with_term, with_item, advance}
use Rattle.model.specs.Reading.{Wanted}
use Rattle.model.proofs.Theorems.Reading.Appending.{moves_bytes_snoc}
use Rattle.model.specs.Theorems.Reading.Commands.{Passes}
use Rattle.model.specs.Theorems.Reading.Checks.{InBlock, Between, condition_at, effect_at}
use Rattle.model.proofs.Theorems.Reading.Checks.{need_read, add_read, delete_read, condition_read, effect_read, open_move_read, open_goal_read, end_table_read}
use Rattle.model.specs.Theorems.Reading.Soundness.{Sound, Stage}
use Rattle.model.proofs.Theorems.Reading.Soundness.{open_move_between}
use Rattle.model.specs.Theorems.Printing.SeenBytes.{head_bytes, open_bytes, seen_bytes}
use Rattle.model.specs.Theorems.Printing.Printed.{Printed}
use Rattle.model.specs.Theorems.Reading.Marks.{Marked, starts}

pub starts_snoc : (n : ℕ) (bs : List Block) (b : Block) → starts n (bs ++ (b ∷ [])) ≡ starts n bs ++ ((n + length (moves_bytes (bs ++ (b ∷ [])))) ∷ [])
unfolding starts moves_bytes
starts_snoc n [] b = ap (λ (m : ℕ). n ∷ (n + m) ∷ []) (sym (ap length (append-nil (code_of open_move ∷ items_bytes b))))
starts_snoc n (c ∷ bs) b =
    let m = n + suc (length (items_bytes c)) in
    let rest = moves_bytes (bs ++ (b ∷ [])) in
    let e : m + length rest ≡ n + suc (length (items_bytes c ++ rest)) = omega (arith, length-append (items_bytes c) rest) in
    ap (λ (l : List ℕ). n ∷ l) (starts_snoc m bs b ∙ ap (λ (k : ℕ). starts m bs ++ (k ∷ [])) e)

-- one mark for each block, and one for the end
pub starts_length : (n : ℕ) (bs : List Block) → length (starts n bs) ≡ suc (length bs)
unfolding starts
starts_length n [] = refl
starts_length n (b ∷ bs) = ap suc (starts_length (n + suc (length (items_bytes b))) bs)

-- mark b
pub starts_at : (n : ℕ) (bs : List Block) (b : ℕ) → b ≤ length bs → get_or (starts n bs) b 0 ≡ n + length (moves_bytes (take b bs))
unfolding starts moves_bytes
starts_at n [] zero h = omega arith
starts_at n [] (suc b) h = absurd (omega arith)
starts_at n (c ∷ bs) zero h = omega arith
starts_at n (c ∷ bs) (suc b) h =
    starts_at (n + suc (length (items_bytes c))) bs b (omega arith) ∙ omega (arith, length-append (items_bytes c) (moves_bytes (take b bs)))

marked_item : (p : Place) (ms : List Block) (b : Block) (marks : List ℕ) (i : Item) → InBlock p i → Marked p ms b marks → Marked p ms (b ++ (i ∷ [])) marks
marked_item start ms b marks i here m = m
marked_item preamble ms b marks i here m = m
marked_item in_move ms b marks i here m = m
marked_item in_goal ms b marks i here m = m
marked_item finished ms b marks i here m = absurd here

-- where the next block begins
open_length : (c : Command) (h : Head) (ms : List Block) (b : Block) → length (open_bytes c h ms b []) ≡ 4 + length (moves_bytes (ms ++ (b ∷ [])))
unfolding open_bytes head_bytes term_bytes
open_length c h ms b =
    let front = moves_bytes ms ++ (code_of c ∷ items_bytes b) in
    omega (arith, ap length (append-nil front), length-append (moves_bytes ms) (code_of c ∷ items_bytes b), ap length (moves_bytes_snoc ms b), length-append (moves_bytes ms) (code_of open_move ∷ items_bytes b))

seen_length : (p : Place) (h : Head) (ms : List Block) (b : Block) → Between p → length (seen_bytes p h ms b []) ≡ 4 + length (moves_bytes (closed p ms b))
unfolding seen_bytes closed head_bytes
seen_length start h ms b between = absurd between
seen_length preamble h ms b between = omega (arith, length-append (head_bytes h) (moves_bytes ms))
seen_length in_move h ms b between = open_length open_move h ms b
seen_length in_goal h ms b between = absurd between
seen_length finished h ms b between = absurd between

one_more : (ms : List Block) (b : Block) (marks : List ℕ) (at : ℕ) → marks ≡ starts 4 ms → at ≡ 4 + length (moves_bytes (ms ++ (b ∷ []))) → marks ++ (at ∷ []) ≡ starts 4 (ms ++ (b ∷ []))
one_more ms b marks at m e = ap₂ (λ (l : List ℕ) (n : ℕ). l ++ (n ∷ [])) m e ∙ sym (starts_snoc 4 ms b)

marked_open : (L : Limits) (w : Wanted) (p : Place) (h : Head) (ms : List Block) (b : Block) (marks : List ℕ) (at : ℕ) → Between p → Stage L w p h ms b → Marked p ms b marks → at ≡ 4 + length (moves_bytes (closed p ms b)) → marks ++ (at ∷ []) ≡ starts 4 (closed p ms b)
unfolding closed moves_bytes starts
marked_open L w start h ms b marks at between stage m e = absurd between
marked_open L w preamble h ms b marks at between stage m e =
    ap₂ (λ (l : List ℕ) (n : ℕ). l ++ (n ∷ [])) m (e ∙ ap (λ (l : List Block). 4 + length (moves_bytes l)) stage.1) ∙ sym (ap (starts 4) stage.1)
marked_open L w in_move h ms b marks at between stage m e = one_more ms b marks at m e
marked_open L w in_goal h ms b marks at between stage m e = absurd between
marked_open L w finished h ms b marks at between stage m e = absurd between

module _ {L : Limits} {w : Wanted} {t : List ℕ} {s : Seen} where
  -- the next command stands behind what has been seen
  stands_at : (c : Command) → Passes L w t s c → Printed t s → s.terms ≡ [] → s.at ≡ length (seen_bytes s.place s.header s.moves s.items [])
  stands_at c h p none =
      sym (length-take-le s.at t (omega (arith, h.uncut)))
      ∙ p.long
      ∙ ap (λ (ts : List Term). length (seen_bytes s.place s.header s.moves s.items ts)) none

  opens_at : (c : Command) → Sound L w s → Passes L w t s c → Printed t s → s.terms ≡ [] → Between s.place → Marked s.place s.moves s.items s.marks → s.marks ++ (s.at ∷ []) ≡ starts 4 (closed s.place s.moves s.items)
  opens_at c k h p none between m =
      marked_open L w s.place s.header s.moves s.items s.marks s.at between k.stage m
      (stands_at c h p none ∙ seen_length s.place s.header s.moves s.items between)

  pub marked_step : (c : Command) → Sound L w s → Passes L w t s c → Printed t s → Marked s.place s.moves s.items s.marks → Marked (advance t s c).place (advance t s c).moves (advance t s c).items (advance t s c).marks
  unfolding advance with_head with_mark with_term with_item item_at seen_bytes
  marked_step (head f) k h p m = refl
  marked_step open_move k h p m = opens_at open_move k h p (open_move_read h).0 (open_move_between k h) m
  marked_step open_goal k h p m = opens_at open_goal k h p (open_goal_read h).0 (open_goal_read h).2 m
  marked_step end_table k h p m =
      let in_goal_lem = (end_table_read h).1 in
      one_more s.moves s.items s.marks s.at
      (subst (λ (q : Place). Marked q s.moves s.items s.marks) in_goal_lem m)
      (stands_at end_table h p (end_table_read h).0
      ∙ ap (λ (q : Place). length (seen_bytes q s.header s.moves s.items [])) in_goal_lem
      ∙ open_length open_goal s.header s.moves s.items)
  marked_step need_prop k h p m = marked_item s.place s.moves s.items s.marks (need (byte_after t s 1)) (need_read h).in_block m
  marked_step add_prop k h p m = marked_item s.place s.moves s.items s.marks (add (byte_after t s 1)) (add_read h).in_block m
  marked_step delete_prop k h p m = marked_item s.place s.moves s.items s.marks (delete (byte_after t s 1)) (delete_read h).in_block m
  marked_step term k h p m = m
  marked_step close_condition k h p m = marked_item s.place s.moves s.items s.marks (condition (condition_at t s)) (condition_read k.terms h).in_block m
  marked_step close_effect k h p m = marked_item s.place s.moves s.items s.marks (effect (effect_at t s)) (effect_read k.terms h).in_block m
  marked_step unknown k h p m = m
