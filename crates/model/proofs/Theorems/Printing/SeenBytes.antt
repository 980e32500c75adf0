-- The bytes read so far are the bytes of what has been seen: as many for any list of numbers, and the same where all are bytes.
-- One relation says both, so that each command is looked at once. Assumes nothing.
use Rattle.std.specs.Prelude.{ℕ, suc, ◌+◌, ◌≤◌, ◌<◌, ◌≡◌, refl, T, length, get_or, take, drop}
use Rattle.std.proofs.Common.{add-suc, add-zero, arith, ap₂, ◌∙◌, subst, length-append, length-drop, drop-cons, take-add, length-take-le}
use Rattle.std.proofs.Math.Path.{sym, ap}
use mathlib.Core.List.{List, [], ◌∷◌, ◌++◌, append_assoc, append-nil}
use Rattle.integer.specs.BigEndian.{signed, signed_bytes}
use Rattle.integer.proofs.BigEndian.{all_take, all_drop, length_signed_bytes, signed_bytes_signed}
use Rattle.model.specs.Limits.{Limits}
use Rattle.model.specs.Task.{Form, Term, Item, Block}
use Rattle.model.specs.Command.{Command, head, open_move, open_goal, term, code_of, width, term_bytes, item_bytes, items_bytes, moves_bytes, Place, start, preamble, in_move, in_goal, finished, in_place}
use Rattle.model.specs.Seen.{Head, Seen, closed}
use Rattle.model.specs.Reading.{Wanted}
use Rattle.model.proofs.Theorems.Reading.Appending.{term_bytes_snoc, items_bytes_snoc, moves_bytes_snoc}
use Rattle.model.specs.Theorems.Reading.Commands.{Passes}
use Rattle.model.specs.Theorems.Reading.Checks.{InBlock, Between}
use Rattle.model.specs.Theorems.Printing.SeenBytes.{Prints, head_bytes, open_bytes, seen_bytes}

module _ {t : List ℕ} where
  pub prints_append : {xs ys us vs : List ℕ} → Prints t xs ys → Prints t us vs → Prints t (xs ++ us) (ys ++ vs)
  prints_append {xs} {ys} {us} {vs} p q =
      record {
        long = length-append xs us ∙ ap₂ ◌+◌ p.long q.long ∙ sym (length-append ys vs);
        same = λ b. ap₂ ◌++◌ (p.same b) (q.same b);
      }

  pub prints_nothing : (xs : List ℕ) → Prints t (take 0 xs) []
  prints_nothing xs = record { long = refl; same = λ b. refl }

-- one byte, then the rest; a signed number
module _ (t : List ℕ) (at : ℕ) where
  pub prints_byte : (i n : ℕ) {b : ℕ} {ys : List ℕ} → at + i < length t → get_or t (at + i) 0 ≡ b → Prints t (take n (drop (at + suc i) t)) ys → Prints t (take (suc n) (drop (at + i) t)) (b ∷ ys)
  prints_byte i n {b} {ys} h e p =
      let q : Prints t (take n (drop (suc (at + i)) t)) ys = rw (add-suc at i) at p in
      rw (drop-cons t (at + i) 0 h, e)
      (record { long = ap suc q.long; same = λ all. ap (λ (l : List ℕ). b ∷ l) (q.same all) })

  pub prints_number : (i n : ℕ) → at + i + n ≤ length t → Prints t (take n (drop (at + i) t)) (signed_bytes n (signed (take n (drop (at + i) t))))
  prints_number i n h =
      let bs = take n (drop (at + i) t) in
      let e : length bs ≡ n = length-take-le n (drop (at + i) t) (omega (arith, length-drop (at + i) t)) in
      record {
        long = e ∙ sym (length_signed_bytes n (signed bs));
        same = λ all. sym (subst (λ (k : ℕ). signed_bytes k (signed bs) ≡ bs) e (signed_bytes_signed (all_take n (all_drop (at + i) all))));
      }

-- a command behind what was read before it
pub prints_command : {L : Limits} {w : Wanted} {t : List ℕ} {s : Seen} {c : Command} {xs ys : List ℕ} (n : ℕ) → width c ≡ suc n → Passes L w t s c → Prints t (take n (drop (s.at + 1) t)) ys → Prints t (take s.at t) xs → Prints t (take (s.at + width c) t) (xs ++ (code_of c ∷ ys))
prints_command {t} {s} {c} {xs} {ys} n e h p q =
    let r : Prints t (take (suc n) (drop (s.at + 0) t)) (code_of c ∷ ys) =
    prints_byte t s.at 0 n (omega (arith, h.uncut)) (rw (add-zero s.at) h.code) p in
    rw (take-add s.at (width c) t, e) (prints_append q (rw (add-zero s.at) at r))

module _ (c : Command) (h : Head) (ms : List Block) (b : Block) where
  term_behind : (ts : List Term) (u : Term) → open_bytes c h ms b ts ++ term_bytes (u ∷ []) ≡ open_bytes c h ms b (ts ++ (u ∷ []))
  unfolding open_bytes
  term_behind ts u =
      let front = head_bytes h ++ moves_bytes ms ++ (code_of c ∷ items_bytes b) in
      append_assoc front (term_bytes ts) (term_bytes (u ∷ [])) ∙ ap (λ (l : List ℕ). front ++ l) (sym (term_bytes_snoc ts u))

  item_behind : (ts : List Term) (i : Item) (xs : List ℕ) → term_bytes ts ++ xs ≡ item_bytes i → open_bytes c h ms b ts ++ xs ≡ open_bytes c h ms (b ++ (i ∷ [])) []
  unfolding open_bytes term_bytes
  item_behind ts i xs e =
      let before = head_bytes h ++ moves_bytes ms in
      let front = before ++ (code_of c ∷ items_bytes b) in
      append_assoc front (term_bytes ts) xs
      ∙ ap (λ (l : List ℕ). front ++ l) e
      ∙ append_assoc before (code_of c ∷ items_bytes b) (item_bytes i)
      ∙ ap (λ (l : List ℕ). before ++ (code_of c ∷ l)) (sym (items_bytes_snoc b i))
      ∙ sym (append-nil (before ++ (code_of c ∷ items_bytes (b ++ (i ∷ [])))))

-- a block opens behind what was read: the block before it is one more move
pub block_behind : (c : Command) (p : Place) (h : Head) (ms : List Block) (b : Block) → Between p → seen_bytes p h ms b [] ++ (code_of c ∷ []) ≡ open_bytes c h (closed p ms b) [] []
unfolding seen_bytes open_bytes closed items_bytes term_bytes
block_behind c start h ms b between = absurd between
block_behind c preamble h ms b between = sym (append-nil (head_bytes h ++ moves_bytes ms ++ (code_of c ∷ [])))
block_behind c in_move h ms b between =
    let front = head_bytes h ++ moves_bytes ms ++ (code_of open_move ∷ items_bytes b) in
    ap (λ (l : List ℕ). l ++ (code_of c ∷ [])) (append-nil front ∙ append_assoc (head_bytes h) (moves_bytes ms) (code_of open_move ∷ items_bytes b))
    ∙ ap (λ (l : List ℕ). head_bytes h ++ l ++ (code_of c ∷ [])) (sym (moves_bytes_snoc ms b))
    ∙ sym (append-nil (head_bytes h ++ moves_bytes (ms ++ (b ∷ [])) ++ (code_of c ∷ [])))
block_behind c in_goal h ms b between = absurd between
block_behind c finished h ms b between = absurd between

-- an item or a term behind an open block
pub item_seen : (p : Place) (h : Head) (ms : List Block) (b : Block) (ts : List Term) (i : Item) (xs : List ℕ) → InBlock p i → term_bytes ts ++ xs ≡ item_bytes i → seen_bytes p h ms b ts ++ xs ≡ seen_bytes p h ms (b ++ (i ∷ [])) []
unfolding seen_bytes
item_seen start h ms b ts i xs here e = absurd here
item_seen preamble h ms b ts i xs here e = absurd here
item_seen in_move h ms b ts i xs here e = item_behind open_move h ms b ts i xs e
item_seen in_goal h ms b ts i xs here e = item_behind open_goal h ms b ts i xs e
item_seen finished h ms b ts i xs here e = absurd here

-- a head stands where nothing has been read
pub head_seen : (f : Form) (p : Place) (h : Head) (ms : List Block) (b : Block) (ts : List Term) → T (in_place p (head f)) → seen_bytes p h ms b ts ≡ []
unfolding seen_bytes in_place
head_seen f start h ms b ts placed = refl
head_seen f preamble h ms b ts placed = absurd placed
head_seen f in_move h ms b ts placed = absurd placed
head_seen f in_goal h ms b ts placed = absurd placed
head_seen f finished h ms b ts placed = absurd placed

pub term_seen : (p : Place) (h : Head) (ms : List Block) (b : Block) (ts : List Term) (u : Term) → T (in_place p term) → seen_bytes p h ms b ts ++ term_bytes (u ∷ []) ≡ seen_bytes p h ms b (ts ++ (u ∷ []))
unfolding seen_bytes in_place
term_seen start h ms b ts u placed = absurd placed
term_seen preamble h ms b ts u placed = absurd placed
term_seen in_move h ms b ts u placed = term_behind open_move h ms b ts u
term_seen in_goal h ms b ts u placed = term_behind open_goal h ms b ts u
term_seen finished h ms b ts u placed = absurd placed
