-- The block reader's answer from what outline answers and the marks it leaves. Assumes nothing.
use Rattle.std.specs.Prelude.{ℕ, suc, ◌-◌, ◌≤◌, ◌<◌, ◌≡◌, true, false, List, [], leb, get_or, take, drop, Result, Ok, Err}
use Rattle.std.proofs.Common.{arith, add-one, sym, ◌∙◌, le-leb}
use Rattle.std.proofs.Math.Path.{refl}
use Rattle.std.proofs.lemmas.Bool.{lt-leb}
use Rattle.model.specs.declared.Refusal.{Refusal}
use Rattle.model.specs.declared.Head.{Head}
use Rattle.model.specs.Reading.{Table, Verdict, accepted, refused}
use Rattle.model.specs.Calls.{part_of, start_of, no_block, refusal_number, refusal_place}
use Rattle.table.specs.Answer.{Outlined, Accepted, answer_accepted, answer_refused}
use Rattle.table.specs.Outlines.{part_slice, part_at, inside_list}
use Rattle.reader.specs.Parts.{PartIn}

-- what the block reader hands back for a verdict
pub record Handed (t : List ℕ) (b : ℕ) (v : Verdict) (part : List ℕ) (from number place : ℕ) : Type 0 where
  pub part_is : part ≡ part_of t b v
  pub from_is : from ≡ start_of b v
  pub number_is : number ≡ refusal_number (no_block b v)
  pub place_is : place ≡ refusal_place (no_block b v)

verdict_beyond : (t : List ℕ) (b : ℕ) (k : Table) → leb b k.header.moves ≡ false → Handed t b (accepted k) [] 0 10 0
unfolding part_of start_of no_block refusal_number refusal_place
verdict_beyond t b k e =
    record {
      part_is = rw (e, part_of) refl;
      from_is = rw (e, start_of) refl;
      number_is = rw (e, no_block) refl;
      place_is = rw (e, no_block) refl;
    }

verdict_found : (t : List ℕ) (b : ℕ) (k : Table) → leb b k.header.moves ≡ true → get_or k.marks b 0 ≤ get_or k.marks (suc b) 0 → Handed t b (accepted k) (take (get_or k.marks (suc b) 0 - get_or k.marks b 0) (drop (get_or k.marks b 0) t)) (get_or k.marks b 0) 0 0
unfolding part_of start_of no_block refusal_number refusal_place
verdict_found t b k e l =
    record {
      part_is = rw (e, part_of) (part_slice (get_or k.marks b 0) (get_or k.marks (suc b) 0) t l);
      from_is = rw (e, start_of) refl;
      number_is = rw (e, no_block) refl;
      place_is = rw (e, no_block) refl;
    }

module _ {t : List ℕ} {v : Verdict} {r : Result Head Refusal} {m : List ℕ} (b : ℕ) (h : Outlined t v r m) where
  pub part_refused : (x : Refusal) {part : List ℕ} → r ≡ Err x → part ≡ [] → Handed t b v part 0 x.number x.place
  part_refused x e p =
      let f : v ≡ refused x = answer_refused v x (sym h.answer ∙ e) in
      rw (f, p) (unfold part_of start_of no_block refusal_number refusal_place in (record { part_is = refl; from_is = refl; number_is = refl; place_is = refl }))

  module _ (head : Head) (e : r ≡ Ok head) where
    found : Accepted v head.kind head.props head.vars head.moves
    found = answer_accepted v head (sym h.answer ∙ e)

    pub part_beyond : {part : List ℕ} → head.moves < b → part ≡ [] → Handed t b v part 0 10 0
    part_beyond l p =
        rw (found.is, p) (verdict_beyond t b found.table (lt-leb b found.table.header.moves (omega (arith, found.moves_is))))

    -- the two marks of a block lie in order inside the table
    pub part_in : b ≤ head.moves → PartIn t m b
    part_in l =
        let rises : get_or m b 0 < get_or m (suc b) 0 = h.rising found.table found.is b (omega (arith, found.moves_is)) in
        record {
          room = rw (add-one b) (inside_list m (suc b) (omega arith));
          rises = rw (add-one b) (omega arith);
          within = rw (add-one b) (omega (arith, h.inside found.table found.is (suc b) (omega (arith, found.moves_is))));
        }

    pub part_found : {part : List ℕ} → b ≤ head.moves → part ≡ part_at t m b → Handed t b v part (get_or m b 0) 0 0
    part_found l p =
        let first : get_or m b 0 ≡ get_or found.table.marks b 0 = h.marks found.table found.is b (omega (arith, found.moves_is)) in
        let last : get_or m (suc b) 0 ≡ get_or found.table.marks (suc b) 0 = h.marks found.table found.is (suc b) (omega (arith, found.moves_is)) in
        let ordered : get_or found.table.marks b 0 ≤ get_or found.table.marks (suc b) 0 = omega (arith, first, last, h.rising found.table found.is b (omega (arith, found.moves_is))) in
        rw (found.is, p, add-one b, first, last)
        (verdict_found t b found.table (le-leb b found.table.header.moves (omega (arith, found.moves_is))) ordered)
