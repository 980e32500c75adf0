-- `block_at` meets its contract: a refusal of the table, 10, or the part of the block. Assumes nothing.
use Prim.Native.Nat.{ℕ}
use native.Mathlib.Omega.{arith}
use mathlib.Core.Path.{◌≡◌, refl, subst}
use mathlib.Core.List.{List}
use denote.Ref.{Bor}
use Rattle.model.specs.Limits.{paper}
use Rattle.model.specs.Reading.{reading, both}
use Rattle.model.specs.Calls.{block_part, block_start, block_refusal, refusal_number, refusal_place}
use Rattle.table.specs.Names.{wanted_of}
use Rattle.table.specs.Answer.{Outlined}
use Rattle.reader.specs.Parts.{LiesAt}
use Rattle.reader.specs.Handed.{Handed, part_refused, part_beyond, part_in, part_found}
use Rattle.reader.proofs.block_at.Goals as goal

handed :
    (table part : Bor (List ℕ)) (b : ℕ) {from number place : ℕ} → Handed table.now b (reading paper both table.now) part.now from number place
    → LiesAt table from part
    → (part.now ≡ block_part paper table.now b) × (number ≡ refusal_number (block_refusal paper table.now b)) × (place ≡ refusal_place (block_refusal paper table.now b)) × LiesAt table (block_start paper table.now b) part
unfolding block_part block_start block_refusal
handed table part b h l =
    (h.part_is, h.number_is, h.place_is, subst (λ (n : ℕ). LiesAt table n part) h.from_is l)

pub returns-then-moves-b : goal.returns-then-moves-b
unfolding wanted_of
returns-then-moves-b c =
    let outlined : Outlined c.args.table.now (reading paper both c.args.table.now) c.outline.result c.outline.new.marks = c.outline.ensures in
    rw c.number.ensures (handed _ _ c.args.b (part_beyond c.args.b (outlined) _ c.in-Ok.is (omega arith) refl) (record { memory = refl; offset = omega arith }))

pub part-requires : goal.part-requires
unfolding wanted_of
part-requires c =
    let outlined : Outlined c.args.table.now (reading paper both c.args.table.now) c.outline.result c.outline.new.marks = c.outline.ensures in
    part_in _ (outlined) _ c.in-Ok.is (omega arith)

pub returns-in-Err : goal.returns-in-Err
unfolding wanted_of
returns-in-Err c =
    let outlined : Outlined c.args.table.now (reading paper both c.args.table.now) c.outline.result c.outline.new.marks = c.outline.ensures in
    handed _ _ c.args.b (part_refused c.args.b (outlined) _ c.in-Err.is refl) (record { memory = refl; offset = omega arith })

pub returns-else-moves-b : goal.returns-else-moves-b
unfolding wanted_of
returns-else-moves-b c =
    let outlined : Outlined c.args.table.now (reading paper both c.args.table.now) c.outline.result c.outline.new.marks = c.outline.ensures in
    handed _ _ c.args.b (part_found c.args.b (outlined) _ c.in-Ok.is (omega arith) c.part.ensures.0) c.part.ensures.1
