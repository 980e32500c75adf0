-- The text of plan's answer in a lent buffer. Assumes nothing.
use Rattle.std.specs.Prelude.{ℕ, ◌+◌, ◌*◌, ◌^◌, ◌≤◌, ◌<◌, ◌≡◌, List, ◌++◌, length, Result, Ok, Err}
use Rattle.std.proofs.Common.{arith, subst}
use Rattle.std.proofs.Math.Path.{ap}
use Rattle.std.proofs.Math.ListN.{length-append}
use Rattle.model.specs.declared.Refusal.{Refusal}
use Rattle.model.specs.declared.PlanAnswer.{PlanAnswer}
use Rattle.model.specs.declared.PlanAnswer.TheVariants.{Plan, NoPlan}
use Rattle.model.specs.Memory.{overwrite}
use Rattle.model.specs.Plan.{Record}
use Rattle.model.specs.Listing.{refusal_text, records_text, answer_text}
use Rattle.output.specs.Writing.{Written, written_join, written_first}
use Rattle.report.specs.Lines.{line_text, pair_text, plan_line, no_plan_text}
use Rattle.report.specs.Records.{Planned, Listable, records_room}

-- how many records are printed
unfoldable pub record_count : Result PlanAnswer Refusal → ℕ
record_count (Ok (Plan layer layers records firsts)) = records
record_count (Ok (NoPlan layers records firsts)) = 0
record_count (Err r) = 0

-- rs are the records of an answer, and of the plan's bytes
abbrev pub Lists : Result PlanAnswer Refusal → List ℕ → List Record → Type 0
Lists (Ok (Plan layer layers records firsts)) plan rs = Planned plan records rs
Lists (Ok (NoPlan layers records firsts)) plan rs = Unit {0}
Lists (Err r) plan rs = Unit {0}

-- what printing needs: the records' bytes, and room for the lines
pub record Printable (a : Result PlanAnswer Refusal) (plan text : List ℕ) : Type 0 where
  pub records : List Record
  pub lists : Lists a plan records
  pub room : 56 + 25 * record_count a ≤ length text
  pub short : length text < 2 ^ 62

-- the text bs stands at the start of what the buffer holds, `n` is its length, and the bytes behind it are kept
pub record Printed (old bs new : List ℕ) (n : ℕ) : Type 0 where
  pub is : new ≡ overwrite bs old
  pub size : n ≡ length bs
  pub fits : length bs ≤ length old

printed : {old bs new : List ℕ} {n : ℕ} → length bs ≤ length old → Written old 0 bs new n → Printed old bs new n
printed {bs} h w = record { is = written_first w (omega (arith, w.behind)); size = omega (arith, w.behind); fits = h }

-- ---- one law for each kind of answer

module _ {plan text : List ℕ} {a : Result PlanAnswer Refusal} (p : Printable a plan text) where
  module _ {layer layers records firsts : ℕ} (is : a ≡ Ok (Plan layer layers records firsts)) where
    same_lists : (rs : List Record) → Lists a plan rs → Planned plan records rs
    same_lists rs l = subst (λ (x : Result PlanAnswer Refusal). Lists x plan rs) is l

    same_count : record_count a ≡ records
    unfolding record_count
    same_count = ap record_count is

    pub plan_listable : Listable plan records
    plan_listable = record { records = p.records; planned = same_lists p.records p.lists }

    -- the records end within the buffer
    pub records_short :
        {mid : List ℕ} {next : ℕ}
        → Written text 0 (plan_line records layers) mid next
        → length (plan_line records layers) ≤ 54
        → next + 25 * records < 2 ^ 62
    records_short w h = omega (arith, w.behind, p.room, p.short, same_count)

    pub printed_plan :
        {mid new : List ℕ} {next behind : ℕ}
        → length (plan_line records layers) ≤ 54
        → Written text 0 (plan_line records layers) mid next
        → ((rs : List Record) → Planned plan records rs → Written mid next (records_text rs) new behind)
        → (rs : List Record)
        → Lists a plan rs
        → Printed text (answer_text a rs) new behind
    unfolding answer_text plan_line pair_text
    printed_plan {behind = behind} h v w rs l =
        let q = same_lists rs l in
        let all : Written text 0 (plan_line records layers ++ records_text rs) _ behind = written_join v (w rs q) in
        rw is
        (printed
        (omega (arith, length-append (plan_line records layers) (records_text rs), records_room rs q.small, q.many, p.room, same_count))
        all)

  pub printed_no_plan :
      {layers records firsts : ℕ} {new : List ℕ} {next : ℕ}
      → a ≡ Ok (NoPlan layers records firsts)
      → Written text 0 (no_plan_text layers) new next
      → length (no_plan_text layers) ≤ 36
      → (rs : List Record)
      → Printed text (answer_text a rs) new next
  unfolding answer_text no_plan_text line_text
  printed_no_plan is w h rs = rw is (printed (omega (arith, h, p.room)) w)

  pub printed_refusal :
      {r : Refusal} {new : List ℕ} {next : ℕ}
      → a ≡ Err r
      → Written text 0 (refusal_text r) new next
      → length (refusal_text r) ≤ 56
      → (rs : List Record)
      → Printed text (answer_text a rs) new next
  unfolding answer_text
  printed_refusal is w h rs = rw is (printed (omega (arith, h, p.room)) w)
