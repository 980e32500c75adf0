-- The rewriter's theorems at a table with two moves that do nothing: their premises can be met, with the memories that document 01 names
-- and no more. Assumes nothing.
use Rattle.std.specs.Prelude.{ℕ, zero, suc, ◌≤◌, ◌≡◌, refl, false, List, [], ◌∷◌, T, ltb, pos, length, replicate, Err}
use Rattle.std.proofs.Common.{subst, arith, ltb→lt, lit≤}
use Rattle.integer.specs.BigEndian.{AllBytes}
use Rattle.integer.proofs.BigEndian.{all_cons, all_nil}
use Rattle.model.specs.Limits.{paper}
use Rattle.model.specs.Lists.{all}
use Rattle.model.specs.Task.{written}
use Rattle.model.specs.Move.{real, relaxed, Solves}
use Rattle.model.specs.Layer.{reported}
use Rattle.model.specs.Reading.{Table, accepted, only, stored, reading}
use Rattle.model.specs.Memory.{wrong15}
use Rattle.model.specs.Calls.{read_answer, writes, normal_bytes, normalise_answer, decide_answer}
use Rattle.model.specs.Rewrite.{active_moves, rewritten, new_number, old_number, renumbered, numbered_back, rewrite_of, rewrote}
use Rattle.model.proofs.Theorems.Laws.Booleans.{and_left, and_right}
use Rattle.model.proofs.Theorems.Printing.Passing.{paper_small}
use Rattle.model.specs.Theorems.Campaigns.Tables.{zeros}
use Rattle.model.specs.Theorems.Campaigns.Computing.{computing}
use Rattle.model.specs.Theorems.Campaigns.Instance.{table_in}
use Rattle.model.specs.Theorems.Campaigns.Demand2.{normal_part}
use Rattle.model.specs.Theorems.Campaigns.Demand3.{relaxed_task, start_state, layer_zero, end_of, Given}
use Rattle.model.specs.Theorems.Rewriting.Accepted.{Rewrites, RewriteRight}
use Rattle.model.proofs.Theorems.Rewriting.Accepted.{rewrite_right}
use Rattle.model.proofs.Theorems.Rewriting.Following.{FirstIdle}
use Rattle.model.proofs.Theorems.Rewriting.Refused.{read_refused, written_refused}
use Rattle.model.specs.Theorems.Rewriting.EndToEnd.{AnswersOld}
use Rattle.model.proofs.Theorems.Rewriting.EndToEnd.{SameCampaign, same_campaign, answers_old}
use Rattle.model.specs.Theorems.Rewriting.Cases.{unfinished, finished}
use Rattle.model.specs.Theorems.Rewriting.Instance.{unfinished_table}

unfinished_read : reading paper stored unfinished ≡ accepted unfinished_table
unfolding computing unfinished unfinished_table table_in
unfinished_read = refl

unfinished_written : unfinished_table.header.form ≡ written
unfolding computing unfinished unfinished_table table_in
unfinished_written = refl

unfinished_writes : rewrote paper unfinished 19 ≡ writes finished
unfolding computing rewrote rewrite_of rewritten active_moves unfinished finished
unfinished_writes = refl

-- every element below 256, computed
all_below : (bs : List ℕ) → T (all (λ b. ltb b 256) bs) → AllBytes bs
unfolding all
all_below [] h = all_nil
all_below (b ∷ bs) h = all_cons (ltb→lt b 256 (and_left (ltb b 256) (all (λ x. ltb x 256) bs) h)) (all_below bs (and_right (ltb b 256) (all (λ x. ltb x 256) bs) h))

unfinished_bytes : AllBytes unfinished
unfinished_bytes = all_below unfinished (unfold computing unfinished in tt)

-- move 0 is the first that does nothing, and closes at 5: read and normalise refuse the table there
unfinished_first : FirstIdle unfinished_table.task.moves 0
unfolding computing unfinished unfinished_table table_in
unfinished_first = record { within = lit≤ tt; idle = refl; before = λ i h. absurd (omega arith) }

pub unfinished_refused :
    (read_answer paper unfinished ≡ Err (record { number = 16; place = 5 }))
    × (normalise_answer paper unfinished [] ≡ Err (record { number = 16; place = 5 }))
unfolding computing unfinished unfinished_table table_in
unfinished_refused = (
  read_refused paper unfinished unfinished_read 0 unfinished_first,
  (written_refused paper unfinished unfinished_read 0 unfinished_first unfinished_bytes unfinished_written [] 0 []).0,
)

-- what the rewriter writes is right
pub unfinished_right : Rewrites paper unfinished finished
unfinished_right = (subst (RewriteRight paper unfinished 19) unfinished_writes (rewrite_right paper paper_small unfinished unfinished_bytes 19)).0

-- its lists and those of the new table, both ways
pub unfinished_campaign : SameCampaign paper unfinished_table finished
unfinished_campaign = same_campaign paper paper_small unfinished unfinished_bytes unfinished_table unfinished_read unfinished_written 19 unfinished_writes

-- ---- lists
-- all four moves, in order, solve the old table from a state in which all is false and 0
unfinished_solved : Solves real unfinished_table.task (start_state unfinished_table (zeros 5)) (0 ∷ 1 ∷ 2 ∷ 3 ∷ [])
unfolding computing unfinished unfinished_table table_in
unfinished_solved = (lit≤ tt, tt, (lit≤ tt, tt, (lit≤ tt, tt, (lit≤ tt, tt, tt))))

unfinished_relaxed : Solves relaxed (relaxed_task unfinished_table) (layer_zero unfinished_table (zeros 5)) (0 ∷ 1 ∷ 2 ∷ 3 ∷ [])
unfolding computing unfinished unfinished_table table_in
unfinished_relaxed = (lit≤ tt, tt, (lit≤ tt, tt, (lit≤ tt, tt, (lit≤ tt, tt, tt))))

-- moves 1 and 3 become 0 and 1
renumbered_list : renumbered unfinished_table.task (0 ∷ 1 ∷ 2 ∷ 3 ∷ []) ≡ 0 ∷ 1 ∷ []
unfolding computing unfinished unfinished_table table_in renumbered new_number active_moves
renumbered_list = refl

back_list : numbered_back unfinished_table.task (0 ∷ 1 ∷ []) ≡ 1 ∷ 3 ∷ []
unfolding computing unfinished unfinished_table table_in numbered_back old_number
back_list = refl

-- so these solve the new table
pub finished_solved : Solves real unfinished_campaign.new.task (start_state unfinished_campaign.new (zeros 5)) (0 ∷ 1 ∷ [])
finished_solved =
    subst (Solves real unfinished_campaign.new.task (start_state unfinished_campaign.new (zeros 5))) renumbered_list
    (unfinished_campaign.real_forth (zeros 5) (0 ∷ 1 ∷ 2 ∷ 3 ∷ []) unfinished_solved)

-- the same for the relaxed tasks
pub finished_relaxed : Solves relaxed (relaxed_task unfinished_campaign.new) (layer_zero unfinished_campaign.new (zeros 5)) (0 ∷ 1 ∷ [])
finished_relaxed =
    subst (Solves relaxed (relaxed_task unfinished_campaign.new) (layer_zero unfinished_campaign.new (zeros 5))) renumbered_list
    (unfinished_campaign.relaxed_forth (zeros 5) (0 ∷ 1 ∷ 2 ∷ 3 ∷ []) unfinished_relaxed)

-- and numbered back the old one
pub back_solved : Solves real unfinished_table.task (start_state unfinished_table (zeros 5)) (1 ∷ 3 ∷ [])
back_solved =
    subst (Solves real unfinished_table.task (start_state unfinished_table (zeros 5))) back_list
    (unfinished_campaign.real_back (zeros 5) (0 ∷ 1 ∷ []) finished_solved)

-- ---- decide and plan on the new table
finished_table : Table
finished_table = table_in (reading paper (only written) finished)

finished_small : (u : ℕ) → u ≤ reported (end_of finished_table (zeros 5)) → wrong15 paper (relaxed_task finished_table) (layer_zero finished_table (zeros 5)) u ≡ false
unfolding computing finished finished_table table_in
finished_small zero h = refl
finished_small (suc zero) h = refl
finished_small (suc (suc u)) h = absurd (omega arith)

-- the premises of demand 3 for the new table
pub finished_given : Given finished (zeros 5) (zeros 26) (replicate 7 (pos 7)) (zeros 10)
unfolding computing finished finished_table table_in
finished_given =
    record {
      table = finished_table;
      read = refl;
      state = refl;
      normal_room = lit≤ tt;
      layer_room = lit≤ tt;
      plan_room = lit≤ tt;
      small = finished_small;
    }

-- what its answers say of the old table
pub finished_answers :
    AnswersOld unfinished_table finished_given.table (zeros 5)
    (decide_answer paper (normal_part finished (zeros 26) (length (normal_bytes finished_given.table.task))) (zeros 5) (replicate 7 (pos 7)))
finished_answers = answers_old unfinished_table finished unfinished_campaign (zeros 5) (zeros 26) (replicate 7 (pos 7)) (zeros 10) finished_given
