-- `campaign` meets its contract. Assumes nothing.
use Prim.Native.Nat.{ℕ, ◌≤◌}
use mathlib.Core.Path.{◌≡◌, refl, sym, subst, ◌∙◌}
use mathlib.Core.List.{List}
use lib.ListN.{length}
use lib.Seq.{length-take-le}
use Rattle.model.specs.Limits.{paper}
use Rattle.model.specs.Calls.{normalise_answer}
use Rattle.model.proofs.Theorems.Campaigns.Demand2.{written_hands}
use Rattle.campaign.specs.Campaign.{done_written, done_refused}
use Rattle.campaign.proofs.campaign.Goals as goal

pub slice_bounds-decided_and_planned-end : goal.slice_bounds-decided_and_planned-end
slice_bounds-decided_and_planned-end c =
    let inside : c.in-Ok.n ≤ length c.normalise.new.out =
    subst (λ (l : List ℕ). c.in-Ok.n ≤ length l) (sym c.normalise.ensures.1) (written_hands _ _ _ (sym c.normalise.ensures.0 ∙ c.in-Ok.is)).inside in
    inside

pub slice_bounds-decided_and_planned-end-in-Ok : goal.slice_bounds-decided_and_planned-end-in-Ok
slice_bounds-decided_and_planned-end-in-Ok c =
    let inside : c.in-Ok.n ≤ length c.normalise.new.out =
    subst (λ (l : List ℕ). c.in-Ok.n ≤ length l) (sym c.normalise.ensures.1) (written_hands _ _ _ (sym c.normalise.ensures.0 ∙ c.in-Ok.is)).inside in
    sym (length-take-le c.in-Ok.n c.normalise.new.out inside)

pub returns-in-Ok : goal.returns-in-Ok
returns-in-Ok c =
    done_written _ _ _ _ _ _ _ _ _ _ _ _ (sym c.normalise.ensures.0 ∙ c.in-Ok.is) c.normalise.ensures.1 refl
    c.decided_and_planned.ensures.0 c.decided_and_planned.ensures.1 c.decided_and_planned.ensures.2 c.decided_and_planned.ensures.3

pub returns-in-Err : goal.returns-in-Err
returns-in-Err c = done_refused _ _ _ _ _ _ _ (sym c.normalise.ensures.0 ∙ c.in-Err.is) c.normalise.ensures.1
