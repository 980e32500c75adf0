-- What building leaves in the memory where it ends with an answer. Assumes nothing.
use Rattle.std.specs.Prelude.{ℕ, ◌/◌, ◌≡◌, Result, List, ℤ, length}
use Rattle.std.proofs.Common.{arith, sym, ap, ◌∙◌}
use Rattle.std.proofs.Math.Option.{none}
use Rattle.layers.specs.declared.Built.{Built as BuiltAnswer}
use Rattle.model.specs.declared.Refusal.{Refusal}
use Rattle.model.specs.Limits.{paper}
use Rattle.model.specs.Task.{normal, Task}
use Rattle.model.specs.Layer.{Outcome, reported}
use Rattle.model.specs.Memory.{overwrite, Built, answered, build, built_memory}
use Rattle.model.specs.StateTable.{state_refusal}
use Rattle.model.specs.Theorems.Reading.WellFormed.{TaskOk}
use Rattle.model.specs.Theorems.Sizes.States.{SmallState}
use Rattle.model.proofs.Theorems.Sizes.States.{accepted_small, normal_state_small}
use Rattle.model.specs.Theorems.Sizes.Stored.{steps_of}
use Rattle.model.specs.Theorems.Sizes.Stored.{StoredLayers}
use Rattle.model.proofs.Theorems.Sizes.Stored.{answered_layers}
use Rattle.layers.specs.Building.{IsBuilt, built_of}
use Rattle.layers.specs.Starting.{start_of}
use Rattle.layers.specs.Preparing.{ReadyIn}

-- "N even": the signed variables of an accepted state
start_small : {k : Task} (props : ℕ) {vars : ℕ} (bs : List ℕ) → TaskOk paper normal k → vars ≡ k.vars → state_refusal paper props (vars / 2) bs ≡ none → SmallState k.vars (start_of props bs)
unfolding paper
start_small {k} props {vars} bs ok e accepted =
    normal_state_small {vars = vars / 2} (omega (arith, ok.vars.1, e)) (accepted_small props (vars / 2) bs accepted)

-- the memory holds the layers up to the last one
pub built_layers :
    {t bs marks : List ℕ} {props vars moves : ℕ} {mem mem' : List ℤ} {b : Result BuiltAnswer Refusal} (r : ReadyIn t bs marks props vars moves)
    → IsBuilt r.task (start_of props bs) mem mem' b
    → (o : Outcome)
    → built_of b ≡ answered o
    → StoredLayers r.task (start_of props bs) props vars moves (reported o) (steps_of o) mem'
built_layers {bs} {props} {mem} r built o e =
    let k = r.task in
    let s = start_of props bs in
    let ended : build paper k s (length mem) ≡ answered o = sym built.ended ∙ e in
    answered_layers r.outlined.ok (start_small props bs r.outlined.ok r.counts.vars_is r.accepted_state) mem ended
    (sym r.counts.props_is) (sym r.counts.vars_is) (sym r.counts.moves_is)
    (built.memory ∙ ap (λ (x : Built). overwrite (built_memory k s x) mem) ended)
