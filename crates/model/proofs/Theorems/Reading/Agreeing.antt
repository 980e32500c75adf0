-- A task within the limits looks at its own propositions and variables alone: states that agree on these meet the same conditions,
-- real moves keep them so, and the same lists solve the task from both. They are the same to every call, since they have the same bytes.
-- Assumes nothing.
use Rattle.std.specs.Prelude.{ℕ, ◌≡◌, ◌↔◌, Bool, ◌||◌, ℤ, ◌+ℤ◌, ◌*ℤ◌}
use Rattle.std.proofs.Math.Path.{refl, ap, ap₂, subst}
use Rattle.std.proofs.Common.{sym, ◌∙◌}
use Rattle.std.proofs.Math.Bool.{◌&&◌, not}
use mathlib.Core.List.{List, [], ◌∷◌}
use Rattle.std.proofs.Math.Option.{none}
use Rattle.std.proofs.Math.Dec.{T}
use Rattle.integer.specs.BigEndian.{AllBytes}
use Rattle.model.specs.Limits.{Limits}
use Rattle.model.specs.Lists.{all}
use Rattle.model.specs.Task.{Form, Term, Item, need, add, delete, condition, effect, Block, Task, adds, deletes}
use Rattle.model.specs.Move.{State, sum, compares, holds, applicable, value, changed, changed_by, real, move_at, Solves}
use Rattle.model.specs.StateTable.{state_of, state_refusal, state_bytes}
use Rattle.model.proofs.Theorems.Reading.States.{accepted_state, state_bytes_same, state_canonical}
use Rattle.model.specs.Theorems.Reading.WellFormed.{All, TermOk, ItemOk, BlockOk, TaskOk}
use Rattle.model.proofs.Theorems.Layers.NextLayer.{effect_on_cases, move_ok}
use Rattle.model.specs.Theorems.Reading.Agreeing.{AgreeBelow}

pub agree_sym : {props vars : ℕ} {s t : State} → AgreeBelow props vars s t → AgreeBelow props vars t s
agree_sym a = record { has = λ p h. sym (a.has p h); val = λ v h. sym (a.val v h) }

module _ (L : Limits) (f : Form) {props vars : ℕ} {s t : State} (a : AgreeBelow props vars s t) where
  same_sum : (ts : List Term) → All (TermOk L f vars) ts → sum s.val ts ≡ sum t.val ts
  unfolding sum
  same_sum [] ok = refl
  same_sum (u ∷ ts) ok =
      ap₂ (λ (x y : ℤ). (u.weight *ℤ x) +ℤ y) (a.val u.var ok.0.var) (same_sum ts ok.1)

  same_holds : (i : Item) → ItemOk L f props vars i → holds s i ≡ holds t i
  unfolding holds
  same_holds (need p) ok = a.has p ok
  same_holds (add p) ok = refl
  same_holds (delete p) ok = refl
  same_holds (condition c) ok =
      ap (λ (x : ℤ). compares c.comparison x c.bound) (same_sum c.terms ok.sum.terms)
  same_holds (effect e) ok = refl

  same_all : (b : Block) → All (ItemOk L f props vars) b → all (holds s) b ≡ all (holds t) b
  unfolding all
  same_all [] ok = refl
  same_all (i ∷ b) ok = ap₂ ◌&&◌ (same_holds i ok.0) (same_all b ok.1)

  -- a block's conditions hold in both or in neither
  pub agree_applicable : (b : Block) → BlockOk L f props vars b → applicable s b ≡ applicable t b
  unfolding applicable
  agree_applicable b ok = same_all b ok.items

  -- a real move leads to states that agree
  pub agree_real : (b : Block) → BlockOk L f props vars b → AgreeBelow props vars (real b s) (real b t)
  unfolding real changed_by value
  agree_real b ok =
      record {
        has = λ p h. ap (λ (x : Bool). adds p b || (x && not (deletes p b))) (a.has p h);
        val = λ v h.
            effect_on_cases (λ o. changed_by s v o ≡ changed_by t v o) (ItemOk L f props vars) v b ok.items (a.val v h)
            (λ e on known.
            ap₂ (changed e.kind) (a.val v h)
            (ap (λ (x : ℤ). x +ℤ e.base) (same_sum e.terms known.sum.terms)));
      }

module _ {L : Limits} {f : Form} {k : Task} (ok : TaskOk L f k) where
  agree_solve :
      (bs : List ℕ) (s t : State) → AgreeBelow k.props k.vars s t → Solves real k s bs → Solves real k t bs
  unfolding move_at
  agree_solve [] s t a h = subst T (agree_applicable L f a k.goal ok.goal) h
  agree_solve (b ∷ bs) s t a h =
      let m = move_at k b in
      let okMove : BlockOk L f k.props k.vars m = move_ok ok b h.0 in (
        h.0,
        subst T (agree_applicable L f a m okMove) h.1,
        agree_solve bs (real m s) (real m t) (agree_real L f a m okMove) h.2,
      )

  -- a list solves the task from both or from neither
  pub agree_solves :
      (bs : List ℕ) {s t : State} → AgreeBelow k.props k.vars s t → Solves real k s bs ↔ Solves real k t bs
  agree_solves bs {s} {t} a = (agree_solve bs s t a, agree_solve bs t s (agree_sym a))

-- ---- the same to every call
-- states that agree have the same bytes
pub agree_bytes : {props vars : ℕ} {s t : State} → AgreeBelow props vars s t → state_bytes props vars s ≡ state_bytes props vars t
agree_bytes {props} {vars} {s} {t} a = state_bytes_same props vars s t a.has a.val

-- and accepted bytes that stand for states that agree are the same bytes, so that no call tells them apart
pub agree_accepted :
    (L : Limits) {props vars : ℕ} {bs cs : List ℕ}
    → state_refusal L props vars bs ≡ none
    → state_refusal L props vars cs ≡ none
    → AllBytes bs
    → AllBytes cs
    → AgreeBelow props vars (state_of props bs) (state_of props cs)
    → bs ≡ cs
agree_accepted L {props} {vars} {bs} {cs} e f all others a =
    sym (state_canonical (accepted_state L props vars bs e) all) ∙ agree_bytes a ∙ state_canonical (accepted_state L props vars cs f) others
