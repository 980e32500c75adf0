-- Quiet layers: while the steps of a normal table make no move usable and no variable unbounded, the values come to rest in the
-- order of the rank that the missing := circle gives the variables, and after N + 1 such steps the layer stays. Assumes nothing.
use Prim.Native.Nat.{ℕ, zero, suc, ◌+◌, ◌≤◌, ◌<◌}
use Rattle.std.specs.Prelude.{◌≡◌, refl, Bool, [], eqb, pos, ◌≤ℤ◌, length, get_or}
use Rattle.std.proofs.Common.{subst, add-suc, arith}
use Rattle.std.proofs.Math.Option.{Option}
use Rattle.std.proofs.Math.Dec.{T, eqb_refl}
use Rattle.model.specs.Limits.{Limits}
use Rattle.model.specs.Lists.{any}
use Rattle.model.specs.Task.{normal, Term, Kind, assign, increase, decrease, Effect, need, effect, Block, Task}
use Rattle.model.specs.Move.{State}
use Rattle.model.specs.Layer.{Value, finite, unbounded, Layer, reaches, layer_value, offer, offered, gained, next, layer, layer_at}
use Rattle.model.specs.Circle.{is_assign, item_edge, edge}
use Rattle.model.specs.Theorems.Reading.WellFormed.{All, TermOk, EffectOk, ItemOk, TaskOk}
use Rattle.model.proofs.Theorems.Laws.Booleans.{T_true, and_both, or_right, or_cases, cond_cases}
use Rattle.model.proofs.Theorems.Laws.Searching.{All-at, at_all, any_at}
use Rattle.model.proofs.Theorems.Reading.Kept.{kept_normal}
use Rattle.model.specs.Theorems.Layers.Order.{◌⊑◌, ◌≼◌}
use Rattle.model.proofs.Theorems.Layers.Order.{⊑_refl, ⊑_trans, reaches_mono, plus_mono, layer_sum_rises}
use Rattle.model.proofs.Theorems.Layers.NextLayer.{effect_on_cases, raised_offer, raised_least, gained_cases, gained_at, move_ok}
use Rattle.model.specs.Theorems.Reading.Circles.{EdgesWithin, rank}
use Rattle.model.proofs.Theorems.Reading.Circles.{edges_within, rank_below, rank_rises}
use Rattle.model.specs.Theorems.Layers.Quiet.{Known, NoneNew, Quiet, after}

known :
    {L : Limits} {k : Task}
    → TaskOk L normal k
    → (b : ℕ)
    → b < length k.moves
    → All (Known L k) (get_or k.moves b [])
unfolding edge
known {L} {k} ok b h =
    at_all (Known L k) move (need 0)
    (λ j l. record {
      checked = All-at (ItemOk L normal k.props k.vars) move j (need 0) (move_ok ok b h).items l;
      drawn = λ u v t. any_at (λ m. any (item_edge u v) m) k.moves [] b h (any_at (item_edge u v) move (need 0) j l t);
    })
  where
    move : Block
    move = get_or k.moves b []

-- what stands behind the end of a sum
abbrev no_term : Term
no_term = record { var = 0; weight = pos 0 }

-- the variables of a := on v have edges to v
assign_edge :
    (L : Limits) (k : Task) (e : Effect) (v j : ℕ)
    → Known L k (effect e)
    → e.kind ≡ assign
    → e.var ≡ v
    → j < length e.terms
    → T (edge k (get_or e.terms j no_term).var v)
unfolding item_edge is_assign
assign_edge L k e v j known kind at-v l =
    known.drawn u v
    (rw (kept_normal L k.vars e.terms known.checked.sum.terms, kind, at-v)
    (and_both (eqb v v) (any reads e.terms) (eqb_refl v) (any_at reads e.terms no_term j l (eqb_refl u))))
  where
    u : ℕ
    u = (get_or e.terms j no_term).var

    reads : Term → Bool
    reads t = eqb t.var u

-- v keeps its value in the step from l
abbrev Rests : Task → Layer → ℕ → Type 0
Rests k l v = (after k l).val v ⊑ l.val v

-- "a += whose value in layer t is above 0"
abbrev Above : Layer → Effect → Type 0
Above l e = T (reaches (layer_value l e) (pos 1))

module _ {L : Limits} {k : Task} (ok : TaskOk L normal k) where
  -- an effect whose variables rest keeps its value
  value_rests :
      (l : Layer) (e : Effect) → EffectOk L normal k.vars e
      → ((j : ℕ) → j < length e.terms → Rests k l (get_or e.terms j no_term).var)
      → layer_value (after k l) e ⊑ layer_value l e
  unfolding layer_value
  value_rests l e e-ok rest =
      plus_mono
      (layer_sum_rises (after k l).val l.val e.terms
      (at_all (λ t. (pos 1 ≤ℤ t.weight) × Rests k l t.var) e.terms no_term
      (λ j h. ((All-at (TermOk L normal k.vars) e.terms j no_term e-ok.sum.terms h).weight.0, rest j h))))
      (⊑_refl (finite e.base))

  -- ".. makes its variable unbounded"
  lift : {x : Value} (l : Layer) (v : ℕ) (e : Effect) → offer l v increase (layer_value l e) ⊑ x → Above l e → unbounded ⊑ x
  unfolding offer
  lift l v e h t = rw (T_true (reaches (layer_value l e) (pos 1)) t) at h

  module _ (l : Layer) (none-new : NoneNew k l) where
    -- v rests in the step from the next layer if the variables of each := on v rest in the step from l, and if v is
    -- unbounded already wherever a += on v makes it so
    rests_after :
        (v : ℕ)
        → ((u : ℕ) → T (edge k u v) → Rests k l u)
        → ((e : Effect)
        → e.var ≡ v
        → EffectOk L normal k.vars e
        → (Above l e → unbounded ⊑ (after k l).val v)
        → Above (after k l) e
        → unbounded ⊑ (after k (after k l)).val v
        → unbounded ⊑ (after k l).val v)
        → Rests k (after k l) v
    unfolding next offered offer
    rests_after v rested lifted =
        raised_least (after k l) v k.moves (⊑_refl ((after k l).val v))
        (λ b h t. effect_on_cases NoMore (Known L k) v (get_or k.moves b []) (known ok b h)
        (λ now later. ⊑_refl ((after k l).val v))
        (λ e at-v e-known. by_kind e at-v e-known e.kind refl)
        (raised_offer l v k.moves b h (none-new b h t)) (raised_offer (after k l) v k.moves b h t))
      where
        NoMore : Option Effect → Type 0
        NoMore o =
            offered l v o ⊑ (after k l).val v
            → offered (after k l) v o ⊑ (after k (after k l)).val v
            → offered (after k l) v o ⊑ (after k l).val v

        by_kind :
            (e : Effect)
            → e.var ≡ v
            → Known L k (effect e)
            → (d : Kind)
            → e.kind ≡ d
            → offer l v d (layer_value l e) ⊑ (after k l).val v
            → offer (after k l) v d (layer_value (after k l) e) ⊑ (after k (after k l)).val v
            → offer (after k l) v d (layer_value (after k l) e) ⊑ (after k l).val v
        by_kind e at-v e-known assign kind now later =
            ⊑_trans
            (value_rests l e e-known.checked
            (λ j h. rested (get_or e.terms j no_term).var (assign_edge L k e v j e-known kind at-v h)))
            now
        by_kind e at-v e-known increase kind now later =
            cond_cases (λ x. x ⊑ (after k l).val v) (reaches (layer_value (after k l) e) (pos 1)) unbounded ((after k l).val v)
            (λ t. lifted e at-v e-known.checked (lift l v e now) t (lift (after k l) v e later t))
            (λ t. ⊑_refl ((after k l).val v))
        by_kind e at-v e-known decrease kind now later = ⊑_refl ((after k l).val v)

    -- where all variables rest in the step from l, the step from the next layer changes nothing
    closes : ((v : ℕ) → v < k.vars → Rests k l v) → after k (after k l) ≼ after k l
    unfolding next
    closes rest =
        record {
          has = λ p t. or_cases ((after k l).has p) (gained (after k l) p k.moves) t (λ s. s) (had_before p);
          val = λ v. rests_after v (λ u d. rest u ((edges_within L normal k ok.blocks).source u v d))
              (λ e at-v e-ok now t later. now (reaches_mono (pos 1) (value_before e e-ok) t));
        }
      where
        had_before : (p : ℕ) → T (gained (after k l) p k.moves) → T ((after k l).has p)
        had_before p g =
            or_right (l.has p) (gained l p k.moves)
            (gained_cases (after k l) p k.moves g (λ b h u a. gained_at l p k.moves b h (none-new b h u) a))

        value_before : (e : Effect) → EffectOk L normal k.vars e → layer_value (after k l) e ⊑ layer_value l e
        value_before e e-ok =
            value_rests l e e-ok
            (λ j h. rest (get_or e.terms j no_term).var
            (All-at (TermOk L normal k.vars) e.terms j no_term e-ok.sum.terms h).var)

module _ {L : Limits} {k : Task} (ok : TaskOk L normal k) where
  -- all edges run between the task's variables
  edges : EdgesWithin k
  edges = edges_within L normal k ok.blocks

  -- after two quiet steps v rests if all variables of lower rank rested
  rest_step :
      (l : Layer) → Quiet k l → Quiet k (after k l) → (v : ℕ)
      → ((u : ℕ) → rank k u < rank k v → Rests k l u)
      → Rests k (after k l) v
  rest_step l quiet Quiet-next v rested =
      rests_after ok l quiet.moves v
      (λ u d. rested u (rank_rises edges ok.no_circle u v d))
      (λ e at-v e-ok now t later. Quiet-next.vars v (subst (λ (n : ℕ). n < k.vars) at-v e-ok.var) later)

  module _ (s : State) where
    -- while all is quiet, the variables of rank below j rest after j steps
    rests :
        (a c : ℕ) → ((t : ℕ) → a ≤ t → t < c → Quiet k (layer_at k s t)) → (j v : ℕ) → rank k v < j
        → (t : ℕ) → a + j ≤ t → t < c → Rests k (layer_at k s t) v
    unfolding layer_at layer
    rests a c quiet zero v r t h l = absurd (omega arith)
    rests a c quiet (suc j) v r zero h l = absurd (omega arith)
    rests a c quiet (suc j) v r (suc t) h l =
        rest_step (layer_at k s t) (quiet t (omega arith) (omega arith)) (quiet (suc t) (omega arith) l) v
        (λ u lower. rests a c quiet j u (omega arith) t (omega arith) (omega arith))

    -- N + 1 quiet layers are followed by one that stays
    pub quiet_closed :
        (a : ℕ)
        → ((t : ℕ) → a ≤ t → t < a + suc k.vars → Quiet k (layer_at k s t))
        → layer_at k s (suc (a + suc k.vars)) ≼ layer_at k s (a + suc k.vars)
    unfolding layer_at layer
    quiet_closed a quiet = rw (add-suc a k.vars)
        (closes ok (layer_at k s (a + k.vars)) (quiet (a + k.vars) (omega arith) (omega arith)).moves
        (λ v h. rests a (a + suc k.vars) quiet k.vars v (rank_below edges ok.no_circle v h)
        (a + k.vars) (omega arith) (omega arith)))
