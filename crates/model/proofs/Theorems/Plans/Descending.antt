-- One layer down keeps its promise: the wants of layer t come to wants of layer t−1 that can be had there, and to moves that,
-- run in any state that meets those, lead to one that meets the wants of layer t (document 01, "Plan"). Assumes nothing.
use Rattle.std.specs.Prelude.{ℕ, ◌<◌, ◌≡◌, Bool, true, false, ◌&&◌, ℤ, ◌-ℤ◌, length}
use Rattle.std.proofs.Common.{arith, sym, subst, T_not}
use Rattle.std.proofs.Math.Path.{refl}
use Rattle.std.proofs.Math.Bool.{not}
use Rattle.std.proofs.Math.Dec.{T, not_T}
use Rattle.model.specs.Limits.{Limits}
use Rattle.model.specs.Lists.{fold_below}
use Rattle.model.specs.Task.{normal, Block, Task, effect_on}
use Rattle.model.specs.Move.{State, move_at}
use Rattle.model.specs.Layer.{Value, Layer, reaches, usable, layer_value, gained, raised, next, layer_of}
use Rattle.model.specs.Plan.{Target, free, least, Wants, want_block, Descent, adder, take_adder, demand, achieves, achiever, runs, take_effect, take_achiever, carried_target, carried, carried_down, take_prop, take_target, take_value, descend}
use Rattle.model.specs.Theorems.Reading.WellFormed.{ItemOk, TaskOk}
use Rattle.model.proofs.Theorems.Laws.Booleans.{T-cases, and_left, and_right, and_both, cond_cases}
use Rattle.model.proofs.Theorems.Laws.Searching.{below_suc, fold_below_induction}
use Rattle.model.proofs.Theorems.Layers.Order.{finite-⊑, ⊑-reaches, reaches_mono}
use Rattle.model.proofs.Theorems.Layers.NextLayer.{effect_on_cases, move_ok}
use Rattle.model.specs.Theorems.Plans.Targets.{EachTarget, Reached, Sat}
use Rattle.model.proofs.Theorems.Plans.Targets.{no_wants_each, carried_each, sat_mono}
use Rattle.model.proofs.Theorems.Plans.Wanting.{want_sum_old}
use Rattle.model.specs.Theorems.Plans.Conditions.{Had}
use Rattle.model.proofs.Theorems.Plans.Conditions.{want_sum_had, want_effect_enough}
use Rattle.model.specs.Theorems.Plans.Supporting.{repeated}
use Rattle.model.proofs.Theorems.Plans.Supporting.{gained_new, adder_found, achiever_found, relaxed_adds, runs_reach}
use Rattle.model.specs.Theorems.Plans.Taking.{nothing}
use Rattle.model.proofs.Theorems.Plans.Taking.{grows_trans, Good, leads_grows, Step, taken, block_had, unwanted, carried as carried-wants}

-- a test passes or fails
pub elim_cases :
    {A : Type 0} (P : A → Type 0) (b : Bool) (x y : A)
    → (T b → P x)
    → ((T b → ⊥) → P y)
    → P (elim b [ true ↦ x | false ↦ y ])
elim_cases P true x y f g = f tt
elim_cases P false x y f g = g (λ t. t)

-- a target names a variable of the table
pub in_range_lem :
    (v vars : ℕ) (x y : Value) (t : Target)
    → EachTarget (λ (q : ℤ). (v < vars) × T (reaches x q)) t
    → (v < vars → Reached y t)
    → Reached y t
in_range_lem v vars x y free had f = tt
in_range_lem v vars x y (least z) had f = f had.0

-- what leads to Q leads to what follows from it
step_map : {k : Task} {l : Layer} {s : State} {d e : Descent} {Q R : State → Type 0} → ((z : State) → Q z → R z) → Step k l s d e Q → Step k l s d e R
step_map f st =
    record {
      good = st.good;
      grows = st.grows;
      leads = record { leads = λ y z above sat ran. f z (st.leads.leads y z above sat ran) };
    }

module _ {L : Limits} {k : Task} (ok : TaskOk L normal k) (l : Layer) (s : State) where
  -- a target that the layer does not reach is reached in x
  abbrev pub Raised : ℕ → Layer → Target → Type 0
  Raised v x = EachTarget (λ (z : ℤ). (T (reaches (l.val v) z) → ⊥) → T (reaches (x.val v) z))

  -- what is carried and what is taken make up what is wanted
  pub prop_met :
      (w : Wants) {x : Layer} → Sat (carried l w) x → (p : ℕ) → T (w.props p)
      → (T (w.props p && not (l.has p)) → T (x.has p))
      → T (x.has p)
  unfolding carried
  prop_met w {x} kept p t taken =
      T-cases (l.has p) (λ has. kept.each.props p (and_both (w.props p) (l.has p) t has))
      (λ lacks. taken (and_both (w.props p) (not (l.has p)) t (not_T (l.has p) lacks)))

  pub target_met :
      (x : Layer) (v : ℕ) (t : Target) → Reached (x.val v) (carried_target (l.val v) t) → Raised v x t → Reached (x.val v) t
  unfolding carried_target
  target_met x v free kept taken = tt
  target_met x v (least z) kept taken =
      cond_cases (λ t. Reached (x.val v) t → T (reaches (x.val v) z)) (reaches (l.val v) z) (least z) free
      (λ has r. r) (λ low r. taken low) kept

  -- the effect of a move that achieves the target z on v
  effect_step :
      (d : Descent) (v : ℕ) (z : ℤ) (b : ℕ)
      → Good k l s d
      → b < length k.moves
      → T (usable l (move_at k b))
      → T (achieves l z (effect_on v (move_at k b)))
      → Step k l s d (take_effect k l s d v z b (effect_on v (move_at k b))) (λ y. T (reaches ((layer_of y).val v) z))
  unfolding take_effect achieves move_at layer_of
  effect_step d v z b good lt enabled achieved =
      effect_on_cases (λ o. effect_on v m ≡ o → T (achieves l z o) → Step k l s d (take_effect k l s d v z b o) wish)
      (ItemOk L normal k.props k.vars) v m (move_ok ok b lt).items
      (λ at-v t. absurd t)
      (λ e var e-ok at-v t.
      let x = layer_value l e in
      let goal = demand e.kind z in
      let had = block_had ok l s b lt enabled good.had in
      taken ok l s b (runs e.kind z (s.val v) x) wish good lt enabled
      (want_sum_had L k.props k.vars l s u e.terms (goal -ℤ e.base) e-ok.sum had)
      (λ y. want_sum_old l s u e.terms (goal -ℤ e.base))
      (λ y above sat.
      let enough = want_effect_enough L k.props k.vars l s u e goal e-ok above sat in
      ⊑-reaches (finite-⊑ (runs_reach e-ok m v at-v x z t above enough)))
      (λ y y' above. reaches_mono z (above.order.val v)))
      refl achieved
    where
      m : Block
      m = move_at k b

      u : Wants
      u = want_block l s d.wants m

      wish : State → Type 0
      wish y = T (reaches ((layer_of y).val v) z)

  module _ {w : Wants} (had-next : Had k.props k.vars (next k.moves l) w) where
    -- what the layer has
    carry_step : Step k l s nothing (carried_down l w) (λ z. Sat (carried l w) (layer_of z))
    carry_step =
        carried-wants k l s (λ z. Sat (carried l w) (layer_of z))
        (record {
          had = record { each = no_wants_each };
          move = λ b h. absurd (omega arith);
          enabled = λ b h. absurd (omega arith);
        })
        (record { each = carried_each l (λ p h t. (h.0, t)) (λ v z h t. (h.0, t)) had-next.each })
        (λ x sat. record { each = no_wants_each })
        (λ y z above sat. sat_mono sat above.order)

    prop_step :
        (p : ℕ) (d : Descent)
        → Good k l s d
        → Step k l s d (take_prop k l s w p d) (λ z. T (w.props p && not (l.has p)) → T (z.has p))
    unfolding take_prop take_adder next layer_of repeated
    prop_step p d good =
        elim_cases goal (w.props p && not (l.has p)) (take_adder k l s d (adder k l p)) d lacks_it
        (λ had. unwanted k l s d good (λ z t. absurd (had t)))
      where
        wish : State → Type 0
        wish z = T (w.props p && not (l.has p)) → T (z.has p)

        goal : Descent → Type 0
        goal e = Step k l s d e wish

        gained_it : T (w.props p && not (l.has p)) → T (gained l p k.moves)
        gained_it t = gained_new k l p (had-next.each.props p (and_left (w.props p) (not (l.has p)) t)).1 (T_not (l.has p) (and_right (w.props p) (not (l.has p)) t))

        lacks_it : T (w.props p && not (l.has p)) → goal (take_adder k l s d (adder k l p))
        lacks_it t =
            adder_found k l (λ o. goal (take_adder k l s d o)) p (gained_it t)
            (λ b lt enabled new. taken ok l s b 1 wish good lt enabled
            (block_had ok l s b lt enabled good.had)
            (λ x u. u)
            (λ y above sat u. relaxed_adds p (move_at k b) y new)
            (λ y z above q u. above.order.has p (q u)))

    value_step :
        (v : ℕ) (d : Descent)
        → Good k l s d
        → Step k l s d (take_value k l s w v d) (λ y. Raised v (layer_of y) (w.target v))
    unfolding take_value take_target take_achiever next
    value_step v d good = go (w.target v) (had-next.each.targets v)
      where
        go :
            (t : Target)
            → EachTarget (λ q. (v < k.vars) × T (reaches (raised l v k.moves) q)) t
            → Step k l s d (take_target k l s v t d) (λ y. Raised v (layer_of y) t)
        go free had = unwanted k l s d good (λ z. tt)
        go (least z) had =
            elim_cases goal (reaches (l.val v) z) d (take_achiever k l s d v z (achiever k l v z))
            (λ reached. unwanted k l s d good (λ y low. absurd (low reached)))
            (λ low. achiever_found k l (λ o. goal (take_achiever k l s d v z o)) v z low had.1
            (λ b lt enabled achieved. step_map (λ y t u. t) (effect_step d v z b good lt enabled achieved)))
          where
            goal : Descent → Type 0
            goal e = Step k l s d e (λ y. (T (reaches (l.val v) z) → ⊥) → T (reaches ((layer_of y).val v) z))

    -- ---- the layer as a whole

    -- a step for each number below n
    all_steps :
        (f : ℕ → Descent → Descent) (Q : ℕ → State → Type 0)
        → ((i : ℕ) (d : Descent) → Good k l s d → Step k l s d (f i d) (Q i))
        → (n : ℕ) (d : Descent) → Good k l s d → Step k l s d (fold_below f n d) (λ z. (i : ℕ) → i < n → Q i z)
    all_steps f Q step n d good =
        fold_below_induction f (λ i e. Step k l s d e (λ z. (j : ℕ) → j < i → Q j z)) n d
        (unwanted k l s d good (λ z j h. absurd (omega arith)))
        (λ i e h st.
        let new = step i e st.good in
        record {
          good = new.good;
          grows = grows_trans st.grows new.grows;
          leads = record {
            leads = λ y z above sat ran j lt.
                below_suc j i lt
                (λ old. (leads_grows k l s new.grows st.leads).leads y z above sat ran j old)
                (λ same. subst (λ (a : ℕ). Q a z) (sym same) (new.leads.leads y z above sat ran));
          };
        })

    -- the wants of the next layer, met after the moves counted in this one
    pub descend_step : Step k l s nothing (descend k l s w) (λ z. Sat w (layer_of z))
    unfolding descend carried layer_of
    descend_step =
        record {
          good = values.good;
          grows = grows_trans carry_step.grows (grows_trans props.grows values.grows);
          leads = record {
            leads = λ y z above sat ran.
                let kept : Sat (carried l w) (layer_of z) =
                (leads_grows k l s (grows_trans props.grows values.grows) carry_step.leads).leads y z above sat ran in
                record {
                  each = record {
                    props = λ p t.
                        prop_met w kept p t
                        ((leads_grows k l s values.grows props.leads).leads y z above sat ran p (had-next.each.props p t).0);
                    targets = λ v.
                        in_range_lem v k.vars ((next k.moves l).val v) ((layer_of z).val v) (w.target v)
                        (had-next.each.targets v)
                        (λ lt. target_met (layer_of z) v (w.target v) (kept.each.targets v) (values.leads.leads y z above sat ran v lt));
                  };
                };
          };
        }
      where
        props :
            Step k l s (carried_down l w) (fold_below (take_prop k l s w) k.props (carried_down l w))
            (λ z. (p : ℕ) → p < k.props → T (w.props p && not (l.has p)) → T (z.has p))
        props =
            all_steps (take_prop k l s w) (λ p z. T (w.props p && not (l.has p)) → T (z.has p)) prop_step k.props
            (carried_down l w) carry_step.good

        values :
            Step k l s (fold_below (take_prop k l s w) k.props (carried_down l w)) (descend k l s w)
            (λ z. (v : ℕ) → v < k.vars → Raised v (layer_of z) (w.target v))
        values =
            all_steps (take_value k l s w) (λ v z. Raised v (layer_of z) (w.target v)) value_step k.vars
            (fold_below (take_prop k l s w) k.props (carried_down l w)) props.good
