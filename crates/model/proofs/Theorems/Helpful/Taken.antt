-- Every move that the plan takes at layer 0 is in the set of helpful moves (document 02, request 6). Assumes nothing.
use Prim.Native.Nat.{ℕ, zero, suc, ◌+◌, ◌≤◌, ◌<◌, max}
use Rattle.std.proofs.Common.{arith, sym, eqb→eq}
use Rattle.std.specs.Prelude.{◌≡◌, ◌&&◌, eqb, ℤ, ◌-ℤ◌}
use Rattle.std.proofs.Math.Path.{refl, subst}
use Rattle.std.proofs.Math.Bool.{not}
use Rattle.std.proofs.Math.Option.{Option, none, some}
use Rattle.std.proofs.Math.Dec.{T}
use Rattle.std.proofs.Math.ListN.{length}
use Rattle.model.specs.Task.{Effect, Task, adds, effect_on}
use Rattle.model.specs.Move.{State, move_at}
use Rattle.model.specs.Layer.{Layer, reaches, usable, layer_value, layer_at}
use Rattle.model.specs.Plan.{Target, free, least, Wants, want_sum, want_block, demand, runs, Descent, counted, adder, take_adder, achieves, achiever, take_effect, take_achiever, take_prop, take_target, take_value, descend, Record, layer_records, records_from, records, wants_at, helpful, bit, helpful_moves}
use Rattle.model.specs.Theorems.Reading.WellFormed.{All}
use Rattle.model.proofs.Theorems.Laws.Booleans.{and_left, and_right, cond_cases}
use Rattle.model.proofs.Theorems.Laws.Searching.{All-map, first_from_cases, fold_below_induction}
use Rattle.model.proofs.Theorems.Laws.Listed.{All-append}
use Rattle.model.proofs.Theorems.Helpful.Supporting.{adder_helpful, achiever_helpful, in_set}
use Rattle.model.proofs.Theorems.Plans.Descending.{elim_cases}
use Rattle.model.specs.Theorems.Plans.Records.{descent_at, Entry}
use Rattle.model.proofs.Theorems.Plans.Records.{layer_records_cases, layer_entries, records_answer, records_down}

-- ---- one layer down

module _ (k : Task) (l : Layer) (w : Wants) where
  -- the moves taken so far are helpful moves of the table
  abbrev TakenHelp : Descent → Type 0
  TakenHelp d = (b : ℕ) → 1 ≤ d.count b → (b < length k.moves) × T (helpful l w (move_at k b))

  module _ (s : State) where
    one_more :
        (d : Descent) (u : Wants) (b n : ℕ) → TakenHelp d → b < length k.moves → T (helpful l w (move_at k b))
        → TakenHelp (record { wants = u; count = counted d.count b n })
    unfolding counted
    one_more d u b n taken lt useful c h =
        cond_cases (λ (x : ℕ). 1 ≤ x → (c < length k.moves) × T (helpful l w (move_at k c))) (eqb c b) (max (d.count c) n) (d.count c)
        (λ same more. subst (λ (a : ℕ). (a < length k.moves) × T (helpful l w (move_at k a))) (sym (eqb→eq c b same)) (lt, useful))
        (λ other more. taken c more) h

    prop_taken : (p : ℕ) (d : Descent) → TakenHelp d → TakenHelp (take_prop k l s w p d)
    unfolding take_prop take_adder adder
    prop_taken p d taken =
        elim_cases TakenHelp (w.props p && not (l.has p)) (take_adder k l s d (adder k l p)) d added (λ had. taken)
      where
        added : T (w.props p && not (l.has p)) → TakenHelp (take_adder k l s d (adder k l p))
        added lacking =
            first_from_cases (λ b. usable l (move_at k b) && adds p (move_at k b)) (λ (o : Option ℕ). TakenHelp (take_adder k l s d o)) 0 (length k.moves)
            (λ b low high t before. one_more d (want_block l s d.wants (move_at k b)) b 1 taken (omega arith)
            (adder_helpful l w p (move_at k b) lacking (and_left (usable l (move_at k b)) (adds p (move_at k b)) t)
            (and_right (usable l (move_at k b)) (adds p (move_at k b)) t)))
            (λ never. taken)

    value_taken : (v : ℕ) (d : Descent) → TakenHelp d → TakenHelp (take_value k l s w v d)
    unfolding take_value take_target take_achiever take_effect achiever
    value_taken v d taken = go (w.target v) refl
      where
        by_effect : (z : ℤ) (b : ℕ) (o : Option Effect) → b < length k.moves → T (helpful l w (move_at k b)) → TakenHelp (take_effect k l s d v z b o)
        by_effect z b none lt useful = taken
        by_effect z b (some e) lt useful =
            one_more d (want_sum l s (want_block l s d.wants (move_at k b)) e.terms (demand e.kind z -ℤ e.base)) b
            (runs e.kind z (s.val v) (layer_value l e)) taken lt useful

        achieved : (z : ℤ) → w.target v ≡ least z → (T (reaches (l.val v) z) → ⊥) → TakenHelp (take_achiever k l s d v z (achiever k l v z))
        achieved z target low =
            first_from_cases (λ b. usable l (move_at k b) && achieves l z (effect_on v (move_at k b))) (λ (o : Option ℕ). TakenHelp (take_achiever k l s d v z o))
            0 (length k.moves)
            (λ b from high t before.
            let m = move_at k b in
            by_effect z b (effect_on v m) (omega arith)
            (achiever_helpful l w v z m target low (and_left (usable l m) (achieves l z (effect_on v m)) t)
            (and_right (usable l m) (achieves l z (effect_on v m)) t)))
            (λ never. taken)

        go : (x : Target) → w.target v ≡ x → TakenHelp (take_target k l s v x d)
        go free e = taken
        go (least z) e =
            elim_cases TakenHelp (reaches (l.val v) z) d (take_achiever k l s d v z (achiever k l v z)) (λ reached. taken) (achieved z e)

    descend_taken : TakenHelp (descend k l s w)
    unfolding descend
    descend_taken =
        fold_below_induction (take_value k l s w) (λ (i : ℕ) (d : Descent). TakenHelp d) k.vars _
        (fold_below_induction (take_prop k l s w) (λ (i : ℕ) (d : Descent). TakenHelp d) k.props _
        (λ b h. absurd (omega arith)) (λ p d lt. prop_taken p d))
        (λ v d lt. value_taken v d)

-- ---- the records
layer_counted : (t : ℕ) (count : ℕ → ℕ) (b n : ℕ) → All (λ (r : Record). 1 ≤ count r.move) (layer_records t count b n)
unfolding layer_records
layer_counted t count b zero = tt
layer_counted t count b (suc n) =
    layer_records_cases t count (All (λ (r : Record). 1 ≤ count r.move)) b n
    (layer_counted t count (suc b) n) (λ some_runs. (some_runs, layer_counted t count (suc b) n))

module _ (k : Task) (s : State) where
  -- a record of layer 0 has its move in the set
  abbrev pub InSet : ℕ → Record → Type 0
  InSet m r = r.layer ≡ 0 → T (bit (helpful_moves k s m) r.move)

  here_in_set : (m u : ℕ) → All (InSet (suc m)) (layer_records u (descent_at k s (suc m) u).count 0 (length k.moves))
  unfolding descent_at
  here_in_set m zero =
      let d = descent_at k s (suc m) 0 in
      let taken = descend_taken k (layer_at k s 0) (wants_at k s (suc m) 1) s in
      All-map {P = λ (r : Record). 1 ≤ d.count r.move} (layer_records 0 d.count 0 (length k.moves))
      (λ r runs layer_0. in_set k s m r.move (taken r.move runs).0 (taken r.move runs).1)
      (layer_counted 0 d.count 0 (length k.moves))
  here_in_set m (suc u) =
      let d = descent_at k s (suc m) (suc u) in
      let A = length k.moves in
      All-map {P = Entry (suc u) 0 (0 + A)} (layer_records (suc u) d.count 0 A)
      (λ r e layer_0. absurd (omega (arith, e.layer))) (layer_entries (suc u) d.count 0 A)

  from_in_set : (m u : ℕ) → u ≤ suc m → All (InSet (suc m)) (records_from k s u (wants_at k s (suc m) u))
  unfolding records_from
  from_in_set m zero h = tt
  from_in_set m (suc u) h =
      rw (records_down k s (suc m) h)
      (All-append (InSet (suc m)) (records_from k s u (wants_at k s (suc m) u))
      (layer_records u (descent_at k s (suc m) u).count 0 (length k.moves))
      (from_in_set m u (omega arith)) (here_in_set m u))

  -- every move with a record at layer 0 is in the set of helpful moves
  pub taken_helpful : (m : ℕ) → All (InSet m) (records k s m)
  unfolding records records_from
  taken_helpful zero = tt
  taken_helpful (suc m) = rw (records_answer k s (suc m)) (from_in_set m (suc m) (omega arith))
