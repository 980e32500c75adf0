-- The plan does not see moves that do nothing: its records are the old ones with each move under its new number, and so is its
-- list. Assumes nothing.
use Prim.Native.Nat.{ℕ, zero, suc, ◌-◌, max}
use Rattle.std.proofs.Math.Path.{◌≡◌, refl, ap, ap₂, subst, fun_ext}
use Rattle.std.proofs.Common.{sym, ◌∙◌, eqb→eq}
use Rattle.std.specs.Prelude.{Bool, ◌&&◌, T, eqb, ℤ, ◌-ℤ◌, length}
use Rattle.std.proofs.Math.Bool.{true, false, cond, not, and-false}
use mathlib.Core.List.{List, [], ◌∷◌, ◌++◌, map, map-append}
use Rattle.std.proofs.Math.Option.{Option, none, some}
use Rattle.std.proofs.Math.ListN.{replicate}
use Rattle.model.specs.Lists.{fold_below}
use Rattle.model.specs.Task.{Effect, Block, Task, adds, effect_on, active}
use Rattle.model.specs.Move.{State, move_at}
use Rattle.model.specs.Layer.{Layer, reaches, usable, layer_value, layer_at}
use Rattle.model.specs.Plan.{Target, free, least, Wants, no_wants, want_sum, want_block, Descent, counted, adder, take_adder, demand, achieves, achiever, runs, take_effect, take_achiever, carried_down, take_prop, take_target, take_value, descend, Record, layer_records, records_from, records, move_and_count, plan_list, wants_below, wants_at}
use Rattle.model.specs.NormalForm.{normal_task}
use Rattle.model.specs.Rewrite.{rewritten, new_number, renumbered}
use Rattle.model.specs.Theorems.Reading.WellFormed.{All}
use Rattle.model.proofs.Theorems.Laws.Booleans.{T_true, true_t, not-false, false_not}
use Rattle.model.proofs.Theorems.Laws.Listed.{All-append}
use Rattle.model.proofs.Theorems.Rewriting.Solving.{idle_adds, idle_effects, normal_rewritten}
use Rattle.model.proofs.Theorems.Rewriting.Normal.{normal_new_number, normal_renumbered}
use Rattle.model.proofs.Theorems.Rewriting.Layers.{same_layer_at}
use Rattle.model.proofs.Theorems.Rewriting.Numbers.{new_same, new_equal, walk, first_same}
use Rattle.model.specs.Theorems.Rewriting.Plans.{new_record}

-- ---- one layer down

module _ (k : Task) where
  abbrev new : ℕ → ℕ
  new b = new_number k.moves b

  abbrev Does : ℕ → Type 0
  Does b = T (active (move_at k b))

  -- the move under its new number
  same_move : (b : ℕ) → Does b → move_at (rewritten k) (new b) ≡ move_at k b
  unfolding move_at rewritten
  same_move b does = new_same k.moves b does

  -- the counts of all moves from those of the moves that do something
  abbrev old_counts : (ℕ → ℕ) → ℕ → ℕ
  old_counts c b = cond (active (move_at k b)) (c (new b)) 0

  abbrev old : Descent → Descent
  old d = record { wants = d.wants; count = old_counts d.count }

  -- counting a move that does something, before or after
  counted_old : (c : ℕ → ℕ) (b n e : ℕ) → Does b → counted (old_counts c) b n e ≡ old_counts (counted c (new b) n) e
  unfolding counted move_at
  counted_old c b n e does = go (active (move_at k e)) refl
    where
      go :
          (x : Bool) → active (move_at k e) ≡ x
          → cond (eqb e b) (max (cond x (c (new e)) 0) n) (cond x (c (new e)) 0) ≡ cond x (cond (eqb (new e) (new b)) (max (c (new e)) n) (c (new e))) 0
      go true h = ap (λ (y : Bool). cond y (max (c (new e)) n) (c (new e))) (sym (new_equal k.moves e b (true_t h) does))
      go false h =
          ap (λ (y : Bool). cond y (max 0 n) 0)
          (not-false (eqb e b) (λ t. false_not h (subst (λ (i : ℕ). Does i) (sym (eqb→eq e b t)) does)))

  -- a move is taken under either number alike
  took : (d : Descent) (b n : ℕ) (want : Block → Wants) → Does b → ◌≡◌ {A = Descent} (record { wants = want (move_at k b); count = counted (old_counts d.count) b n }) (old (record { wants = want (move_at (rewritten k) (new b)); count = counted d.count (new b) n }))
  took d b n want does = λ i. record { wants = want (sym (same_move b does) i); count = λ e. counted_old d.count b n e does i }

  module _ (l : Layer) (s : State) (d : Descent) where
    take_adder_lem : (p : ℕ) → take_adder k l s (old d) (adder k l p) ≡ old (take_adder (rewritten k) l s d (adder (rewritten k) l p))
    unfolding take_adder adder move_at rewritten
    take_adder_lem p =
        first_same k.moves (λ m. usable l m && adds p m)
        (λ m idle. ap (λ (x : Bool). usable l m && x) (idle_adds p m idle) ∙ and-false (usable l m))
        (λ (x y : Option ℕ). take_adder k l s (old d) x ≡ old (take_adder (rewritten k) l s d y))
        refl
        (λ b does. took d b 1 (λ m. want_block l s d.wants m) does)

    take_achiever_lem : (v : ℕ) (z : ℤ) → take_achiever k l s (old d) v z (achiever k l v z) ≡ old (take_achiever (rewritten k) l s d v z (achiever (rewritten k) l v z))
    unfolding take_achiever take_effect achiever achieves move_at rewritten
    take_achiever_lem v z =
        first_same k.moves (λ m. usable l m && achieves l z (effect_on v m))
        (λ m idle. ap (λ (o : Option Effect). usable l m && achieves l z o) (idle_effects v m idle) ∙ and-false (usable l m))
        (λ (x y : Option ℕ). take_achiever k l s (old d) v z x ≡ old (take_achiever (rewritten k) l s d v z y))
        refl
        (λ b does. go b does (effect_on v (move_at k b)) ∙ ap (λ (m : Block). old (take_effect (rewritten k) l s d v z (new b) (effect_on v m))) (sym (same_move b does)))
      where
        go : (b : ℕ) → Does b → (o : Option Effect) → take_effect k l s (old d) v z b o ≡ old (take_effect (rewritten k) l s d v z (new b) o)
        go b does none = refl
        go b does (some e) =
            took d b (runs e.kind z (s.val v) (layer_value l e)) (λ m. want_sum l s (want_block l s d.wants m) e.terms (demand e.kind z -ℤ e.base)) does

  -- what each step keeps, the fold keeps
  folded : (f g : ℕ → Descent → Descent) → ((i : ℕ) (d : Descent) → f i (old d) ≡ old (g i d)) → (n : ℕ) (d : Descent) → fold_below f n (old d) ≡ old (fold_below g n d)
  unfolding fold_below
  folded f g step zero d = refl
  folded f g step (suc n) d = ap (f n) (folded f g step n d) ∙ step n (fold_below g n d)

  module _ (l : Layer) (s : State) where
    take_prop_lem : (w : Wants) (p : ℕ) (d : Descent) → take_prop k l s w p (old d) ≡ old (take_prop (rewritten k) l s w p d)
    unfolding take_prop
    take_prop_lem w p d = go (w.props p && not (l.has p))
      where
        go :
            (x : Bool)
            → elim x [ true ↦ take_adder k l s (old d) (adder k l p) | false ↦ old d ]
            ≡ old (elim x [ true ↦ take_adder (rewritten k) l s d (adder (rewritten k) l p) | false ↦ d ])
        go true = take_adder_lem l s d p
        go false = refl

    take_value_lem : (w : Wants) (v : ℕ) (d : Descent) → take_value k l s w v (old d) ≡ old (take_value (rewritten k) l s w v d)
    unfolding take_value take_target
    take_value_lem w v d = go (w.target v)
      where
        unreached :
            (z : ℤ) (x : Bool)
            → elim x [ true ↦ old d | false ↦ take_achiever k l s (old d) v z (achiever k l v z) ]
            ≡ old (elim x [ true ↦ d | false ↦ take_achiever (rewritten k) l s d v z (achiever (rewritten k) l v z) ])
        unreached z true = refl
        unreached z false = take_achiever_lem l s d v z

        go : (t : Target) → take_target k l s v t (old d) ≡ old (take_target (rewritten k) l s v t d)
        go free = refl
        go (least z) = unreached z (reaches (l.val v) z)

    -- one layer down the same is wanted, and the counts are those of the moves that do something
    same_descend : (w : Wants) → descend k l s w ≡ old (descend (rewritten k) l s w)
    unfolding descend rewritten
    same_descend w =
        ap (λ (d : Descent). fold_below (take_value k l s w) k.vars (fold_below (take_prop k l s w) k.props d)) begin
        ∙ ap (fold_below (take_value k l s w) k.vars) (folded (take_prop k l s w) (take_prop (rewritten k) l s w) (take_prop_lem w) k.props (carried_down l w))
        ∙ folded (take_value k l s w) (take_value (rewritten k) l s w) (take_value_lem w) k.vars (fold_below (take_prop (rewritten k) l s w) k.props (carried_down l w))
      where
        zeros : (x : Bool) → ◌≡◌ {A = ℕ} 0 (cond x 0 0)
        zeros true = refl
        zeros false = refl

        begin : carried_down l w ≡ old (carried_down l w)
        begin = λ i. record { wants = (carried_down l w).wants; count = λ b. zeros (active (move_at k b)) i }

-- ---- the wants of each layer
module _ (k : Task) (s : State) (m : ℕ) where
  same_below : (n : ℕ) → wants_below (rewritten k) s m n ≡ wants_below k s m n
  unfolding wants_below rewritten
  same_below zero = ap (λ (l : Layer). want_block l s no_wants k.goal) (same_layer_at k s m)
  same_below (suc n) =
      ap₂ (λ (l : Layer) (w : Wants). (descend (rewritten k) l s w).wants) (same_layer_at k s (m - suc n)) (same_below n)
      ∙ ap (λ (d : Descent). d.wants) (sym (same_descend k (layer_at k s (m - suc n)) s (wants_below k s m n)))

  -- each layer has the same wants
  pub same_wants : (u : ℕ) → wants_at (rewritten k) s m u ≡ wants_at k s m u
  unfolding wants_at
  same_wants u = same_below (m - u)

module _ (k : Task) where
  -- the one list of records is the other renumbered, and its moves do something
  abbrev Renumbered : List Record → List Record → Type 0
  Renumbered rs qs = (qs ≡ map (new_record k) rs) × All (λ (r : Record). T (active (move_at k r.move))) rs

  renumbered_append : (rs rs' qs qs' : List Record) → Renumbered rs qs → Renumbered rs' qs' → Renumbered (rs ++ rs') (qs ++ qs')
  renumbered_append rs rs' qs qs' a b = (ap₂ (λ (x y : List Record). x ++ y) a.0 b.0 ∙ sym (map-append (new_record k) rs rs'), All-append _ rs rs' a.1 b.1)

  layer_renumbered : (t : ℕ) (c : ℕ → ℕ) → Renumbered (layer_records t (old_counts k c) 0 (length k.moves)) (layer_records t c 0 (length (rewritten k).moves))
  unfolding layer_records rewritten move_at
  layer_renumbered t c =
      walk k.moves (λ b n e m. Renumbered (layer_records t (old_counts k c) b n) (layer_records t c e m)) (λ b. (refl, tt))
      (λ b n m does later.
      subst (λ (x : ℕ). Renumbered (head b x (records_old (suc b) n)) (head (new k b) (c (new k b)) (layer_records t c (suc (new k b)) m)))
      (ap (λ (x : Bool). cond x (c (new k b)) 0) (sym (T_true (active (move_at k b)) does)))
      (here b (eqb (c (new k b)) 0) (c (new k b)) (records_old (suc b) n) (layer_records t c (suc (new k b)) m) does later))
      (λ b n m idle later.
      subst (λ (x : ℕ). Renumbered (head b x (records_old (suc b) n)) (layer_records t c (new k b) m))
      (ap (λ (x : Bool). cond x (c (new k b)) 0) (sym idle)) later)
    where
      records_old : ℕ → ℕ → List Record
      records_old b n = layer_records t (old_counts k c) b n

      head : ℕ → ℕ → List Record → List Record
      head b x rs = elim (eqb x 0) [ true ↦ rs | false ↦ record { layer = t; move = b; count = x } ∷ rs ]

      here :
          (b : ℕ) (x : Bool) (n : ℕ) (rs qs : List Record)
          → Does k b
          → Renumbered rs qs
          → Renumbered (elim x [ true ↦ rs | false ↦ record { layer = t; move = b; count = n } ∷ rs ])
          (elim x [ true ↦ qs | false ↦ record { layer = t; move = new k b; count = n } ∷ qs ])
      here b true n rs qs does later = later
      here b false n rs qs does later = (ap (λ (l : List Record). record { layer = t; move = new k b; count = n } ∷ l) later.0, (does, later.1))

  from_renumbered : (s : State) (t : ℕ) (w : Wants) → Renumbered (records_from k s t w) (records_from (rewritten k) s t w)
  unfolding records_from
  from_renumbered s zero w = (refl, tt)
  from_renumbered s (suc t) w =
      subst (λ (m : Layer). Renumbered (old_records (descend k l s w)) (new_records (descend (rewritten k) m s w))) (sym (same_layer_at k s t))
      (subst (λ (d : Descent). Renumbered (old_records d) (new_records e)) (sym (same_descend k l s w))
      (renumbered_append (records_from k s t e.wants) (layer_records t (old_counts k e.count) 0 (length k.moves))
      (records_from (rewritten k) s t e.wants) (layer_records t e.count 0 (length (rewritten k).moves))
      (from_renumbered s t e.wants) (layer_renumbered t e.count)))
    where
      l : Layer
      l = layer_at k s t

      e : Descent
      e = descend (rewritten k) l s w

      old_records : Descent → List Record
      old_records d = records_from k s t d.wants ++ layer_records t d.count 0 (length k.moves)

      new_records : Descent → List Record
      new_records d = records_from (rewritten k) s t d.wants ++ layer_records t d.count 0 (length (rewritten k).moves)

  module _ (s : State) (m : ℕ) where
    both_records : Renumbered (records k s m) (records (rewritten k) s m)
    unfolding records rewritten
    both_records =
        subst (λ (l : Layer). Renumbered (records k s m) (records_from (rewritten k) s m (want_block l s no_wants k.goal))) (sym (same_layer_at k s m))
        (from_renumbered s m (want_block (layer_at k s m) s no_wants k.goal))

    -- the plan's records are the old ones, in their order and with their counts, each move under its new number
    pub same_records : records (rewritten k) s m ≡ map (new_record k) (records k s m)
    same_records = both_records.0

    -- no plan takes a move that does nothing
    pub records_active : All (λ (r : Record). T (active (move_at k r.move))) (records k s m)
    records_active = both_records.1

    -- the plan's list is the old one, renumbered
    pub same_list : plan_list (map move_and_count (records (rewritten k) s m)) ≡ renumbered k (plan_list (map move_and_count (records k s m)))
    unfolding plan_list renumbered
    same_list = ap (λ (rs : List Record). plan_list (map move_and_count rs)) same_records ∙ listed (records k s m) records_active
      where
        repeated : (b n : ℕ) (bs : List ℕ) → Does k b → replicate n (new k b) ++ renumbered k bs ≡ renumbered k (replicate n b ++ bs)
        repeated b zero bs does = refl
        repeated b (suc n) bs does =
            ap (λ (l : List ℕ). new k b ∷ l) (repeated b n bs does)
            ∙ ap (λ (x : Bool). cond x (new k b ∷ renumbered k (replicate n b ++ bs)) (renumbered k (replicate n b ++ bs))) (sym (T_true (active (move_at k b)) does))

        listed : (rs : List Record) → All (λ (r : Record). T (active (move_at k r.move))) rs → plan_list (map move_and_count (map (new_record k) rs)) ≡ renumbered k (plan_list (map move_and_count rs))
        listed [] a = refl
        listed (r ∷ rs) a = ap (λ (l : List ℕ). replicate r.count (new k r.move) ++ l) (listed rs a.1) ∙ repeated r.move r.count (plan_list (map move_and_count rs)) a.0

-- ---- written tables
module _ (k : Task) where
  -- the plan's records of a rewritten written table are the old ones, each move under its new number
  pub same_records_written : (s : State) (m : ℕ) → records (normal_task (rewritten k)) s m ≡ map (new_record k) (records (normal_task k) s m)
  unfolding normal_task
  same_records_written s m =
      ap (λ (n : Task). records n s m) (normal_rewritten k)
      ∙ same_records (normal_task k) s m
      ∙ ap (λ (f : Record → Record). map f (records (normal_task k) s m))
      (fun_ext (λ r. ap (λ (b : ℕ). record { layer = r.layer; move = b; count = r.count }) (normal_new_number k.moves r.move)))

  -- and its list is the old one, renumbered
  pub same_list_written :
      (s : State) (m : ℕ)
      → plan_list (map move_and_count (records (normal_task (rewritten k)) s m)) ≡ renumbered k (plan_list (map move_and_count (records (normal_task k) s m)))
  same_list_written s m =
      ap (λ (n : Task). plan_list (map move_and_count (records n s m))) (normal_rewritten k)
      ∙ same_list (normal_task k) s m
      ∙ normal_renumbered k (plan_list (map move_and_count (records (normal_task k) s m)))
