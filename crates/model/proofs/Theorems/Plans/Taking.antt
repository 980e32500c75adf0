-- The wants and counts of one layer while they are made: what holds of them, and what a want carried down or a move taken adds
-- (document 01, "Plan"). Assumes nothing.
use Rattle.std.specs.Prelude.{ℕ, ◌≤◌, ◌<◌, max, ◌≡◌, T, eqb, length}
use Rattle.std.proofs.Common.{arith, eqb→eq}
use Rattle.std.proofs.Math.Dec.{eqb_refl}
use Rattle.model.specs.Limits.{Limits}
use Rattle.model.specs.Task.{normal, Block, Task}
use Rattle.model.specs.Move.{State, move_at}
use Rattle.model.specs.Layer.{Layer, usable, layer_of}
use Rattle.model.specs.Plan.{Wants, want_block, Descent, counted}
use Rattle.model.specs.Theorems.Reading.WellFormed.{All, ItemOk, TaskOk}
use Rattle.model.proofs.Theorems.Laws.Booleans.{cond_cases}
use Rattle.model.proofs.Theorems.Layers.NextLayer.{move_ok}
use Rattle.model.specs.Theorems.Plans.Targets.{Above, Sat}
use Rattle.model.proofs.Theorems.Plans.Targets.{above_trans, sat_mono}
use Rattle.model.specs.Theorems.Plans.Conditions.{Had}
use Rattle.model.proofs.Theorems.Plans.Conditions.{want_block_old, want_block_had, want_block_enough}
use Rattle.model.specs.Theorems.Plans.Supporting.{repeated}
use Rattle.model.proofs.Theorems.Plans.Supporting.{repeated_more}
use Rattle.model.specs.Theorems.Plans.Taking.{Grows, Ran}

-- ---- counts

module _ (f : ℕ → ℕ) (b n : ℕ) where
  -- "A move taken twice in a layer keeps its larger count."
  counted_old : (c : ℕ) → f c ≤ counted f b n c
  unfolding counted
  counted_old c = cond_cases (λ m. f c ≤ m) (eqb c b) (max (f c) n) (f c) (λ e. omega arith) (λ e. omega arith)

  pub counted_new : n ≤ counted f b n b
  unfolding counted
  counted_new = cond_cases (λ m. n ≤ m) (eqb b b) (max (f b) n) (f b) (λ e. omega arith) (λ e. absurd (e (eqb_refl b)))

  -- a move that is counted was counted before, or it is b
  counted_cases : {X : Type 0} (c : ℕ) → 1 ≤ counted f b n c → (1 ≤ f c → X) → (c ≡ b → X) → X
  unfolding counted
  counted_cases {X} c h old new =
      cond_cases (λ m. 1 ≤ m → X) (eqb c b) (max (f c) n) (f c) (λ e k. new (eqb→eq c b e)) (λ e k. old k) h

ran_fewer :
    {k : Task} {f g : ℕ → ℕ} {first n : ℕ} {y z : State}
    → ((b : ℕ) → f b ≤ g b)
    → Ran k g first n y z
    → Ran k f first n y z
ran_fewer {k} {f} {g} h ran =
    record {
      above = ran.above;
      each = λ b low high.
          let one = ran.each b low high in
          record {
            before = one.before;
            start = one.start;
            end = above_trans (repeated_more (f b) (g b) (move_at k b) one.before (h b)) one.end;
          };
    }

grows_refl : (d : Descent) → Grows d d
grows_refl d = record { wants = λ x h. h; count = λ b. omega arith }

pub grows_trans : {d e f : Descent} → Grows d e → Grows e f → Grows d f
grows_trans g h = record { wants = λ x t. g.wants x (h.wants x t); count = λ b. omega (arith, g.count b, h.count b) }

module _ (k : Task) (l : Layer) (s : State) where
  -- the wants can be had in the layer, and every move counted is usable in each state that meets them
  pub record Good (d : Descent) : Type 0 where
    pub had : Had k.props k.vars l d.wants
    pub move : (b : ℕ) → 1 ≤ d.count b → b < length k.moves
    pub enabled :
        (b : ℕ)
        → 1 ≤ d.count b
        → (y : State)
        → Above s y
        → Sat d.wants (layer_of y)
        → T (usable (layer_of y) (move_at k b))

  -- from every state that meets the wants the moves, run as often as counted, lead to a state with Q
  pub record Leads (d : Descent) (Q : State → Type 0) : Type 0 where
    pub leads :
        (y z : State)
        → Above s y
        → Sat d.wants (layer_of y)
        → Ran k d.count 0 (length k.moves) y z
        → Q z

  pub leads_grows : {d e : Descent} {Q : State → Type 0} → Grows d e → Leads d Q → Leads e Q
  leads_grows g h =
      record { leads = λ y z above sat ran. h.leads y z above (g.wants (layer_of y) sat) (ran_fewer g.count ran) }

  -- e is d with what it takes for Q
  pub record Step (d e : Descent) (Q : State → Type 0) : Type 0 where
    pub good : Good e
    pub grows : Grows d e
    pub leads : Leads e Q

  -- nothing is to be done for Q
  pub unwanted : (d : Descent) {Q : State → Type 0} → Good d → ((z : State) → Q z) → Step d d Q
  unwanted d good all-Q = record { good = good; grows = grows_refl d; leads = record { leads = λ y z above sat ran. all-Q z } }

  -- a want of the layer itself: no move is taken for it
  pub carried :
      {d : Descent} {u : Wants} (Q : State → Type 0)
      → Good d
      → Had k.props k.vars l u
      → ((x : Layer) → Sat u x → Sat d.wants x)
      → ((y z : State) → Above y z → Sat u (layer_of y) → Q z)
      → Step d (record { wants = u; count = d.count }) Q
  carried {d} Q good had wants leads-Q =
      record {
        good = record {
          had = had;
          move = good.move;
          enabled = λ c h y above sat. good.enabled c h y above (wants (layer_of y) sat);
        };
        grows = record { wants = wants; count = λ c. omega arith };
        leads = record { leads = λ y z above sat ran. leads-Q y z ran.above sat };
      }

module _ {L : Limits} {k : Task} (ok : TaskOk L normal k) (l : Layer) (s : State) where
  -- a move taken: its conditions are wanted, among others, and its count is n or more
  pub taken :
      {d : Descent} {u : Wants} (b n : ℕ) (Q : State → Type 0)
      → Good k l s d
      → b < length k.moves
      → T (usable l (move_at k b))
      → Had k.props k.vars l u
      → ((x : Layer) → Sat u x → Sat (want_block l s d.wants (move_at k b)) x)
      → ((y : State) → Above s y → Sat u (layer_of y) → Q (repeated n (move_at k b) y))
      → ((y z : State) → Above y z → Q y → Q z)
      → Step k l s d (record { wants = u; count = counted d.count b n }) Q
  unfolding move_at
  taken {d} {u} b n Q good lt enabled had wants leads-Q up-Q =
      record {
        good = record {
          had = had;
          move = λ c h. counted_cases d.count b n c h (good.move c) (λ e. rw e lt);
          enabled = λ c h y above sat. counted_cases d.count b n c h
              (λ old. good.enabled c old y above (old_wants (layer_of y) sat))
              (λ e. rw e (want_block_enough L k.props k.vars l s d.wants m items above enabled (wants (layer_of y) sat)));
        };
        grows = record { wants = old_wants; count = counted_old d.count b n };
        leads = record {
          leads = λ y z above sat ran.
              let one = ran.each b (omega arith) (omega arith) in
              up-Q (repeated n m one.before) z
              (above_trans (repeated_more n (counted d.count b n b) m one.before (counted_new d.count b n)) one.end)
              (leads-Q one.before (above_trans above one.start) (sat_mono sat one.start.order));
        };
      }
    where
      m : Block
      m = move_at k b

      items : All (ItemOk L normal k.props k.vars) m
      items = (move_ok ok b lt).items

      old_wants : (x : Layer) → Sat u x → Sat d.wants x
      old_wants x t = want_block_old l s d.wants m (wants x t)

  -- what is wanted for it can be had in the layer
  pub block_had :
      {u : Wants} (b : ℕ)
      → b < length k.moves
      → T (usable l (move_at k b))
      → Had k.props k.vars l u
      → Had k.props k.vars l (want_block l s u (move_at k b))
  unfolding move_at
  block_had {u} b lt enabled had = want_block_had L k.props k.vars l s u (move_at k b) (move_ok ok b lt).items enabled had
