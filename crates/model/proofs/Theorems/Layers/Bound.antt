-- The bound on layers: of a normal table's layers at most (A + N + 1) × (N + 1) are followed by a different one. The number of
-- usable moves and unbounded variables never falls and is at most A + N; where it stands still over N + 1 steps, the layer
-- stays (`Quiet`). For all N, 0 too. Assumes nothing.
use Prim.Native.Nat.{ℕ, zero, suc, ◌+◌, ◌*◌, ◌≤◌, ◌<◌}
use Rattle.std.specs.Prelude.{◌≡◌, false, T}
use Rattle.std.proofs.Math.Nat.{lt_of_not-le}
use Rattle.std.proofs.Common.{le_of_suc-le-suc, suc-mul, add-one, arith}
use Rattle.std.proofs.Math.ListN.{length}
use Rattle.model.specs.Limits.{Limits}
use Rattle.model.specs.Task.{normal, Task}
use Rattle.model.specs.Move.{State}
use Rattle.model.specs.Layer.{unbounded, Layer, layer, layer_at, settled, bound}
use Rattle.model.specs.Theorems.Reading.WellFormed.{TaskOk}
use Rattle.model.specs.Theorems.Layers.Order.{◌≼◌}
use Rattle.model.proofs.Theorems.Layers.Order.{⊑_trans, usable_mono}
use Rattle.model.proofs.Theorems.Layers.NextLayer.{next_above, move_ok, layer_mono}
use Rattle.model.proofs.Theorems.Layers.Settled.{unsettled_cases}
use Rattle.model.specs.Theorems.Laws.Counting.{count}
use Rattle.model.proofs.Theorems.Laws.Counting.{count_mono, count_same, count_most}
use Rattle.model.specs.Theorems.Layers.Quiet.{after, Quiet}
use Rattle.model.proofs.Theorems.Layers.Quiet.{quiet_closed}
use Rattle.model.specs.Theorems.Layers.Bound.{potential, unbounded_var, usable_move}

module _ {L : Limits} {k : Task} (ok : TaskOk L normal k) where
  module _ {l m : Layer} (above : l ≼ m) where
    more_moves : (b : ℕ) → b < length k.moves → T (usable_move k l b) → T (usable_move k m b)
    more_moves b h t = usable_mono (move_ok ok b h) above t

    more_vars : (v : ℕ) → v < k.vars → T (unbounded_var k l v) → T (unbounded_var k m v)
    more_vars v h t = (⊑_trans {x = unbounded} {y = l.val v} (record { below = t }) (above.val v)).below

    moves_mono : count (usable_move k l) (length k.moves) ≤ count (usable_move k m) (length k.moves)
    moves_mono = count_mono (usable_move k l) (usable_move k m) (length k.moves) more_moves

    vars_mono : count (unbounded_var k l) k.vars ≤ count (unbounded_var k m) k.vars
    vars_mono = count_mono (unbounded_var k l) (unbounded_var k m) k.vars more_vars

    potential_mono : potential k l ≤ potential k m
    unfolding potential
    potential_mono = omega (arith, moves_mono, vars_mono)

    -- where it does not rise, no move is new and no variable
    same_moves :
        potential k m ≤ potential k l
        → (b : ℕ)
        → b < length k.moves
        → T (usable_move k m b)
        → T (usable_move k l b)
    unfolding potential
    same_moves flat =
        count_same (usable_move k l) (usable_move k m) (length k.moves) more_moves (omega (arith, flat, moves_mono, vars_mono))

    same_vars :
        potential k m ≤ potential k l
        → (v : ℕ)
        → v < k.vars
        → T (unbounded_var k m v)
        → T (unbounded_var k l v)
    unfolding potential
    same_vars flat =
        count_same (unbounded_var k l) (unbounded_var k m) k.vars more_vars (omega (arith, flat, moves_mono, vars_mono))

  -- a step that does not raise the potential is quiet
  flat_quiet : (l : Layer) → potential k (after k l) ≤ potential k l → Quiet k l
  flat_quiet l flat =
      let above = next_above k.moves l in
      record {
        moves = same_moves above flat;
        vars = λ v h u. record { below = same_vars above flat v h u.below };
      }

  potential_most : (l : Layer) → potential k l ≤ length k.moves + k.vars
  unfolding potential
  potential_most l = omega (arith, count_most (usable_move k l) (length k.moves), count_most (unbounded_var k l) k.vars)

  module _ (s : State) where
    -- the potential of layer t
    abbrev level : ℕ → ℕ
    level t = potential k (layer_at k s t)

    level_mono : {t u : ℕ} → t ≤ u → level t ≤ level u
    unfolding layer_at
    level_mono {t} {u} h = potential_mono (layer_mono k.moves s h)

    -- N + 1 steps raise it if the layer that they lead to is not settled
    grows : (a : ℕ) → settled k s (a + suc k.vars) ≡ false → level a < level (a + suc k.vars)
    unfolding layer_at layer
    grows a unsettled =
        lt_of_not-le
        (λ flat. unsettled_cases k s b unsettled
        (λ p h old new. old ((closed flat).has p new))
        (λ v h higher. higher ((closed flat).val v)))
      where
        b : ℕ
        b = a + suc k.vars

        closed : level b ≤ level a → layer_at k s (suc b) ≼ layer_at k s b
        closed flat =
            quiet_closed ok s a
            (λ t from to. flat_quiet (layer_at k s t) (omega (arith, flat, level_mono from, level_mono to)))

    -- so it is at least j after j (N + 1) steps
    climbs :
        (n : ℕ)
        → ((t : ℕ) → t < n → settled k s t ≡ false)
        → (j : ℕ)
        → j * suc k.vars < n
        → j ≤ level (j * suc k.vars)
    climbs n unsettled zero h = omega arith
    climbs n unsettled (suc j) h =
        let here = j * suc k.vars in
        let next_one : here + suc k.vars < n = rw (suc-mul j (suc k.vars)) at h in
        rw (suc-mul j (suc k.vars))
        (omega (arith, climbs n unsettled j (omega arith), grows here (unsettled (here + suc k.vars) next_one)))

    -- Only (A + N + 1) × (N + 1) layers can come before the first "next layer equal to layer t", so building ends.
    pub layers_bound : (n : ℕ) → ((t : ℕ) → t < n → settled k s t ≡ false) → n ≤ bound (length k.moves) k.vars
    unfolding bound
    layers_bound n unsettled =
        rw (add-one k.vars)
        (le_of_suc-le-suc
        (lt_of_not-le (λ h. omega (arith, climbs n unsettled most h, potential_most (layer_at k s (most * suc k.vars))))))
      where
        most : ℕ
        most = length k.moves + k.vars + 1
