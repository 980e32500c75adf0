-- The reading as the code keeps it: the cursor, what holds of its numbers, and all checks of one command over them.
-- Assumes nothing.
use Prim.Native.Nat.{ℕ, zero, suc, ◌+◌, ◌<◌}
use Rattle.std.proofs.Common.{arith, sym, ltb-false}
use Rattle.std.specs.Prelude.{◌≡◌, Bool, true, false, ◌&&◌, ◌||◌, not, List, [], ◌∷◌, ltb, length, Ok, Err}
use Rattle.std.proofs.Math.Path.{refl}
use Rattle.std.proofs.Math.Option.{Option, none, some}
use Rattle.model.specs.declared.Refusal.{Refusal}
use Rattle.model.specs.Command.{Command, head, open_move, open_goal, end_table, need_prop, add_prop, delete_prop, term, close_condition, close_effect, unknown, width, in_place, after_term}
use Rattle.model.specs.Command as command
use Rattle.model.specs.Reading as reading
use Rattle.model.specs.Reading.{head_wanted, refused_at, first_refusal}
use Rattle.cursor.specs.declared.Cursor.{Cursor}
use Rattle.command.specs.Names.{place_of}
use Rattle.command.specs.Checks.{misplaced, miscounted, closes_idle}
use Rattle.cursor.specs.State.{Passed, check_of, cursor_refusal, in_order, refused_offset, repeated, wrong_at}

module _ (p : ℕ) (a b d i : Bool) (o : ℕ) (e : Bool) where
  pub order_3 : a ≡ true → Err (record { number = 3; place = p }) ≡ check_of (in_order p a b d i o e)
  unfolding in_order first_refusal refused_at check_of
  order_3 h = rw h refl

  pub order_2 : a ≡ false → b ≡ true → Err (record { number = 2; place = p }) ≡ check_of (in_order p a b d i o e)
  unfolding in_order first_refusal refused_at check_of
  order_2 h j = rw (h, j) refl

  pub order_6 : a ≡ false → b ≡ false → d ≡ true → Err (record { number = 6; place = p }) ≡ check_of (in_order p a b d i o e)
  unfolding in_order first_refusal refused_at check_of
  order_6 h j k = rw (h, j, k) refl

  pub order_16 : a ≡ false → b ≡ false → d ≡ false → i ≡ true → Err (record { number = 16; place = p }) ≡ check_of (in_order p a b d i o e)
  unfolding in_order first_refusal refused_at check_of
  order_16 h j k l = rw (h, j, k, l) refl

  pub order_4 : a ≡ false → b ≡ false → d ≡ false → i ≡ false → 0 < o → Err (record { number = 4; place = p + o }) ≡ check_of (in_order p a b d i o e)
  unfolding in_order first_refusal refused_at refused_offset check_of
  order_4 h j k l m = rw (h, j, k, l) (go o m)
    where
      go : (n : ℕ) → 0 < n → Err (record { number = 4; place = p + n }) ≡ check_of (first_refusal (refused_offset p n ∷ refused_at 5 e p ∷ []))
      go zero q = absurd (omega arith)
      go (suc n) q = refl

  pub order_5 : a ≡ false → b ≡ false → d ≡ false → i ≡ false → o ≡ 0 → e ≡ true → Err (record { number = 5; place = p }) ≡ check_of (in_order p a b d i o e)
  unfolding in_order first_refusal refused_at refused_offset check_of
  order_5 h j k l m n = rw (h, j, k, l, m, n) refl

  pub order_passes : a ≡ false → b ≡ false → d ≡ false → i ≡ false → o ≡ 0 → e ≡ false → Ok tt ≡ check_of (in_order p a b d i o e)
  unfolding in_order first_refusal refused_at refused_offset check_of
  order_passes h j k l m n = rw (h, j, k, l, m, n) refl

pub passes_none : (x : Option Refusal) → Ok tt ≡ check_of x → x ≡ none
unfolding check_of
passes_none none e = refl
passes_none (some r) e = let z : ◌≡◌ {A = ℕ} 0 1 = cc in absurd (omega arith)

silent : (p : ℕ) (a b d i : Bool) (o : ℕ) (e : Bool) → in_order p a b d i o e ≡ none → (a ≡ false) × (b ≡ false) × (d ≡ false) × (o ≡ 0) × (e ≡ false)
unfolding in_order first_refusal refused_at refused_offset
silent p true b d i o e h = let z : ◌≡◌ {A = ℕ} 0 1 = cc in absurd (omega arith)
silent p false true d i o e h = let z : ◌≡◌ {A = ℕ} 0 1 = cc in absurd (omega arith)
silent p false false true i o e h = let z : ◌≡◌ {A = ℕ} 0 1 = cc in absurd (omega arith)
silent p false false false true o e h = let z : ◌≡◌ {A = ℕ} 0 1 = cc in absurd (omega arith)
silent p false false false false zero true h = let z : ◌≡◌ {A = ℕ} 0 1 = cc in absurd (omega arith)
silent p false false false false zero false h = (refl, refl, refl, refl, refl)
silent p false false false false (suc o) e h = let z : ◌≡◌ {A = ℕ} 0 1 = cc in absurd (omega arith)

misplaced_no : (w : reading.Wanted) (p : command.Place) (n : ℕ) (k : Command) → misplaced w p n k ≡ false → in_place p k ≡ true
unfolding misplaced
misplaced_no w p n k h = go (in_place p k) (head_wanted w k) (ltb 0 n && not (after_term k)) h
  where
    go : (a b d : Bool) → (not a || not b || d) ≡ false → a ≡ true
    go true b d e = refl
    go false b d e = sym e

pub passed :
    (w : reading.Wanted) (t : List ℕ) (c : Cursor) (needed changed affected : List ℕ) (k : Command)
    → Ok tt ≡ check_of (cursor_refusal w t c needed changed affected k)
    → Passed t c needed changed affected k
unfolding cursor_refusal
passed w t c needed changed affected k h =
    let a = misplaced w (place_of c.place) c.terms k in
    let b = ltb (length t) (c.at + width k) in
    let d = miscounted c.moves c.opened k in
    let i = closes_idle w (place_of c.place) c.active k in
    let o = wrong_at t c k in
    let e = repeated t c needed changed affected k in
    let f = silent c.at a b d i o e (passes_none (in_order c.at a b d i o e) h) in
    record {
      placed = misplaced_no w (place_of c.place) c.terms k f.0;
      uncut = ltb-false (length t) (c.at + width k) f.1;
      counted = f.2;
      ranged = f.3;
      fresh = f.4;
    }
