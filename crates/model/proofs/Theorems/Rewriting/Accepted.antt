-- What the rewriter writes is a table that read takes, 16 included, and a table that read takes comes out as it is. Assumes
-- nothing.
use Prim.Native.Nat.{ℕ, zero, suc, ◌≤◌, ◌<◌}
use Rattle.std.proofs.Common.{arith, sym, ◌∙◌, subst, inl, inr, le-ltb, ltb→lt, nltb→le, length-append}
use Rattle.std.specs.Prelude.{◌≡◌, Bool, cond, not, ◌||◌, T, ltb, length}
use Rattle.std.proofs.Math.Path.{refl, ap, ap₂, fun_ext}
use Rattle.std.proofs.Math.Bool.{true, false}
use mathlib.Core.List.{List, [], ◌∷◌, ◌++◌}
use Rattle.integer.specs.BigEndian.{AllBytes}
use Rattle.model.specs.Limits.{Limits}
use Rattle.model.specs.Lists.{any, any_below}
use Rattle.model.specs.Task.{Form, written, normal, Block, Task, active}
use Rattle.model.specs.Circle.{item_edge, edge, walk_to, circular}
use Rattle.model.specs.Command.{code_of, items_bytes, moves_bytes, task_bytes}
use Rattle.model.specs.Reading.{Table, Verdict, accepted, refused, only, both, stored, length_limit, reading}
use Rattle.model.specs.Calls.{writes, turns, fitted}
use Rattle.model.specs.Rewrite.{active_moves, rewritten, rewrite_of, rewrote}
use Rattle.model.specs.Theorems.Reading.WellFormed.{All, BlockOk, TaskOk}
use Rattle.model.proofs.Theorems.Laws.Booleans.{T_true}
use Rattle.model.specs.Theorems.Reading.Active.{AllActive}
use Rattle.model.proofs.Theorems.Reading.Active.{both_checks}
use Rattle.model.proofs.Theorems.Reading.Accepted.{reading_ok, reading_active, reading_length, reading_limit, reading_canonical}
use Rattle.model.specs.Theorems.Printing.Passing.{SmallLimits}
use Rattle.model.specs.Theorems.Printing.Tables.{head_of, printed_table}
use Rattle.model.proofs.Theorems.Printing.Tables.{print_read_only, print_read_both}
use Rattle.model.proofs.Theorems.NormalForm.Print.{length_task}
use Rattle.model.proofs.Theorems.Rewriting.Refusals.{stored_accepts}
use Rattle.model.proofs.Theorems.Rewriting.Solving.{idle_any, dropped_solves, back_solves, real_inert, relaxed_inert}
use Rattle.model.specs.Theorems.Rewriting.Accepted.{RewriteRight, Rewrites}

-- ---- the kept moves

-- what holds of a list with the move b before it, and without, holds of the kept ones
pub kept_by : (P : List Block → Type 0) (b : Block) (ms : List Block) → (T (active b) → P (b ∷ ms)) → (active b ≡ false → P ms) → P (cond (active b) (b ∷ ms) ms)
kept_by P b ms f g = go (active b) (λ t. t) (λ e. e)
  where
    go : (c : Bool) → (T c → T (active b)) → (c ≡ false → active b ≡ false) → P (cond c (b ∷ ms) ms)
    go true here none_here = f (here tt)
    go false here none_here = g (none_here refl)

pub kept_all : (P : Block → Type 0) (ms : List Block) → All P ms → All P (active_moves ms)
unfolding active_moves
kept_all P [] a = tt
kept_all P (b ∷ ms) a = kept_by (All P) b (active_moves ms) (λ does. (a.0, kept_all P ms a.1)) (λ idle. kept_all P ms a.1)

pub kept_active : (ms : List Block) → AllActive (active_moves ms)
unfolding active_moves
kept_active [] = tt
kept_active (b ∷ ms) = kept_by AllActive b (active_moves ms) (λ does. (does, kept_active ms)) (λ idle. kept_active ms)

pub kept_few : (ms : List Block) → length (active_moves ms) ≤ length ms
unfolding active_moves
kept_few [] = omega arith
kept_few (b ∷ ms) = kept_by (λ (l : List Block). length l ≤ suc (length ms)) b (active_moves ms) (λ does. omega (arith, kept_few ms)) (λ idle. omega (arith, kept_few ms))

-- where every move does something, all are kept
pub kept_same : (ms : List Block) → AllActive ms → active_moves ms ≡ ms
unfolding active_moves
kept_same [] a = refl
kept_same (b ∷ ms) a =
    ap (λ (c : Bool). cond c (b ∷ active_moves ms) (active_moves ms)) (T_true (active b) a.0) ∙ ap (λ (l : List Block). b ∷ l) (kept_same ms a.1)

-- a test that no move passes that does nothing
pub kept_any : (f : Block → Bool) → ((b : Block) → active b ≡ false → f b ≡ false) → (ms : List Block) → any f (active_moves ms) ≡ any f ms
unfolding active_moves any
kept_any f fails [] = refl
kept_any f fails (b ∷ ms) =
    kept_by (λ (l : List Block). any f l ≡ (f b || any f ms)) b (active_moves ms)
    (λ does. ap (λ (x : Bool). f b || x) (kept_any f fails ms))
    (λ idle. kept_any f fails ms ∙ sym (ap (λ (x : Bool). x || any f ms) (fails b idle)))

pub kept_bytes : (ms : List Block) → length (moves_bytes (active_moves ms)) ≤ length (moves_bytes ms)
unfolding active_moves moves_bytes
kept_bytes [] = omega arith
kept_bytes (b ∷ ms) =
    let whole = length-append (items_bytes b) (moves_bytes ms) in
    kept_by (λ (l : List Block). length (moves_bytes l) ≤ suc (length (items_bytes b ++ moves_bytes ms))) b (active_moves ms)
    (λ does. omega (arith, kept_bytes ms, whole, length-append (items_bytes b) (moves_bytes (active_moves ms))))
    (λ idle. omega (arith, kept_bytes ms, whole))

-- ---- edges and circles
module _ (k : Task) where
  same_edge : (u v : ℕ) → edge (rewritten k) u v ≡ edge k u v
  unfolding edge rewritten item_edge
  same_edge u v = kept_any (λ m. any (item_edge u v) m) (idle_any (item_edge u v) (λ q. refl) (λ c. refl)) k.moves

  same_walk : (n v : ℕ) → walk_to (rewritten k) n v ≡ walk_to k n v
  unfolding walk_to rewritten
  same_walk zero v = refl
  same_walk (suc n) v =
      ap (λ (f : ℕ → Bool). any_below f k.vars)
      (fun_ext (λ u. ap₂ (λ (e t : Bool). elim e [ true ↦ t | false ↦ false ]) (same_edge u v) (same_walk n u)))

  pub same_circle : circular (rewritten k) ≡ circular k
  unfolding circular rewritten
  same_circle = ap (λ (f : ℕ → Bool). any_below f k.vars) (fun_ext (λ v. same_walk k.vars v))

  pub rewritten_ok : {L : Limits} {f : Form} → TaskOk L f k → TaskOk L f (rewritten k)
  unfolding rewritten
  rewritten_ok {L} {f} ok =
      record {
        props = ok.props;
        vars = ok.vars;
        moves = omega (arith, kept_few k.moves, ok.moves);
        blocks = kept_all (BlockOk L f k.props k.vars) k.moves ok.blocks;
        goal = ok.goal;
        goal_items = ok.goal_items;
        no_circle = same_circle ∙ ok.no_circle;
      }

  pub rewritten_shorter : (f : Form) → length (task_bytes f (rewritten k)) ≤ length (task_bytes f k)
  unfolding rewritten
  rewritten_shorter f = omega (arith, kept_bytes k.moves, length_task f k, length_task f (rewritten k))

  pub rewritten_same : AllActive k.moves → rewritten k ≡ k
  unfolding rewritten
  rewritten_same does = ap (λ (ms : List Block). record { props = k.props; vars = k.vars; moves = ms; goal = k.goal }) (kept_same k.moves does)

-- ---- what is written
-- the limit on a table's length is that of its form
pub stored_limit : (L : Limits) (f : Form) (k n : Task) → length_limit L stored (task_bytes f k) ≡ length_limit L (only f) (task_bytes f n)
unfolding length_limit task_bytes code_of
stored_limit L written k n = refl
stored_limit L normal k n = refl

module _ (L : Limits) (small : SmallLimits L) (t : List ℕ) (bytes : AllBytes t) where
  -- The bytes that the rewriter writes are accepted by read, 16 included, as the rewritten task; and by every call that wants
  -- this head.
  module _ {k : Table} (e : reading L stored t ≡ accepted k) where
    abbrev form : Form
    form = k.header.form

    abbrev new : Task
    new = rewritten k.task

    new_short : length (task_bytes form new) ≤ length_limit L (only form) (task_bytes form new)
    new_short =
        let old : length t ≤ length_limit L (only form) (task_bytes form new) =
        subst (λ (n : ℕ). length t ≤ n)
        (ap (length_limit L stored) (reading_canonical L stored t e bytes) ∙ stored_limit L form k.task new)
        (reading_limit L stored t e) in
        omega (arith, rewritten_shorter k.task form, reading_length L stored t e)

    does : AllActive new.moves
    unfolding rewritten
    does = kept_active k.task.moves

    pub rewrite_read : reading L both (task_bytes form new) ≡ accepted (printed_table form new)
    rewrite_read = print_read_both form new small (rewritten_ok k.task (reading_ok L stored t e)) does new_short

    pub rewrite_read_only : reading L (only form) (task_bytes form new) ≡ accepted (printed_table form new)
    rewrite_read_only = print_read_only form new small (rewritten_ok k.task (reading_ok L stored t e)) does new_short

  -- A table that read takes is taken by the rewriter, and comes out as it is.
  module _ {k : Table} (e : reading L both t ≡ accepted k) where
    pub rewrite_same : (size : ℕ) → length t ≤ size → rewrote L t size ≡ writes t
    unfolding rewrote rewrite_of printed_table head_of fitted
    rewrite_same size fits =
        ap (λ (v : Verdict). fitted size (rewrite_of v)) (stored_accepts L t e)
        ∙ ap (λ (n : Task). fitted size (writes (task_bytes k.header.form n))) (rewritten_same k.task (reading_active L both t e both_checks))
        ∙ ap (λ (l : List ℕ). fitted size (writes l)) (sym (reading_canonical L both t e bytes))
        ∙ ap (λ (c : Bool). elim c [ true ↦ turns (record { number = 13; place = 0 }) | false ↦ writes t ]) (le-ltb size (length t) fits)

rewrites : (L : Limits) → SmallLimits L → (t : List ℕ) → AllBytes t → {k : Table} → reading L stored t ≡ accepted k → Rewrites L t (task_bytes k.header.form (rewritten k.task))
unfolding printed_table
rewrites L small t bytes {k} e =
    record {
      old = k;
      new = printed_table k.header.form (rewritten k.task);
      read_old = e;
      read_new = rewrite_read L small t bytes e;
      task = refl;
      real_forth = λ s bs. dropped_solves real_inert k.task bs s;
      real_back = λ s bs. back_solves real_inert k.task bs s;
      relaxed_forth = λ s bs. dropped_solves relaxed_inert k.task bs s;
      relaxed_back = λ s bs. back_solves relaxed_inert k.task bs s;
    }

pub rewrite_right : (L : Limits) → SmallLimits L → (t : List ℕ) → AllBytes t → (size : ℕ) → RewriteRight L t size (rewrote L t size)
unfolding rewrote rewrite_of fitted
rewrite_right L small t bytes size = go (reading L stored t) refl
  where
    sized : (o : List ℕ) → Rewrites L t o → (c : Bool) → (T c → size < length o) → (T (not c) → length o ≤ size) → RewriteRight L t size (elim c [ true ↦ turns (record { number = 13; place = 0 }) | false ↦ writes o ])
    sized o r true short fits = inr (record { result = o; rewrites = r; short = short tt; is13 = refl })
    sized o r false short fits = (r, fits tt)

    go : (v : Verdict) → reading L stored t ≡ v → RewriteRight L t size (fitted size (rewrite_of v))
    go (accepted k) e =
        let o = task_bytes k.header.form (rewritten k.task) in
        sized o (rewrites L small t bytes e) (ltb size (length o)) (ltb→lt size (length o)) (nltb→le size (length o))
    go (refused r) e = inl e
