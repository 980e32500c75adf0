-- A table read twice, without the check for 16 and with it: as long as every move that closes does something both readings come as far,
-- and where the first that does not closes the second one refuses with 16. Assumes nothing.
use Rattle.std.specs.Prelude.{ℕ, suc, ◌+◌, ◌≤◌, ◌<◌, ◌≡◌, Bool, ◌&&◌, ◌||◌, List, [], ◌∷◌, ◌++◌, ◌⊎◌, ltb, get_or}
use Rattle.std.proofs.Common.{arith, ◌∙◌, subst, T_not, length-append}
use Rattle.std.proofs.Math.Path.{refl, sym, ap}
use Rattle.std.proofs.Math.Bool.{true, false, not}
use Rattle.std.proofs.Math.Logic.{inl, inr}
use Rattle.std.proofs.Math.Dec.{T, ltb→lt}
use Rattle.std.proofs.Math.ListN.{length, get_or-append}
use Rattle.std.proofs.Math.Seq.{get_or-append_seam}
use Rattle.model.specs.Limits.{Limits}
use Rattle.model.specs.Task.{Form, Block, active}
use Rattle.model.specs.Circle.{circular}
use Rattle.model.specs.Command.{Command, head, open_move, open_goal, end_table, need_prop, add_prop, delete_prop, term, close_condition, close_effect, unknown, command_of, width, Place, start, preamble, in_move, in_goal, finished, in_place}
use Rattle.model.specs.Seen.{Seen, nothing_seen, closed, item_at, with_head, with_mark, with_term, with_item, advance}
use Rattle.model.specs.Reading.{Table, accepted, refused, Wanted, stored, head_wanted, leaves_open, wrong3, wrong2, wrong6, checks16, idle, wrong16, table_of, verdict_of, at_end, length_limit, reading}
use Rattle.model.specs.Theorems.Reading.WellFormed.{All}
use Rattle.model.proofs.Theorems.Laws.Booleans.{T_true, not-false, false_not, T-cases, and_right}
use Rattle.model.proofs.Theorems.Laws.Searching.{All-at}
use Rattle.model.specs.Theorems.Reading.Active.{AllActive, Lively}
use Rattle.model.proofs.Theorems.Reading.Active.{lively_active}
use Rattle.model.specs.Theorems.Reading.Commands.{Passes}
use Rattle.model.proofs.Theorems.Reading.Commands.{refusal_16, read_command_refused, read_command_end, read_command_passes, unknown_refused, command_of_code, width_positive}
use Rattle.model.proofs.Theorems.Reading.Checks.{in_place_lem, head_wanted_lem}
use Rattle.model.proofs.Theorems.Reading.Reads.{verdict_from, verdict_more, verdict_done, reading_short, reading_induction}
use Rattle.model.specs.Theorems.Reading.Marks.{Marked}
use Rattle.model.proofs.Theorems.Reading.Marks.{starts_length}
use Rattle.model.specs.Theorems.Reading.Accepted.{Kept}
use Rattle.model.proofs.Theorems.Reading.Accepted.{kept_start, kept_step, lively_step}

-- ---- the first move that does nothing

pub record FirstIdle (ms : List Block) (b : ℕ) : Type 0 where
  pub within : b < length ms
  pub idle : active (get_or ms b []) ≡ false
  pub before : (i : ℕ) → i < b → T (active (get_or ms i []))

-- there is one at most
pub first_one : {ms : List Block} {b c : ℕ} → FirstIdle ms b → FirstIdle ms c → b ≡ c
first_one {ms} {b} {c} x y =
    let no_less : b < c → ⊥ = λ h. false_not x.idle (y.before b h) in
    let no_more : c < b → ⊥ = λ h. false_not y.idle (x.before c h) in
    omega arith

-- moves behind it do not count
first_longer : (ms xs : List Block) {b : ℕ} → FirstIdle ms b → FirstIdle (ms ++ xs) b
first_longer ms xs {b} x =
    record {
      within = omega (arith, x.within, length-append ms xs);
      idle = ap active (get_or-append ms xs [] b x.within) ∙ x.idle;
      before = λ i h. subst (λ (m : Block). T (active m)) (sym (get_or-append ms xs [] i (omega (arith, x.within)))) (x.before i h);
    }

-- the last one is it, if those before do something
first_last : (ms : List Block) (b : Block) → AllActive ms → active b ≡ false → FirstIdle (ms ++ (b ∷ [])) (length ms)
first_last ms b does idle =
    record {
      within = omega (arith, length-append ms (b ∷ []));
      idle = ap active (get_or-append_seam ms b [] []) ∙ idle;
      before = λ i h. subst (λ (m : Block). T (active m)) (sym (get_or-append ms (b ∷ []) [] i h)) (All-at (λ m. T (active m)) ms i [] does h);
    }

closed_first : (p : Place) (ms : List Block) (b : Block) (i : ℕ) → FirstIdle ms i → FirstIdle (closed p ms b) i
unfolding closed
closed_first start ms b i x = x
closed_first preamble ms b i x = x
closed_first in_move ms b i x = first_longer ms (b ∷ []) x
closed_first in_goal ms b i x = x
closed_first finished ms b i x = x

-- ---- the reading that makes all checks beside the one that leaves out 16
-- behind the head
abbrev Begun : Place → Type 0
Begun start = ⊥
Begun preamble = Unit {0}
Begun in_move = Unit {0}
Begun in_goal = Unit {0}
Begun finished = Unit {0}

module _ (L : Limits) (w : Wanted) (t : List ℕ) (checks : T (checks16 w)) (short : length t ≤ length_limit L w t) where
  -- is the head that has been read wanted
  abbrev Taken : Place → Form → Type 0
  Taken start f = Unit {0}
  Taken preamble f = T (head_wanted w (head f))
  Taken in_move f = T (head_wanted w (head f))
  Taken in_goal f = T (head_wanted w (head f))
  Taken finished f = T (head_wanted w (head f))

  taken : (p : Place) (f : Form) → T (head_wanted w (head f)) → Taken p f
  taken start f h = tt
  taken preamble f h = h
  taken in_move f h = h
  taken in_goal f h = h
  taken finished f h = h

  -- it has come as far, and all moves so far do something
  record Going (s : Seen) : Type 0 where
    same : reading L w t ≡ verdict_from L w t s
    lively : All (Lively w) s.moves

  -- it has refused where the first move that does nothing closes
  record Stopped (p : Place) (ms : List Block) (marks : List ℕ) : Type 0 where
    begun : Begun p
    move : ℕ
    first : FirstIdle ms move
    marked : suc move < length marks
    refuses : reading L w t ≡ refused (record { number = 16; place = get_or marks (suc move) 0 })

  abbrev Follows : Seen → Type 0
  Follows s = Going s ⊎ Stopped s.place s.moves s.marks

  module _ {s : Seen} {c : Command} (h : Passes L stored t s c) (wanted : T (head_wanted w c)) where
    same3 : wrong3 w s c ≡ wrong3 stored s c
    unfolding wrong3
    same3 =
        ap (λ (x : Bool). not (in_place s.place c) || not x || leaves_open s c)
        (T_true (head_wanted w c) wanted ∙ sym (T_true (head_wanted stored c) (head_wanted_lem h)))

    -- a command that passes 16 too is read
    onward : (T (wrong16 w s c) → ⊥) → Going s → Going (advance t s c)
    onward passes g = record { same = g.same ∙ verdict_more L w t s (read_command_passes L w t s all); lively = lively_step c all g.lively }
      where
        all : Passes L w t s c
        all =
            record {
              code = h.code;
              placed = subst (λ (x : Bool). T (not x)) (sym same3) h.placed;
              uncut = h.uncut;
              counted = h.counted;
              lively = rw (not-false (wrong16 w s c) passes) tt;
              ranged = h.ranged;
              fresh = h.fresh;
            }

    -- one that does not is refused there
    stopped : T (wrong16 w s c) → Going s → reading L w t ≡ refused (record { number = 16; place = s.at })
    unfolding wrong2
    stopped fails g =
        g.same
        ∙ verdict_done L w t s
        (read_command_refused L w t s c (record { number = 16; place = s.at }) (omega (arith, h.uncut, width_positive c))
        (ap command_of h.code ∙ command_of_code c (λ e. unknown_refused (subst (Passes L stored t s) e h)))
        (refusal_16 L w t s c
        (same3 ∙ not-false (wrong3 stored s c) (T_not (wrong3 stored s c) h.placed))
        (not-false (ltb (length t) (s.at + width c)) (λ b. omega (arith, ltb→lt (length t) (s.at + width c) b, h.uncut)))
        (not-false (wrong6 s c) (T_not (wrong6 s c) h.counted))
        (T_true (wrong16 w s c) fails)))

  -- ---- 41 and 47 close a move

  -- where 16 fails, the move that closes is the first that does nothing, and the mark of the command that closes it is the next
  closes_first :
      (p : Place) (ms : List Block) (b : Block) (marks : List ℕ)
      → T (checks16 w && idle p b)
      → All (Lively w) ms
      → Marked p ms b marks
      → FirstIdle (closed p ms b) (length ms) × (length marks ≡ suc (length ms))
  unfolding closed idle
  closes_first start ms b marks fails lively m = absurd (and_right (checks16 w) false fails)
  closes_first preamble ms b marks fails lively m = absurd (and_right (checks16 w) false fails)
  closes_first in_move ms b marks fails lively m = (
    first_last ms b (lively_active w ms checks lively) (not-false (active b) (T_not (active b) (and_right (checks16 w) (not (active b)) fails))),
    ap length m ∙ starts_length 4 ms,
  )
  closes_first in_goal ms b marks fails lively m = absurd (and_right (checks16 w) false fails)
  closes_first finished ms b marks fails lively m = absurd (and_right (checks16 w) false fails)

  module _ (s : Seen) (q : Place) (begun : Begun q) where
    abbrev ms : List Block
    ms = closed s.place s.moves s.items

    -- one mark more
    stays_stopped : (ns : List Block) → ((i : ℕ) → FirstIdle s.moves i → FirstIdle ns i) → Stopped s.place s.moves s.marks → Stopped q ns (s.marks ++ (s.at ∷ []))
    stays_stopped ns longer x =
        record {
          begun = begun;
          move = x.move;
          first = longer x.move x.first;
          marked = omega (arith, x.marked, length-append s.marks (s.at ∷ []));
          refuses =
              x.refuses
              ∙ ap (λ (n : ℕ). refused (record { number = 16; place = n })) (sym (get_or-append s.marks (s.at ∷ []) 0 (suc x.move) x.marked));
        }

    stops : Marked s.place s.moves s.items s.marks → T (checks16 w && idle s.place s.items) → All (Lively w) s.moves → reading L w t ≡ refused (record { number = 16; place = s.at }) → Stopped q ms (s.marks ++ (s.at ∷ []))
    stops m fails lively is16 =
        let here = closes_first s.place s.moves s.items s.marks fails lively m in
        record {
          begun = begun;
          move = length s.moves;
          first = here.0;
          marked = omega (arith, here.1, length-append s.marks (s.at ∷ []));
          refuses =
              is16
              ∙ ap (λ (n : ℕ). refused (record { number = 16; place = n }))
              (sym (ap (λ (i : ℕ). get_or (s.marks ++ (s.at ∷ [])) i 0) (sym here.1) ∙ get_or-append_seam s.marks s.at [] 0));
        }

    opens :
        {c : Command} (h : Passes L stored t s c) (wanted : T (head_wanted w c))
        → wrong16 w s c ≡ (checks16 w && idle s.place s.items)
        → advance t s c ≡ with_mark s q ms []
        → Marked s.place s.moves s.items s.marks
        → Follows s
        → Follows (with_mark s q ms [])
    unfolding with_mark
    opens {c} h wanted is to m (inl g) =
        T-cases (wrong16 w s c)
        (λ fails. inr (stops m (subst T is fails) g.lively (stopped h wanted fails g)))
        (λ passes. inl (subst Going to (onward h wanted passes g)))
    opens h wanted is to m (inr x) = inr (stays_stopped ms (closed_first s.place s.moves s.items) x)

  -- ---- every command

  -- what has been seen by the reading that leaves out 16, and what the other has made of it
  record Beside (s : Seen) : Type 0 where
    kept : Kept L stored t s
    follows : Taken s.place s.header.form → Follows s

  -- a command that closes no move
  passes_by :
      {s d : Seen} {c : Command}
      → Passes L stored t s c
      → T (head_wanted w c)
      → wrong16 w s c ≡ false
      → advance t s c ≡ d
      → (Stopped s.place s.moves s.marks → Stopped d.place d.moves d.marks)
      → Follows s
      → Follows d
  passes_by {s} {c} h wanted none to stay (inl g) = inl (subst Going to (onward h wanted (false_not none) g))
  passes_by h wanted none to stay (inr x) = inr (stay x)

  follows_step : (s : Seen) (c : Command) → Beside s → Passes L stored t s c → Taken (advance t s c).place (advance t s c).header.form → Follows (advance t s c)
  unfolding advance with_head with_mark with_term with_item item_at wrong16 head_wanted in_place
  follows_step s (head f) k h head-taken = go s.place (in_place_lem h) refl
    where
      go : (p : Place) → T (in_place p (head f)) → s.place ≡ p → Follows (with_head t s f)
      go start here e =
          passes_by {c = head f} h head-taken refl refl
          (λ x. absurd (subst Begun e x.begun))
          (k.follows (subst (λ (p : Place). Taken p s.header.form) (sym e) tt))
      go preamble here e = absurd here
      go in_move here e = absurd here
      go in_goal here e = absurd here
      go finished here e = absurd here
  follows_step s open_move k h head-taken = opens s in_move tt h tt refl refl k.kept.marked (k.follows (taken s.place s.header.form head-taken))
  follows_step s open_goal k h head-taken = opens s in_goal tt h tt refl refl k.kept.marked (k.follows (taken s.place s.header.form head-taken))
  follows_step s end_table k h head-taken =
      passes_by {c = end_table} h tt refl refl (stays_stopped s finished tt s.moves (λ i x. x)) (k.follows (taken s.place s.header.form head-taken))
  follows_step s need_prop k h head-taken = passes_by {c = need_prop} h tt refl refl (λ x. x) (k.follows head-taken)
  follows_step s add_prop k h head-taken = passes_by {c = add_prop} h tt refl refl (λ x. x) (k.follows head-taken)
  follows_step s delete_prop k h head-taken = passes_by {c = delete_prop} h tt refl refl (λ x. x) (k.follows head-taken)
  follows_step s term k h head-taken = passes_by {c = term} h tt refl refl (λ x. x) (k.follows head-taken)
  follows_step s close_condition k h head-taken = passes_by {c = close_condition} h tt refl refl (λ x. x) (k.follows head-taken)
  follows_step s close_effect k h head-taken = passes_by {c = close_effect} h tt refl refl (λ x. x) (k.follows head-taken)
  follows_step s unknown k h head-taken = absurd (unknown_refused h)

  -- ---- the whole table

  -- the table is accepted as before, or refused where its first move that does nothing closes
  abbrev pub Outcome : Table → Type 0
  Outcome k =
      (AllActive k.task.moves × (reading L w t ≡ accepted k))
      ⊎ ((b : ℕ) × FirstIdle k.task.moves b × (reading L w t ≡ refused (record { number = 16; place = get_or k.marks (suc b) 0 })))

  outcome_end : (s : Seen) → Beside s → length t ≤ s.at → s.place ≡ finished → circular (table_of s).task ≡ false → T (head_wanted w (head (table_of s).header.form)) → Outcome (table_of s)
  unfolding table_of at_end verdict_of
  outcome_end s k end at_end_lem no_circle_lem wanted = go (k.follows (taken s.place s.header.form wanted))
    where
      ends : verdict_from L w t s ≡ accepted (table_of s)
      ends =
          verdict_done L w t s (read_command_end L w t s end)
          ∙ ap (at_end t s) at_end_lem
          ∙ ap (λ (b : Bool). elim b [ true ↦ refused (record { number = 7; place = 0 }) | false ↦ accepted (table_of s) ]) no_circle_lem

      go : Follows s → Outcome (table_of s)
      go (inl g) = inl (lively_active w s.moves checks g.lively, g.same ∙ ends)
      go (inr x) = inr (x.move, x.first, x.refuses)

  pub outcome : {k : Table} → reading L stored t ≡ accepted k → T (head_wanted w (head k.header.form)) → Outcome k
  unfolding nothing_seen
  outcome e =
      reading_induction L stored t Beside (λ k. T (head_wanted w (head k.header.form)) → Outcome k)
      (λ s c b h. record { kept = kept_step L stored t s c b.kept h; follows = follows_step s c b h })
      (λ s b end at_end_lem no_circle_lem limit. outcome_end s b end at_end_lem no_circle_lem)
      (record { kept = kept_start L stored t; follows = λ h. inl (record { same = reading_short L w t short; lively = tt }) })
      e
