-- The whole table: what the cursor and the arrays say at the start, behind each command and at the end, and the answer there.
-- Assumes nothing.
use Prim.Native.Nat.{ℕ, zero, suc, ◌+◌, ◌-◌, ◌≤◌, ◌<◌}
use native.Mathlib.Omega.{arith}
use Rattle.std.specs.Prelude.{◌≡◌, Bool, true, replicate, Result, Ok, Err}
use Rattle.std.proofs.Math.Path.{refl, sym, ap, subst}
use Rattle.std.proofs.Common.{◌∙◌, lt-ltb, le-ltb, eq-eqb, ne_eqb}
use Rattle.std.proofs.Math.Bool.{false}
use mathlib.Core.List.{List, [], ◌∷◌}
use Rattle.std.proofs.Math.Option.{Option, none, some}
use Rattle.std.proofs.Math.Dec.{leb-zero}
use Rattle.std.proofs.Math.ListN.{length, get_or}
use Rattle.std.proofs.lemmas.List.{length-replicate}
use Rattle.model.specs.declared.Refusal.{Refusal}
use Rattle.model.specs.declared.Head.{Head as ReadHead}
use Rattle.model.specs.Limits.{paper}
use Rattle.model.specs.Lists.{all, any, any_below}
use Rattle.model.specs.Task.{written, kept, Item, Block}
use Rattle.model.specs.Circle.{item_edge, edge, circular}
use Rattle.model.specs.Command.{Command, head, code_of, command_of, Place, start, preamble, in_move, in_goal, finished}
use Rattle.model.specs.Seen.{Head, Seen, nothing_seen, closed, advance}
use Rattle.model.specs.Reading.{Table, Verdict, accepted, refused, Wanted, opened, refusal, table_of, verdict_of, at_end, Step, more, done, step_with, read_command, continue, read_from, length_limit, reading}
use Rattle.model.specs.Calls.{read_of}
use Rattle.cursor.specs.declared.Cursor.{Cursor}
use Rattle.command.specs.declared.Place as code
use Rattle.command.specs.declared.Place.TheVariants.{Start, Preamble, InMove, InGoal, Finished}
use Rattle.command.specs.Names.{form_of, place_of}
use Rattle.cursor.specs.State.{start_cursor, Stage, Valid, cursor_refusal, check_of}
use Rattle.cursor.proofs.State.{passes_none}
use Rattle.advance.specs.Stamps.{needs, changes, affects, Stamped}
use Rattle.advance.specs.Edges.{drawn_none}
use Rattle.circle.specs.Walks.{table_edge, circular_in, circular_same}
use Rattle.advance.specs.Marks.{marks_none}
use Rattle.advance.specs.Tracks.{head_of, Tracks, tracks_refusal}
use Rattle.advance.specs.Steps.{Advanced}

-- ---- the start

stamped_start : (names : ℕ → Item → Bool) (n : ℕ) → Stamped names n 1 [] (replicate n 0)
unfolding any
stamped_start names n =
    record {
      size = length-replicate n 0;
      same = λ p. ne_eqb (get_or (replicate n 0) p 0) 1 (λ e. omega (arith, zeros n p));
      old = λ p. omega (arith, zeros n p);
    }
  where
    zeros : (m p : ℕ) → get_or (replicate {A = ℕ} m 0) p 0 ≡ 0
    zeros zero p = refl
    zeros (suc m) zero = refl
    zeros (suc m) (suc p) = zeros m p

pub start_valid : (t : List ℕ) → Valid t start_cursor
unfolding start_cursor
start_valid t =
    record {
      inside = omega arith;
      props = omega arith;
      vars = omega arith;
      moves = omega arith;
      stage = (refl, omega arith);
      few = omega arith;
      behind = omega arith;
      sources = λ i l. absurd (omega arith);
      numbered = omega arith;
      blocks = omega arith;
    }

start_outside : start ≡ in_move → ⊥
start_outside e = let z : ◌≡◌ {A = ℕ} 0 1 = cc in omega arith

start_tracks : (t mk : List ℕ) → length mk ≡ 66 → Tracks t start_cursor (replicate 120 0) (replicate 120 0) (replicate 32 0) (replicate 1024 false) mk nothing_seen
unfolding start_cursor nothing_seen head_of form_of place_of opened closed all any any_below kept
start_tracks t mk e =
    record {
      at = refl;
      place = refl;
      header = refl;
      opens = refl;
      closes = refl;
      terms = refl;
      rising = λ x. sym (leb-zero x);
      sources = λ u. refl;
      active = λ x. absurd (start_outside x);
      needed = stamped_start needs 120;
      changed = stamped_start changes 120;
      affected = stamped_start affects 32;
      edges = drawn_none;
      marked = refl;
      marks = marks_none 0 mk e;
      begins = λ x. refl;
    }

-- ---- what the loop keeps

pub record Reach (w : Wanted) (t : List ℕ) (c : Cursor) (nd ch af : List ℕ) (es : List Bool) (mk : List ℕ) : Type 0 where
  pub seen : Seen
  pub left : ℕ
  pub same : reading paper w t ≡ read_from paper w t left seen
  pub enough : length t < left + c.at
  pub valid : Valid t c
  pub tracks : Tracks t c nd ch af es mk seen

reach_start : (w : Wanted) (t mk : List ℕ) → length t ≤ length_limit paper w t → length mk ≡ 66 → Reach w t start_cursor (replicate 120 0) (replicate 120 0) (replicate 32 0) (replicate 1024 false) mk
unfolding reading
reach_start w t mk h e =
    record {
      seen = nothing_seen;
      left = suc (length t);
      same = rw (le-ltb (length_limit paper w t) (length t) h, reading) refl;
      enough = unfold start_cursor in omega arith;
      valid = start_valid t;
      tracks = start_tracks t mk e;
    }

-- ---- the answer

-- what outline answers, and the marks it leaves
pub record Outlined (t : List ℕ) (v : Verdict) (r : Result ReadHead Refusal) (m : List ℕ) : Type 0 where
  pub answer : r ≡ read_of v
  pub marks : (k : Table) → v ≡ accepted k → (b : ℕ) → b ≤ k.header.moves + 1 → get_or m b 0 ≡ get_or k.marks b 0
  pub few : (k : Table) → v ≡ accepted k → k.header.moves ≤ 64
  pub rising : (k : Table) → v ≡ accepted k → (b : ℕ) → b ≤ k.header.moves → get_or m b 0 < get_or m (suc b) 0
  pub inside : (k : Table) → v ≡ accepted k → (b : ℕ) → b ≤ k.header.moves + 1 → get_or m b 0 < length t

not_accepted : {X : Type 0} (r : Refusal) (k : Table) → refused r ≡ accepted k → X
not_accepted r k e = let z : ◌≡◌ {A = ℕ} 0 1 = cc in absurd (omega arith)

outlined_refused : (t : List ℕ) (v : Verdict) (r : Refusal) (m : List ℕ) → v ≡ refused r → Outlined t v (Err r) m
outlined_refused t v r m e =
    rw e
    (record {
      answer = unfold read_of in refl;
      marks = λ k f. not_accepted r k f;
      few = λ k f. not_accepted r k f;
      rising = λ k f. not_accepted r k f;
      inside = λ k f. not_accepted r k f;
    })

pub outlined_long : (w : Wanted) (t : List ℕ) (r : Refusal) (m : List ℕ) → length_limit paper w t < length t → r ≡ record { number = 1; place = 0 } → Outlined t (reading paper w t) (Err r) m
unfolding reading
outlined_long w t r m h e =
    outlined_refused t (reading paper w t) r m (rw (e, lt-ltb (length_limit paper w t) (length t) h, reading) refl)

-- ---- one command

module _ (w : Wanted) (t : List ℕ) (s : Seen) where
  command_step : s.at < length t → read_command paper w t s ≡ step_with t s (command_of (get_or t s.at 0)) (refusal paper w t s (command_of (get_or t s.at 0)))
  unfolding read_command
  command_step h = rw (lt-ltb s.at (length t) h, read_command) refl

  end_step : length t ≤ s.at → read_command paper w t s ≡ done (at_end t s s.place)
  unfolding read_command
  end_step h = rw (le-ltb s.at (length t) h, read_command) refl

  unroll : (n : ℕ) (x : Step) → 0 < n → read_command paper w t s ≡ x → read_from paper w t n s ≡ continue (λ d. read_from paper w t (n - 1) d) x
  unfolding read_from
  unroll zero x h e = absurd (omega arith)
  unroll (suc n) x h e = let m : n ≡ suc n - 1 = omega arith in rw e (ap (λ (i : ℕ). continue (λ d. read_from paper w t i d) x) m)

refused_some : (x : Option Refusal) (r : Refusal) → Err r ≡ check_of x → x ≡ some r
unfolding check_of
refused_some none r e = let z : ◌≡◌ {A = ℕ} 0 1 = cc in absurd (omega arith)
refused_some (some q) r e = let z : q ≡ r = cc in ap some z

module _ {w : Wanted} {t : List ℕ} {c : Cursor} {nd ch af : List ℕ} {es : List Bool} {mk : List ℕ} (h : Reach w t c nd ch af es mk) where
  turns : 0 < h.left
  turns = omega (arith, h.enough, h.valid.inside)

  -- a command that passes
  pub reach_next :
      (k : Command) {c' : Cursor} {nd' ch' af' : List ℕ} {es' : List Bool} {mk' : List ℕ}
      → c.at < length t
      → k ≡ command_of (get_or t c.at 0)
      → Ok tt ≡ check_of (cursor_refusal w t c nd ch af k)
      → Advanced t c k nd ch af es mk c' nd' ch' af' es' mk'
      → Reach w t c' nd' ch' af' es' mk'
  unfolding step_with continue
  reach_next k inside e pass a =
      record {
        seen = advance t s k;
        left = h.left - 1;
        same = h.same ∙ unroll w t s h.left (more (advance t s k)) turns (command_step w t s (omega (arith, h.tracks.at)) ∙ rw (← command, silent) refl);
        enough = omega (arith, h.enough, a.moved);
        valid = a.valid;
        tracks = a.tracks s h.tracks;
      }
    where
      s : Seen
      s = h.seen

      command : k ≡ command_of (get_or t s.at 0)
      command = e ∙ ap (λ (x : ℕ). command_of (get_or t x 0)) h.tracks.at

      silent : refusal paper w t s k ≡ none
      silent = sym (tracks_refusal h.tracks w k) ∙ passes_none (cursor_refusal w t c nd ch af k) pass

  -- a command that is refused
  pub reach_refused :
      (k : Command) (r : Refusal)
      → c.at < length t
      → k ≡ command_of (get_or t c.at 0)
      → Err r ≡ check_of (cursor_refusal w t c nd ch af k)
      → Outlined t (reading paper w t) (Err r) mk
  unfolding step_with continue
  reach_refused k r inside e refuse =
      outlined_refused t (reading paper w t) r mk
      (h.same ∙ unroll w t s h.left (done (refused r)) turns (command_step w t s (omega (arith, h.tracks.at)) ∙ rw (← command, loud) refl))
    where
      s : Seen
      s = h.seen

      command : k ≡ command_of (get_or t s.at 0)
      command = e ∙ ap (λ (x : ℕ). command_of (get_or t x 0)) h.tracks.at

      loud : refusal paper w t s k ≡ some r
      loud = sym (tracks_refusal h.tracks w k) ∙ refused_some (cursor_refusal w t c nd ch af k) r refuse

  ended : length t ≤ c.at → reading paper w t ≡ at_end t h.seen h.seen.place
  unfolding continue
  ended past = h.same ∙ unroll w t h.seen h.left (done (at_end t h.seen h.seen.place)) turns (end_step w t h.seen (omega (arith, h.tracks.at)))

-- ---- the end

unfoldable pub accepted_answer : Bool → Cursor → Result ReadHead Refusal
accepted_answer true c = Err (record { number = 7; place = 0 })
accepted_answer false c = Ok (record { kind = code_of (head (form_of c.form)); props = c.props; vars = c.vars; moves = c.moves })

unfoldable pub end_answer : ℕ → code.Place → Cursor → List Bool → Result ReadHead Refusal
end_answer n Start c es = Err (record { number = 2; place = n })
end_answer n Preamble c es = Err (record { number = 2; place = n })
end_answer n InMove c es = Err (record { number = 2; place = n })
end_answer n InGoal c es = Err (record { number = 2; place = n })
end_answer n Finished c es = accepted_answer (circular_in es c.vars) c

module _ {t : List ℕ} {c : Cursor} {nd ch af : List ℕ} {es : List Bool} {mk : List ℕ} {s : Seen} (v : Valid t c) (h : Tracks t c nd ch af es mk s) (over : s.place ≡ finished) (stage : Stage Finished c.opened c.moves c.marked) where
  header_is : (b : Bool) → b ≡ false → accepted_answer b c ≡ read_of (accepted (table_of s))
  unfolding accepted_answer read_of table_of head_of
  header_is b e = rw e (ap (λ (x : Head). Ok (record { kind = code_of (head x.form); props = x.props; vars = x.vars; moves = x.moves })) h.header)

  vars_are : c.vars ≡ s.header.vars
  unfolding head_of
  vars_are = ap (λ (x : Head). x.vars) h.header

  moves_are : c.moves ≡ s.header.moves
  unfolding head_of
  moves_are = ap (λ (x : Head). x.moves) h.header

  circle_is : circular_in es c.vars ≡ circular (table_of s).task
  unfolding table_of
  circle_is = rw vars_are (circular_same (record { props = s.header.props; vars = s.header.vars; moves = s.moves; goal = s.items }) es same)
    where
      closing : closed s.place s.moves s.items ≡ s.moves
      closing = rw over (unfold closed in refl)

      same : (u w : ℕ) → u < s.header.vars → w < s.header.vars → table_edge es u w ≡ edge (record { props = s.header.props; vars = s.header.vars; moves = s.moves; goal = s.items }) u w
      same u w a b =
          h.edges.same u w (omega (arith, v.vars, vars_are)) (omega (arith, v.vars, vars_are))
          ∙ (unfold edge in ap (λ (ms : List Block). any (λ (m : Block). any (item_edge u w) m) ms) closing)

  size : length s.marks ≡ s.header.moves + 2
  size = omega (arith, h.marked, moves_are, stage.0, stage.1)

  accepts : (k : Table) → accepted (table_of s) ≡ accepted k → table_of s ≡ k
  accepts k e = cc

  outlined_accepted : Outlined t (accepted (table_of s)) (accepted_answer false c) mk
  outlined_accepted =
      record {
        answer = header_is false refl;
        marks = λ k e. subst (λ (x : Table). (b : ℕ) → b ≤ x.header.moves + 1 → get_or mk b 0 ≡ get_or x.marks b 0) (accepts k e) (unfold table_of in (λ b l. h.marks.same b (omega (arith, size))));
        few = λ k e. subst (λ (x : Table). x.header.moves ≤ 64) (accepts k e) (unfold table_of in omega (arith, moves_are, v.moves));
        rising = λ k e. subst (λ (x : Table). (b : ℕ) → b ≤ x.header.moves → get_or mk b 0 < get_or mk (suc b) 0) (accepts k e)
            (unfold table_of in (λ b l. rw (h.marks.same b (omega (arith, size)), h.marks.same (suc b) (omega (arith, size))) (h.marks.rising b (omega (arith, size)))));
        inside = λ k e. subst (λ (x : Table). (b : ℕ) → b ≤ x.header.moves + 1 → get_or mk b 0 < length t) (accepts k e)
            (unfold table_of in (λ b l. rw (h.marks.same b (omega (arith, size))) (omega (arith, h.marks.before b (omega (arith, size)), v.inside))));
      }

  verdict : (b : Bool) → circular (table_of s).task ≡ b → Outlined t (verdict_of (table_of s)) (accepted_answer b c) mk
  verdict true e = unfold verdict_of accepted_answer in (rw (e, verdict_of) (outlined_refused t (refused (record { number = 7; place = 0 })) (record { number = 7; place = 0 }) mk refl))
  verdict false e = unfold verdict_of in (rw (e, verdict_of) outlined_accepted)

  outlined_end : Outlined t (verdict_of (table_of s)) (accepted_answer (circular_in es c.vars) c) mk
  outlined_end = verdict (circular_in es c.vars) (sym circle_is)

reach_end :
    {w : Wanted} {t : List ℕ} {c : Cursor} {nd ch af : List ℕ} {es : List Bool} {mk : List ℕ} (h : Reach w t c nd ch af es mk)
    → length t ≤ c.at
    → Outlined t (reading paper w t) (end_answer (length t) c.place c es) mk
unfolding end_answer
reach_end {w} {t} {c} {nd} {ch} {af} {es} {mk} h past = go c.place h.tracks.place h.valid.stage
  where
    early : (p : Place) → at_end t h.seen p ≡ refused (record { number = 2; place = length t }) → p ≡ h.seen.place → Outlined t (reading paper w t) (Err (record { number = 2; place = length t })) mk
    early p e f = outlined_refused t (reading paper w t) (record { number = 2; place = length t }) mk (ended h past ∙ ap (at_end t h.seen) (sym f) ∙ e)

    go : (p : code.Place) → place_of p ≡ h.seen.place → Stage p c.opened c.moves c.marked → Outlined t (reading paper w t) (end_answer (length t) p c es) mk
    go Start e g = early start (unfold at_end in refl) (unfold place_of in e)
    go Preamble e g = early preamble (unfold at_end in refl) (unfold place_of in e)
    go InMove e g = early in_move (unfold at_end in refl) (unfold place_of in e)
    go InGoal e g = early in_goal (unfold at_end in refl) (unfold place_of in e)
    go Finished e g =
        let over : h.seen.place ≡ finished = sym (unfold place_of in e) in
        let end : reading paper w t ≡ verdict_of (table_of h.seen) = ended h past ∙ ap (at_end t h.seen) over ∙ (unfold at_end in refl) in
        rw end (outlined_end h.valid h.tracks over g)

-- ---- the limit, by the first byte

pub limit_empty : (t : List ℕ) → length t ≡ 0 → paper.normal_length ≡ length_limit paper Wanted.both t
unfolding length_limit code_of
limit_empty [] e = refl
limit_empty (x ∷ t) e = absurd (omega arith)

pub limit_written : (t : List ℕ) → get_or t 0 0 ≡ code_of (head written) → paper.written_length ≡ length_limit paper Wanted.both t
unfolding length_limit
limit_written t e = rw (eq-eqb (get_or t 0 0) (code_of (head written)) e) refl

pub limit_other : (t : List ℕ) → (get_or t 0 0 ≡ code_of (head written) → ⊥) → paper.normal_length ≡ length_limit paper Wanted.both t
unfolding length_limit
limit_other t e = rw (ne_eqb (get_or t 0 0) (code_of (head written)) e) refl

pub reach_begin :
    (w : Wanted) (t : List ℕ) {c : Cursor} {nd ch af : List ℕ} {es : List Bool} (mk : List ℕ)
    → length t ≤ length_limit paper w t
    → length mk ≡ 66
    → c ≡ start_cursor
    → nd ≡ replicate 120 0
    → ch ≡ replicate 120 0
    → af ≡ replicate 32 0
    → es ≡ replicate 1024 false
    → Reach w t c nd ch af es mk
reach_begin w t mk h e e1 e2 e3 e4 e5 = rw (e1, e2, e3, e4, e5) (reach_start w t mk h e)

pub reach_finish :
    {w : Wanted} {t : List ℕ} {c : Cursor} {nd ch af : List ℕ} {es : List Bool} {mk : List ℕ} {r : Result ReadHead Refusal} → Reach w t c nd ch af es mk
    → length t ≤ c.at
    → r ≡ end_answer (length t) c.place c es
    → Outlined t (reading paper w t) r mk
reach_finish h past e = rw e (reach_end h past)

-- ---- what a caller learns of the verdict from the answer

pub record Accepted (v : Verdict) (kind props vars moves : ℕ) : Type 0 where
  pub table : Table
  pub is : v ≡ accepted table
  pub kind_is : code_of (head table.header.form) ≡ kind
  pub props_is : table.header.props ≡ props
  pub vars_is : table.header.vars ≡ vars
  pub moves_is : table.header.moves ≡ moves

pub answer_accepted : (v : Verdict) (h : ReadHead) → read_of v ≡ Ok h → Accepted v h.kind h.props h.vars h.moves
unfolding read_of
answer_accepted (accepted k) h e =
    let same : record { kind = code_of (head k.header.form); props = k.header.props; vars = k.header.vars; moves = k.header.moves } ≡ h = cc in
    record {
      table = k;
      is = refl;
      kind_is = ap (λ (x : ReadHead). x.kind) same;
      props_is = ap (λ (x : ReadHead). x.props) same;
      vars_is = ap (λ (x : ReadHead). x.vars) same;
      moves_is = ap (λ (x : ReadHead). x.moves) same;
    }
answer_accepted (refused r) h e = let z : ◌≡◌ {A = ℕ} 0 1 = cc in absurd (omega arith)

pub answer_refused : (v : Verdict) (r : Refusal) → read_of v ≡ Err r → v ≡ refused r
unfolding read_of
answer_refused (accepted k) r e = let z : ◌≡◌ {A = ℕ} 0 1 = cc in absurd (omega arith)
answer_refused (refused q) r e = let z : q ≡ r = cc in ap refused z
