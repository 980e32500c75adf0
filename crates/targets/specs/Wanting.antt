-- A sum that is wanted in a layer, term by term: the targets of its finite terms, and of the lowest unbounded one.
-- Assumes nothing.
use Rattle.std.specs.Prelude.{ℕ, ◌+◌, ◌*◌, ◌-◌, ◌^◌, ◌≤◌, ◌<◌, ◌≡◌, Bool, true, false, T, ℤ, pos, negsuc, nat_abs, ◌-ℤ◌, ◌*ℤ◌, ◌≤ℤ◌, get_or}
use Rattle.std.proofs.Common.{arith, sym, ap, ◌∙◌}
use Rattle.std.proofs.Math.Path.{refl, subst}
use mathlib.Core.List.{List, [], ◌∷◌}
use Rattle.std.specs.Int.Signed.{mag, non_neg}
use Rattle.std.proofs.Math.ListN.{length}
use Rattle.integer.specs.Linear.{zlin, small_mag, nat_abs_split}
use Rattle.integer.specs.Ceiling.{ceiling}
use Rattle.model.specs.Limits.{paper, largest_value}
use Rattle.model.specs.Task.{Form, normal, Term}
use Rattle.model.specs.Move.{State, sum}
use Rattle.model.specs.Layer.{Value, finite, unbounded, Layer}
use Rattle.model.specs.Plan.{Wants, low, want_value, want_finite, want_sum}
use Rattle.model.specs.Theorems.Reading.WellFormed.{WeightOk}
use Rattle.model.proofs.Theorems.Plans.Wanting.{want_finite_finite, want_finite_unbounded, want_sum_finite, want_sum_unbounded, want_sum_nil}
use Rattle.block.specs.Items.{Ranges, Terms, TermAt, IsVariable, IsWeight, IsScaled, first_of, term_at, terms_place, terms_behind, term_var_small}
use Rattle.block.specs.Sums.{Row, Summable, IsSum, LayerRow, Encoded, Sized, is_mark, mark_yes, mark_no}
use Rattle.targets.specs.declared.Targets.{Targets}
use Rattle.targets.specs.Encoding.{Encodes, holding, Raised, encodes_value}

-- ---- the term at an offset, and the value of its variable in a layer

pub record TermRead (k : Ranges) (part : List ℕ) (at m : ℕ) (row : List ℤ) (f : ℕ → Value) (ts : List Term) (v : ℕ) : Type 0 where
  pub first : Term
  pub behind : List Term
  pub is : ts ≡ first ∷ behind
  pub here : Terms k part at m (first ∷ behind)
  pub var : v ≡ first.var
  pub small : v < k.vars
  pub room : v < length row
  pub value : Encoded largest_value (f first.var) (get_or row v (pos 0))

pub term_read :
    {k : Ranges} {part : List ℕ} {at m : ℕ} {row : List ℤ} {f : ℕ → Value} {ts : List Term} {v : ℕ}
    → Terms k part at m ts
    → 0 < m
    → LayerRow k.vars row f
    → IsVariable part at v
    → TermRead k part at m row f ts v
term_read {k} {part} {at} {m} {row} {f} {ts} {v} h p r q =
    let g = first_of h p in
    let e : v ≡ g.first.var = q.is k m g.first g.others g.terms in
    let s : v < k.vars = rw e (term_var_small g.terms) in
    record {
      first = g.first;
      behind = g.others;
      is = g.is;
      here = g.terms;
      var = e;
      small = s;
      room = omega (arith, r.long);
      value = subst (λ (i : ℕ). Encoded largest_value (f i) (get_or row v (pos 0))) e (r.each v s);
    }

module _ {k : Ranges} {part : List ℕ} {at m : ℕ} {row : List ℤ} {f : ℕ → Value} {ts : List Term} {v : ℕ} (r : TermRead k part at m row f ts v) where
  pub read_unbounded : is_mark (get_or row v (pos 0)) ≡ true → f r.first.var ≡ unbounded
  read_unbounded e = mark_yes (omega arith) r.value e

  pub read_finite : is_mark (get_or row v (pos 0)) ≡ false → f r.first.var ≡ finite (get_or row v (pos 0))
  read_finite e = mark_no r.value e

  pub read_small : is_mark (get_or row v (pos 0)) ≡ false → nat_abs (get_or row v (pos 0)) ≤ largest_value
  read_small e = subst (Sized largest_value) (read_finite e) r.value.size

  pub read_mag : is_mark (get_or row v (pos 0)) ≡ false → mag (get_or row v (pos 0)) < 2 ^ 63
  read_mag e = small_mag (get_or row v (pos 0)) (omega (arith, read_small e))

-- ---- the finite terms

-- some terms, some layer and some wants stand so in the arguments
pub record Finitely (part : List ℕ) (from n : ℕ) (row : List ℤ) (t : Targets) : Type 0 where
  pub ranges : Ranges
  pub ts : List Term
  pub over : Layer
  pub wants : Wants
  pub terms : Terms ranges part from n ts
  pub values : LayerRow ranges.vars row over.val
  pub encoded : Encodes ranges.props ranges.vars t wants

-- so with some propositions beside the targets
pub record FinitelyIn (part : List ℕ) (from n : ℕ) (row target : List ℤ) : Type 0 where
  pub props : List Bool
  pub it : Finitely part from n row (holding props target)

-- i of the terms are passed
pub record FinitelyDone {part : List ℕ} {from n : ℕ} {row : List ℤ} {t : Targets} (x : Finitely part from n row t) (i : ℕ) (u : Targets) : Type 0 where
  pub others : List Term
  pub wants : Wants
  pub terms : Terms x.ranges part (from + 4 * i) (n - i) others
  pub encoded : Encodes x.ranges.props x.ranges.vars u wants
  pub same : want_finite x.over x.wants x.ts ≡ want_finite x.over wants others

module _ {part : List ℕ} {from n : ℕ} {row : List ℤ} {t : Targets} (x : Finitely part from n row t) where
  pub finitely_start : FinitelyDone x 0 t
  finitely_start =
      record { others = x.ts; wants = x.wants; terms = terms_place x.terms (omega arith) (omega arith); encoded = x.encoded; same = refl }

  module _ {i : ℕ} {u : Targets} (d : FinitelyDone x i u) where
    pub finitely_end : n ≤ i → Encodes x.ranges.props x.ranges.vars u (want_finite x.over x.wants x.ts)
    unfolding want_finite
    finitely_end h =
        subst (Encodes x.ranges.props x.ranges.vars u)
        (sym (d.same ∙ ended d.others (omega (arith, d.terms.many))))
        d.encoded
      where
        ended : (os : List Term) → length os ≡ 0 → want_finite x.over d.wants os ≡ d.wants
        ended [] e = refl
        ended (o ∷ os) e = absurd (omega arith)

    pub finitely_term : i < n → TermAt part (from + 4 * i)
    finitely_term h = term_at (first_of d.terms (omega arith)).terms

    module _ {v : ℕ} (h : i < n) (q : IsVariable part (from + 4 * i) v) where
      pub finitely_read : TermRead x.ranges part (from + 4 * i) (n - i) row x.over.val d.others v
      finitely_read = term_read d.terms (omega arith) x.values q

      behind_terms : Terms x.ranges part (from + 4 * (i + 1)) (n - (i + 1)) finitely_read.behind
      behind_terms = terms_place (terms_behind finitely_read.here (n - (i + 1)) (omega arith)) (omega arith) refl

      pub finitely_skip : is_mark (get_or row v (pos 0)) ≡ true → FinitelyDone x (i + 1) u
      finitely_skip m =
          let r = finitely_read in
          record {
            others = r.behind;
            wants = d.wants;
            terms = behind_terms;
            encoded = d.encoded;
            same =
                d.same ∙ ap (want_finite x.over d.wants) r.is
                ∙ want_finite_unbounded x.over d.wants r.first r.behind (read_unbounded r m);
          }

      pub finitely_raise :
          {r : Targets} → is_mark (get_or row v (pos 0)) ≡ false
          → Raised u v (get_or row v (pos 0)) r
          → FinitelyDone x (i + 1) r
      finitely_raise m raised =
          let r = finitely_read in
          record {
            others = r.behind;
            wants = want_value d.wants v (get_or row v (pos 0));
            terms = behind_terms;
            encoded = encodes_value d.encoded (get_or row v (pos 0)) r.small (read_mag r m) raised;
            same =
                d.same ∙ ap (want_finite x.over d.wants) r.is
                ∙ want_finite_finite x.over d.wants r.first r.behind (read_finite r m)
                ∙ ap (λ (i : ℕ). want_finite x.over (want_value d.wants i (get_or row v (pos 0))) r.behind) (sym r.var);
          }

-- ---- a sum

-- the size that the constant of a wanted sum has at most
abbrev pub sum_limit : ℕ
sum_limit = 100_000_000_000_000_000

-- some sum, some layer and state and some wants stand so in the arguments
pub record Wantable (part : List ℕ) (from n : ℕ) (row lows : List ℤ) (t : Targets) : Type 0 where
  pub ranges : Ranges
  pub ts : List Term
  pub over : Layer
  pub start : State
  pub wants : Wants
  pub form : ranges.form ≡ normal
  pub terms : Terms ranges part from n ts
  pub values : LayerRow ranges.vars row over.val
  pub low_values : Row ranges.vars lows (low over start)
  pub encoded : Encodes ranges.props ranges.vars t wants

pub record WantableIn (part : List ℕ) (from n : ℕ) (row lows target : List ℤ) : Type 0 where
  pub props : List Bool
  pub it : Wantable part from n row lows (holding props target)

-- the targets r hold what wanting the sum with c makes of the wants
pub record Wanted {part : List ℕ} {from n : ℕ} {row lows : List ℤ} {t : Targets} (x : Wantable part from n row lows t) (c : ℤ) (r : Targets) : Type 0 where
  pub encoded : Encodes x.ranges.props x.ranges.vars r (want_sum x.over x.start x.wants x.ts c)

-- i of the terms, all of them finite, are passed, and `left` is left to reach
pub record WantedDone {part : List ℕ} {from n : ℕ} {row lows : List ℤ} {t : Targets} (x : Wantable part from n row lows t) (c : ℤ) (i : ℕ) (left : ℤ) (u : Targets) : Type 0 where
  pub others : List Term
  pub wants : Wants
  pub terms : Terms x.ranges part (from + 4 * i) (n - i) others
  pub encoded : Encodes x.ranges.props x.ranges.vars u wants
  pub same : want_sum x.over x.start x.wants x.ts c ≡ want_sum x.over x.start wants others left

module _ {part : List ℕ} {from n : ℕ} {row lows : List ℤ} {t : Targets} (x : Wantable part from n row lows t) (c : ℤ) where
  pub wanted_start : WantedDone x c 0 c t
  wanted_start =
      record { others = x.ts; wants = x.wants; terms = terms_place x.terms (omega arith) (omega arith); encoded = x.encoded; same = refl }

  module _ {i : ℕ} {left : ℤ} {u : Targets} (d : WantedDone x c i left u) where
    pub wanted_end : n ≤ i → Wanted x c u
    wanted_end h =
        record {
          encoded =
              subst (Encodes x.ranges.props x.ranges.vars u)
              (sym (d.same ∙ ended d.others (omega (arith, d.terms.many))))
              d.encoded;
        }
      where
        ended : (os : List Term) → length os ≡ 0 → want_sum x.over x.start d.wants os left ≡ d.wants
        ended [] e = want_sum_nil x.over x.start d.wants left
        ended (o ∷ os) e = absurd (omega arith)

    pub wanted_term : i < n → TermAt part (from + 4 * i)
    wanted_term h = term_at (first_of d.terms (omega arith)).terms

    -- the terms that are left, as a sum of their own
    abbrev pub wanted_rest : Wantable part (from + 4 * i) (n - i) row lows u
    wanted_rest =
        record {
          ranges = x.ranges;
          ts = d.others;
          over = x.over;
          start = x.start;
          wants = d.wants;
          form = x.form;
          terms = d.terms;
          values = x.values;
          low_values = x.low_values;
          encoded = d.encoded;
        }

    pub wanted_by_rest : {r : Targets} → Wanted wanted_rest left r → Wanted x c r
    wanted_by_rest {r} h =
        record { encoded = subst (Encodes x.ranges.props x.ranges.vars r) (sym d.same) h.encoded }

    module _ {v : ℕ} (h : i < n) (q : IsVariable part (from + 4 * i) v) where
      pub wanted_read : TermRead x.ranges part (from + 4 * i) (n - i) row x.over.val d.others v
      wanted_read = term_read d.terms (omega arith) x.values q

      pub wanted_next :
          {z : ℤ} {r : Targets} → is_mark (get_or row v (pos 0)) ≡ false
          → Raised u v (get_or row v (pos 0)) r
          → IsScaled part (from + 4 * i) (get_or row v (pos 0)) z
          → WantedDone x c (i + 1) (left -ℤ z) r
      wanted_next {z} m raised scaled =
          let r = wanted_read in
          let y = get_or row v (pos 0) in
          record {
            others = r.behind;
            wants = want_value d.wants v y;
            terms = terms_place (terms_behind r.here (n - (i + 1)) (omega arith)) (omega arith) refl;
            encoded = encodes_value d.encoded y r.small (read_mag r m) raised;
            same =
                d.same ∙ ap (λ (os : List Term). want_sum x.over x.start d.wants os left) r.is
                ∙ want_sum_finite x.over d.wants r.first r.behind x.start left (read_finite r m)
                ∙ ap (λ (i : ℕ). want_sum x.over x.start (want_value d.wants i y) r.behind (left -ℤ (r.first.weight *ℤ y))) (sym r.var)
                ∙ ap (λ (p : ℤ). want_sum x.over x.start (want_value d.wants v y) r.behind (left -ℤ p))
                (sym (scaled.is x.ranges (n - i) r.first r.behind r.here));
          }

-- ---- the lowest unbounded term

-- a divisor: the weight of a normal table's term
pub record IsDivisor (part : List ℕ) (at d : ℕ) : Type 0 where
  pub is : (k : Ranges) (n : ℕ) (t : Term) (ts : List Term) → Terms k part at n (t ∷ ts) → d ≡ nat_abs t.weight
  pub positive : 0 < d
  pub small : d ≤ 1000

-- some term of a normal table stands there
pub record NormalTerm (part : List ℕ) (at : ℕ) : Type 0 where
  pub ranges : Ranges
  pub n : ℕ
  pub first : Term
  pub others : List Term
  pub terms : Terms ranges part at n (first ∷ others)
  pub form : ranges.form ≡ normal

pub normal_term : {part : List ℕ} {at : ℕ} → NormalTerm part at → TermAt part at
normal_term h = term_at h.terms

normal_weight : (f : Form) (w : ℤ) → f ≡ normal → WeightOk paper f w → pos 1 ≤ℤ w
normal_weight f w e ok = (subst (λ (g : Form). WeightOk paper g w) e ok).0

pub divisor_positive : {part : List ℕ} {at : ℕ} {w : ℤ} → NormalTerm part at → IsWeight part at w → pos 1 ≤ℤ w
divisor_positive {w} h q =
    rw (q.is h.ranges h.n h.first h.others h.terms)
    (normal_weight h.ranges.form h.first.weight h.form h.terms.ok.terms.0.weight)

pub non_negative : (w : ℤ) → pos 1 ≤ℤ w → T (non_neg w)
non_negative (pos n) h = tt
non_negative (negsuc n) h = absurd h.le

pub divisor_of : {part : List ℕ} {at : ℕ} {w : ℤ} {d : ℕ} → NormalTerm part at → IsWeight part at w → d ≡ nat_abs w → IsDivisor part at d
divisor_of {w} {d} h q e =
    record {
      is = λ k n t ts g. e ∙ ap nat_abs (q.is k n t ts g);
      positive = omega (zlin, nat_abs_split w, divisor_positive h q);
      small = omega (arith, q.small);
    }

-- the first of the n terms is unbounded in some such layer
pub record UnboundedIn (part : List ℕ) (at n v : ℕ) (c : ℤ) (row lows target : List ℤ) : Type 0 where
  pub wantable : WantableIn part at n row lows target
  pub some : 0 < n
  pub variable : IsVariable part at v
  pub mark : is_mark (get_or row v (pos 0)) ≡ true
  pub size : nat_abs c ≤ 2 * sum_limit

module _ {part : List ℕ} {at n v : ℕ} {row lows : List ℤ} {t : Targets} (x : Wantable part at n row lows t) (p : 0 < n) (q : IsVariable part at v) (m : is_mark (get_or row v (pos 0)) ≡ true) where
  abbrev pub open_read : TermRead x.ranges part at n row x.over.val x.ts v
  open_read = term_read x.terms p x.values q

  pub open_term : NormalTerm part at
  open_term =
      record { ranges = x.ranges; n = n; first = open_read.first; others = open_read.behind; terms = open_read.here; form = x.form }

  abbrev pub open_behind : Terms x.ranges part (at + 4) (n - 1) open_read.behind
  open_behind = terms_behind open_read.here (n - 1) (omega arith)

  abbrev pub open_finitely : Finitely part (at + 4) (n - 1) row t
  open_finitely =
      record {
        ranges = x.ranges;
        ts = open_read.behind;
        over = x.over;
        wants = x.wants;
        terms = open_behind;
        values = x.values;
        encoded = x.encoded;
      }

  pub open_summable : Summable part (at + 4) (n - 1) lows
  open_summable =
      record { ranges = x.ranges; ts = open_read.behind; val = low x.over x.start; terms = open_behind; row = x.low_values }

  pub open_wanted :
      {c rest z : ℤ} {d : ℕ} {u r : Targets}
      → Encodes x.ranges.props x.ranges.vars u (want_finite x.over x.wants open_read.behind)
      → IsSum part (at + 4) (n - 1) lows rest
      → IsDivisor part at d
      → z ≡ ceiling (c -ℤ rest) d
      → mag z < 2 ^ 63
      → Raised u v z r
      → Wanted x c r
  open_wanted {c} {rest} {z} {d} {u} {r} e s g is fits raised =
      let o = open_read in
      record {
        encoded =
            subst (Encodes x.ranges.props x.ranges.vars r)
            (sym
            (ap (λ (os : List Term). want_sum x.over x.start x.wants os c) o.is
            ∙ want_sum_unbounded x.over x.wants o.first o.behind x.start c (read_unbounded o m)
            ∙ ap (λ (i : ℕ). want_value (want_finite x.over x.wants o.behind) i (ceiling (c -ℤ sum (low x.over x.start) o.behind) (nat_abs o.first.weight))) (sym o.var)
            ∙ ap (want_value (want_finite x.over x.wants o.behind) v)
            (sym
            (is
            ∙ ap (λ (y : ℤ). ceiling (c -ℤ y) d) (s.is x.ranges o.behind (low x.over x.start) open_behind x.low_values)
            ∙ ap (ceiling (c -ℤ sum (low x.over x.start) o.behind)) (g.is x.ranges n o.first o.behind o.here)))))
            (encodes_value e z o.small fits raised);
      }
