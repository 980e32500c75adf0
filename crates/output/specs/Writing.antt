-- Bytes written into a lent output, one store behind the other. A store answers the offset behind its bytes, and writes them only
-- where they fit: so one walk answers the length over an output of no bytes, and writes over one that is long enough.
-- Assumes nothing.
use Rattle.std.specs.Prelude.{ℕ, ◌+◌, ◌^◌, ◌≤◌, ◌<◌, ◌≡◌, refl, List, [], ◌∷◌, ◌++◌, length, set}
use Rattle.std.proofs.Common.{arith, sym, ap, ap₂, ◌∙◌, subst, append_assoc, append-nil, length-append, length-set}
use Rattle.integer.specs.Store.{put, put_nil, put_one, put_append, length_put}
use Rattle.model.specs.Memory.{overwrite}
use Rattle.model.proofs.Theorems.Printing.Outputs.{put_first}

-- `next` is the offset behind the bytes bs from `at` on; if it lies within `old`, `new` is `old` with those bytes
pub record Written (old : List ℕ) (at : ℕ) (bs new : List ℕ) (next : ℕ) : Type 0 where
  pub behind : next ≡ at + length bs
  pub kept : length new ≡ length old
  pub is : next ≤ length old → new ≡ put old at bs

-- ---- one store

-- the bytes fit
pub written_whole :
    {old : List ℕ} {at : ℕ} {bs new : List ℕ} {next : ℕ}
    → at + length bs ≤ length old
    → new ≡ put old at bs
    → next ≡ at + length bs
    → Written old at bs new next
written_whole {old} {at} {bs} fits is behind =
    record { behind = behind; kept = ap length is ∙ length_put old at bs fits; is = λ h. is }

-- they do not
pub written_not :
    (old : List ℕ) {at : ℕ} {bs : List ℕ} {next : ℕ} → length old < at + length bs → next ≡ at + length bs → Written old at bs old next
written_not old h behind = record { behind = behind; kept = refl; is = λ g. absurd (omega (arith, behind)) }

-- there are none
pub written_none : (old : List ℕ) (at : ℕ) → Written old at [] old at
written_none old at = record { behind = omega arith; kept = refl; is = λ h. sym (put_nil old at) }

-- ---- one behind the other

pub written_join :
    {old mid new bs cs : List ℕ} {at a b : ℕ} → Written old at bs mid a → Written mid a cs new b → Written old at (bs ++ cs) new b
written_join {old} {mid} {new} {bs} {cs} {at} {a} {b} v w =
    record {
      behind = omega (arith, length-append bs cs, v.behind, w.behind);
      kept = w.kept ∙ v.kept;
      is =
          λ h.
          let first : a ≤ length old = omega (arith, w.behind) in
          let whole : b ≤ length mid = omega (arith, v.kept) in
          w.is whole
          ∙ ap₂ (λ (l : List ℕ) (k : ℕ). put l k cs) (v.is first) v.behind
          ∙ put_append old at bs cs (omega (arith, v.behind));
    }

-- the bytes from `at` on end below any offset that could overflow
pub record Room (at : ℕ) (bs : List ℕ) : Type 0 where
  pub short : at + length bs < 2 ^ 62

pub room_same : {at : ℕ} {bs cs : List ℕ} → Room at bs → bs ≡ cs → Room at cs
room_same {at} r e = subst (Room at) e r

-- of bytes in two pieces, there is room for the first, and for the second once the first is written
pub room_first : {at : ℕ} (bs cs : List ℕ) → Room at (bs ++ cs) → Room at bs
room_first bs cs r = record { short = omega (arith, r.short, length-append bs cs) }

pub room_next : {old mid bs : List ℕ} {at to : ℕ} (cs : List ℕ) → Written old at bs mid to → Room at (bs ++ cs) → Room to cs
room_next {bs = bs} cs w r = record { short = omega (arith, r.short, w.behind, length-append bs cs) }

-- one byte, two bytes
pub byte_written : (l : List ℕ) (at b : ℕ) → at < length l → Written l at (b ∷ []) (set l at b) (at + 1)
byte_written l at b h = written_whole (omega arith) (put_one l at b h) refl

pub pair_written : (l : List ℕ) (at a b : ℕ) → at + 2 ≤ length l → Written l at (a ∷ b ∷ []) (set (set l at a) (at + 1) b) (at + 2)
pair_written l at a b h =
    let e : at + 1 + 1 ≡ at + 2 = omega arith in
    rw (← e) (written_join (byte_written l at a (omega arith)) (byte_written (set l at a) (at + 1) b (omega (arith, length-set l at a))))

pub written_same : {old new bs cs : List ℕ} {at next : ℕ} → Written old at bs new next → bs ≡ cs → Written old at cs new next
written_same {old} {new} {at = at} {next} w e = subst (λ (l : List ℕ). Written old at l new next) e w

-- the same memory and offset
pub written_at :
    {old mid new bs : List ℕ} {at to next : ℕ} → Written old at bs mid to → new ≡ mid → next ≡ at + length bs → Written old at bs new next
written_at w e f = rw (e, f, ← w.behind) w

-- from the start of an output that is long enough
pub written_first : {old bs new : List ℕ} {n : ℕ} → Written old 0 bs new n → n ≤ length old → new ≡ overwrite bs old
written_first {old} {bs} w h = w.is h ∙ put_first old bs

-- ---- a walk: `rest` is what is left to be written of bs

pub record Writing (old : List ℕ) (at : ℕ) (bs new : List ℕ) (to : ℕ) (rest : List ℕ) : Type 0 where
  pub done : List ℕ
  pub so_far : Written old at done new to
  pub whole : bs ≡ done ++ rest

pub writing_start : (old : List ℕ) (at : ℕ) (bs : List ℕ) → Writing old at bs old at bs
writing_start old at bs = record { done = []; so_far = written_none old at; whole = refl }

module _ {old : List ℕ} {at : ℕ} {bs new : List ℕ} {to : ℕ} where
  pub writing_rest : {rest more : List ℕ} → Writing old at bs new to rest → rest ≡ more → Writing old at bs new to more
  writing_rest p e = subst (Writing old at bs new to) e p

  -- the offset behind all of it
  pub writing_behind : {rest : List ℕ} → Writing old at bs new to rest → to + length rest ≡ at + length bs
  writing_behind {rest} p = omega (arith, p.so_far.behind, ap length p.whole, length-append p.done rest)

  -- there is room for the next piece
  pub writing_room : (cs ds : List ℕ) → Writing old at bs new to (cs ++ ds) → Room at bs → Room to cs
  writing_room cs ds p r = record { short = omega (arith, writing_behind p, length-append cs ds, r.short) }

  pub writing_step :
      {cs ds next : List ℕ} {on : ℕ} → Writing old at bs new to (cs ++ ds) → Written new to cs next on → Writing old at bs next on ds
  writing_step {cs} {ds} p w =
      record {
        done = p.done ++ cs;
        so_far = written_join p.so_far w;
        whole = p.whole ∙ sym (append_assoc p.done cs ds);
      }

  pub writing_end : Writing old at bs new to [] → Written old at bs new to
  writing_end p = written_same p.so_far (sym (p.whole ∙ append-nil p.done))
