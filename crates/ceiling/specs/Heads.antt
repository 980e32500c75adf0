-- The code's ceiling as a ceiling; what the first four bytes of a table tell of its head. Assumes nothing.
use Rattle.std.specs.Prelude.{ℕ, ◌*◌, ◌≤◌, ◌<◌, ◌≡◌, Bool, true, false, ◌||◌, List, ltb, length}
use Rattle.std.proofs.Common.{arith, sym, ◌∙◌, lt-ltb, le-ltb}
use Rattle.std.proofs.Math.Path.{refl}
use Rattle.std.proofs.Math.Option.{some}
use Rattle.std.proofs.Math.ListN.{get_or}
use Rattle.integer.specs.BigEndian.{AllBytes}
use Rattle.model.specs.Limits.{paper}
use Rattle.model.specs.Task.{Form, written, normal}
use Rattle.model.specs.Command.{head, code_of, task_bytes}
use Rattle.model.specs.Seen.{Head}
use Rattle.model.specs.Reading.{Table, accepted, Wanted, reading}
use Rattle.ceiling.specs.Ceiling as ceilings
use Rattle.model.specs.Theorems.Reading.Accepted.{HeadBytes}
use Rattle.model.proofs.Theorems.Reading.Accepted.{reading_length, head_bytes_lem}
use Rattle.ceiling.specs.declared.Ceiling.{Ceiling}

-- a ceiling whose numbers are limited
unfoldable pub ceiling_of : Ceiling → ceilings.Ceiling
ceiling_of c = record { moves = c.moves; vars = c.vars; numbers = some c.numbers }

-- ---- the head

-- is the head of a table beyond the ceiling; nothing is said of a table that is refused
abbrev pub IsBeyond : Ceiling → List ℕ → Bool → Type 0
IsBeyond c t b = (w : Wanted) (k : Table) → reading paper w t ≡ accepted k → b ≡ ceilings.beyond (ceiling_of c) k.header

-- an accepted table has its head's four bytes
pub too_short : (c : Ceiling) (t : List ℕ) → length t < 4 → IsBeyond c t false
unfolding task_bytes
too_short c t short w k e = absurd (omega (arith, reading_length paper w t e))

module _ (c : Ceiling) (t : List ℕ) (all : AllBytes t) where
  -- by the bytes of the head
  by_head :
      (b : Bool) → ((h : Head) → HeadBytes t h → b ≡ (ltb c.moves h.moves || ltb (ceilings.most_vars (ceiling_of c) h.form) h.vars)) → IsBeyond c t b
  unfolding ceilings.beyond ceiling_of
  by_head b f w k e = f k.header (head_bytes_lem paper w t e all)

  pub moves_beyond : c.moves < get_or t 3 0 → IsBeyond c t true
  moves_beyond more = by_head true (λ h bytes. rw (lt-ltb c.moves h.moves (rw (sym bytes.moves) more)) refl)

  module _ (few : get_or t 3 0 ≤ c.moves) where
    by_vars :
        (h : Head) (most : ℕ) → HeadBytes t h → ceilings.most_vars (ceiling_of c) h.form ≡ most
        → ltb most (get_or t 2 0) ≡ (ltb c.moves h.moves || ltb (ceilings.most_vars (ceiling_of c) h.form) h.vars)
    by_vars h most bytes e = rw (e, bytes.vars, le-ltb c.moves h.moves (rw (sym bytes.moves) few)) refl

    pub written_beyond : get_or t 0 0 ≡ 0x54 → IsBeyond c t (ltb c.vars (get_or t 2 0))
    unfolding ceilings.most_vars ceiling_of code_of
    written_beyond e = by_head (ltb c.vars (get_or t 2 0)) (λ h bytes. by_vars h c.vars bytes (go h.form (sym bytes.form ∙ e)))
      where
        go : (f : Form) → code_of (head f) ≡ 0x54 → ceilings.most_vars (ceiling_of c) f ≡ c.vars
        go written same = refl
        go normal same = absurd (omega arith)

    pub normal_beyond : (get_or t 0 0 ≡ 0x54 → ⊥) → IsBeyond c t (ltb (2 * c.vars) (get_or t 2 0))
    unfolding ceilings.most_vars ceiling_of code_of
    normal_beyond e = by_head (ltb (2 * c.vars) (get_or t 2 0)) (λ h bytes. by_vars h (2 * c.vars) bytes (go h.form bytes.form))
      where
        go : (f : Form) → get_or t 0 0 ≡ code_of (head f) → ceilings.most_vars (ceiling_of c) f ≡ 2 * c.vars
        go written same = absurd (e same)
        go normal same = refl
