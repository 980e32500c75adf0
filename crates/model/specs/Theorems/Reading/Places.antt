-- The numbers and places of refusals are small: the number of a table's or a state's is 1 to `full_number`, and a place of a table stands at
-- most three bytes behind the longest one. Assumes nothing.
use Rattle.std.specs.Prelude.{ℕ, ◌≤◌, ◌<◌}
use Rattle.std.proofs.Math.Option.{Option, none, some}
use Rattle.model.specs.declared.Refusal.{Refusal}
use Rattle.model.specs.Limits.{full_number, last_number}
use Rattle.model.specs.Reading.{Verdict, accepted, refused, Operand}

pub record SmallTo (last limit : ℕ) (r : Refusal) : Type 0 where
  pub positive : 1 ≤ r.number
  pub number : r.number ≤ last
  pub place : r.place ≤ limit

-- of a full call, and of any
abbrev pub Full : ℕ → Refusal → Type 0
Full limit r = SmallTo full_number limit r

abbrev pub Small : ℕ → Refusal → Type 0
Small limit r = SmallTo last_number limit r

-- of what is refused, if anything is
abbrev pub IfSome : (Refusal → Type 0) → Option Refusal → Type 0
IfSome P none = Unit {0}
IfSome P (some r) = P r

abbrev pub IfRefused : (Refusal → Type 0) → Verdict → Type 0
IfRefused P (accepted k) = Unit {0}
IfRefused P (refused r) = P r

-- an operand stands one to three bytes behind its command
abbrev pub Near : Operand → Type 0
Near o = (0 < o.offset) × (o.offset ≤ 3)
