-- The calls under a ceiling, for every ceiling: which verdicts 17 leaves as they are. Assumes nothing.
use Rattle.std.specs.Prelude.{◌≡◌, false}
use Rattle.model.specs.Reading.{Verdict, accepted, refused}
use Rattle.ceiling.specs.Ceiling.{Ceiling, beyond}

module _ (C : Ceiling) where
  -- 17 does not turn the table away: another check does, or its head is not beyond the ceiling
  abbrev pub Beneath : Verdict → Type 0
  Beneath (accepted w) = beyond C w.header ≡ false
  Beneath (refused r) = Unit {0}
