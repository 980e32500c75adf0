-- The numbers of the refusals (document 01, "Where a call turns back"; document 02, requests 5, 7 and 8), by what each says. Assumes nothing.
use Rattle.std.specs.Prelude.{ℕ}
use Rattle.model.specs.declared.reason.Reason.{Reason}
use Rattle.model.specs.declared.reason.Reason.TheVariants as why

abbrev pub number_of : Reason → ℕ
number_of why.TableTooLong = 1
number_of why.CutShort = 2
number_of why.Misplaced = 3
number_of why.OperandOutOfRange = 4
number_of why.NamedAgain = 5
number_of why.Miscounted = 6
number_of why.Circle = 7
number_of why.StateLength = 8
number_of why.StateOutOfRange = 9
number_of why.Missing = 10
number_of why.NotAllowed = 11
number_of why.ResultOutOfRange = 12
number_of why.OutputTooShort = 13
number_of why.MemoryTooShort = 14
number_of why.LayerTooLarge = 15
number_of why.Idle = 16
number_of why.BeyondCeiling = 17
number_of why.WrongDay = 18
number_of why.NoPlacement = 19
