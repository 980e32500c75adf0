-- The invariant of `raise_finite`: in every reading, the first `i` terms are passed. Assumes nothing.
use Prim.Native.Nat.{◌≤◌}
use mathlib.Core.Bool.{Bool}
use mathlib.Core.List.{List}
use Rattle.targets.specs.Wanting.{Finitely, FinitelyDone}
use Rattle.targets.specs.Encoding.{holding}
use Rattle.targets.proofs.raise_finite.Given as goal

abbrev pub invariant-loop-i : goal.invariant-loop-i
invariant-loop-i l =
    record {
      few : l.terms.count ≤ 8;
      done : (ps : List Bool) (x : Finitely l.terms.part.now l.terms.from l.terms.count l.row (holding ps l.initial.target)) → FinitelyDone x l.i (holding ps l.target);
    }
