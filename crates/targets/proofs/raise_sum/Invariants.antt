-- The invariant of `raise_sum`: in every reading, the first `i` terms are finite and passed, and what is left to reach has grown by at
-- most 10 ^ 15 for each. Assumes nothing.
use Prim.Native.Nat.{◌+◌, ◌*◌, ◌≤◌}
use mathlib.Core.Bool.{Bool}
use mathlib.Core.List.{List}
use lib.IntN.{nat_abs}
use Rattle.targets.specs.Wanting.{sum_limit, Wantable, WantedDone}
use Rattle.targets.specs.Encoding.{holding}
use Rattle.targets.proofs.raise_sum.Given as goal

abbrev pub invariant-loop-i : goal.invariant-loop-i
invariant-loop-i l =
    record {
      few : l.terms.count ≤ 8;
      size : nat_abs l.left ≤ sum_limit + l.i * 1000000000000000;
      done : (ps : List Bool) (x : Wantable l.terms.part.now l.terms.from l.terms.count l.row l.lows (holding ps l.initial.target)) → WantedDone x l.c l.i l.left (holding ps l.target);
    }
