use Rattle.std.proofs.Common.{◌≡◌, ◌++◌, ◌+◌, length}
use Rattle.chw_types.specs.Polynomials.{times}
use Rattle.chw_types.specs.NormalSums.{IsAscending}
use Rattle.chw_types.proofs.polynomial.times.Given as goal

abbrev pub invariant-loop-x : goal.invariant-loop-x
invariant-loop-x l = record {
  first : IsAscending l.first;
  second : IsAscending l.second;
  made : l.done.items ++ times l.first l.second ≡ times l.left l.right;
}

abbrev pub decreases-loop-x : goal.decreases-loop-x
decreases-loop-x l = length l.first + length l.second
