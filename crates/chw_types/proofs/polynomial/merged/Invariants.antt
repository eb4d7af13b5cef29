use Rattle.std.proofs.Common.{◌++◌, ◌+◌, length}
use Rattle.chw_types.specs.Agreement.{Agrees}
use Rattle.chw_types.specs.NormalSums.{IsNormal}
use Rattle.chw_types.specs.SummandView.{sum_of}
use Rattle.chw_types.proofs.polynomial.merged.Given as goal

abbrev pub invariant-loop-s : goal.invariant-loop-s
invariant-loop-s l = record {
  first : IsNormal (sum_of l.done.items ++ sum_of l.first.items);
  second : IsNormal (sum_of l.done.items ++ sum_of l.second.items);
  sum : Agrees (sum_of l.done.items ++ (sum_of l.first.items ++ sum_of l.second.items)) (sum_of l.fn.p.items ++ sum_of l.fn.q.items);
}

abbrev pub decreases-loop-s : goal.decreases-loop-s
decreases-loop-s l = length (sum_of l.first.items) + length (sum_of l.second.items)
