use Rattle.std.proofs.Common.{◌≡◌, ◌++◌, drop}
use Rattle.chw_types.specs.NormalSums.{IsNormal, scaled}
use Rattle.chw_types.specs.SummandView.{summand_of, sum_of}
use Rattle.chw_types.proofs.polynomial.scaled.Given as goal

abbrev pub invariant-loop-s : goal.invariant-loop-s
invariant-loop-s l = record {
  rest : IsNormal (sum_of (drop l.s-index l.q));
  made : sum_of l.done.items ++ scaled (summand_of l.by) (sum_of (drop l.s-index l.q)) ≡ scaled (summand_of l.by) (sum_of l.q);
}
