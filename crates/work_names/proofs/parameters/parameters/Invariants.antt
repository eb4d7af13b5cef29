use Rattle.work_names.proofs.Values.{Passed}
use Rattle.work_names.proofs.parameters.parameters.Given as goal

abbrev pub invariant-loop-rest : goal.invariant-loop-rest
invariant-loop-rest l = Passed l.datas l.ty l.params.items l.rest
