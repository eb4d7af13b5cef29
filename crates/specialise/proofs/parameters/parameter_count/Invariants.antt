use Rattle.std.proofs.Common.{◌≡◌, List, length}
use Rattle.chw_types.specs.TypeTree.{TypeTree}
use Rattle.specialise.proofs.Values.{Passed}
use Rattle.specialise.proofs.parameters.parameter_count.Given as goal

abbrev pub invariant-loop-rest : goal.invariant-loop-rest
invariant-loop-rest l =
    (params : List TypeTree) × (l.count ≡ length params) × Passed l.datas l.ty params l.rest
