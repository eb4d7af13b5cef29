use Rattle.std.proofs.Common.{take}
use Rattle.chw_terms.specs.TermView.{group_of}
use Rattle.kept_letrecs.specs.Resting.{AllNamed}
use Rattle.letrec_runs.proofs.resting.are_named.Given as goal

abbrev pub invariant-loop-binding : goal.invariant-loop-binding
invariant-loop-binding l = AllNamed l.datas l.mode (group_of (take l.binding-index l.group))
