use Rattle.std.proofs.Common.{take}
use Rattle.chw_terms.specs.TermView.{group_of}
use Rattle.rewriting.specs.Shapes.{NoLetIn}
use Rattle.letrec_runs.proofs.lets.has_no_let.Given as goal

abbrev pub invariant-loop-binding : goal.invariant-loop-binding
invariant-loop-binding l = NoLetIn (group_of (take l.binding-index l.group))
