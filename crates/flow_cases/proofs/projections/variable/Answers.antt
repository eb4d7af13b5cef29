use Rattle.std.proofs.Common.{◌∙◌, subst}
use Rattle.flow_cases.specs.Heads.{IsApplied}
use Rattle.flow_cases.proofs.Forms.{no_variable}
use Rattle.flow_cases.proofs.projections.variable.Goals as goal

pub returns-in_default : goal.returns-in_default
returns-in_default c = λ x q. subst IsApplied q c.in_default.ensures

pub returns-in_default-head : goal.returns-in_default-head
returns-in_default-head c = λ x q. no_variable c.in-Some.head.now c.in_default-head.not-Var x (c.in-Some.ensures ∙ q)
