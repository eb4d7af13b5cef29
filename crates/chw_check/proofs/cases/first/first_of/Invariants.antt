use Rattle.chw_check.proofs.EachItem.{EachBefore}
use Rattle.chw_check.proofs.cases.first.first_of.Given as goal
use Rattle.chw_check.specs.FirstCase.{KeepsAll}
use Rattle.chw_terms.specs.declared.program.Def.{Def}

-- no case in the definitions so far leaves out what is sought
abbrev pub invariant-loop-number : goal.invariant-loop-number
invariant-loop-number l = EachBefore (λ (it : Def). KeepsAll l.constructors l.sought it.body) l.it-items l.number
