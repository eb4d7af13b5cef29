-- what is told of what is left is told of all
use Rattle.std.proofs.Common.{drop}
use Rattle.chw_check.proofs.CaseItems.{Told}
use Rattle.chw_check.proofs.CaseLists.{args, elements, bindings, alternatives}
use Rattle.chw_check.proofs.cases.walk.+first_in.Given as goal

abbrev pub invariant-first_in-loop-arg : goal.invariant-first_in-loop-arg
invariant-first_in-loop-arg l = Told (args l.constructors l.sought) l.arg-items (drop l.arg-index l.arg-items)

abbrev pub invariant-first_in_head-loop-binding : goal.invariant-first_in_head-loop-binding
invariant-first_in_head-loop-binding l = Told (bindings l.constructors l.sought) l.binding-items (drop l.binding-index l.binding-items)

abbrev pub invariant-first_in_head-loop-element : goal.invariant-first_in_head-loop-element
invariant-first_in_head-loop-element l = Told (elements l.constructors l.sought) l.element-items (drop l.element-index l.element-items)

abbrev pub invariant-first_in_head-loop-alternative : goal.invariant-first_in_head-loop-alternative
invariant-first_in_head-loop-alternative l = Told (alternatives l.constructors l.sought) l.alternative-items (drop l.alternative-index l.alternative-items)
