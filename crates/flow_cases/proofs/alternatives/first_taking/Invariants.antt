use Rattle.flow_cases.proofs.Branches.{NoneBefore}
use Rattle.flow_cases.specs.Taken.{pattern_of}
use Rattle.flow_cases.proofs.alternatives.first_taking.Given as goal

abbrev pub invariant-loop-alt : goal.invariant-loop-alt
invariant-loop-alt l = NoneBefore (pattern_of l.known) l.alts l.alt-index
