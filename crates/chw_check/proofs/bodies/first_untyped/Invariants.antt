use Rattle.chw_check.proofs.EachItem.{EachBefore}
use Rattle.chw_check.proofs.bodies.first_untyped.Given as goal
use Rattle.chw_typing.specs.Programs.{HasItsType}

-- the bodies of the definitions so far have their declared types
abbrev pub invariant-loop-it : goal.invariant-loop-it
invariant-loop-it l = EachBefore (HasItsType l.program) l.program.defs l.it-index
