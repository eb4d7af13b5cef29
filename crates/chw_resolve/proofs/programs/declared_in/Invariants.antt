use Rattle.std.proofs.Common.{take}
use Rattle.chw_resolve.specs.Walks.{IsDeclared}
use Rattle.chw_resolve.proofs.programs.declared_in.Given as goal

abbrev pub invariant-loop-declaration : goal.invariant-loop-declaration
invariant-loop-declaration l = IsDeclared l.globals (take l.declaration-index l.declarations) l.declared
