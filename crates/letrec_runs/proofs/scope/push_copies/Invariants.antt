-- copies of the types so far are behind the others
use Rattle.std.proofs.Common.{◌≡◌, ◌++◌, take}
use Rattle.letrec_runs.proofs.scope.push_copies.Given as goal

abbrev pub invariant-loop-ty : goal.invariant-loop-ty
invariant-loop-ty l = l.vars.items ≡ l.fn.vars.items ++ take l.ty-index l.types
