use Rattle.std.proofs.Common.{◌≡◌, take}
use Rattle.chw_terms.specs.TermView.{group_of}
use Rattle.chw_typing.specs.Scopes.{declared}
use Rattle.letrec_runs.proofs.scope.types_of.Given as goal

abbrev pub invariant-loop-binding : goal.invariant-loop-binding
invariant-loop-binding l = l.types.items ≡ declared (group_of (take l.binding-index l.group))
