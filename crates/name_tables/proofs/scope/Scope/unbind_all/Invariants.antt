use Rattle.std.proofs.Common.{◌≡◌, drop}
use Rattle.name_tables.proofs.scope.Scope.unbind_all.Given as goal

abbrev pub invariant-loop-closed : goal.invariant-loop-closed
invariant-loop-closed l = l.self ≡ drop l._closed l.initial.self
