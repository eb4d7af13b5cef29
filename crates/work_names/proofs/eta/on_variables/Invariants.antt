use Rattle.std.proofs.Common.{◌≡◌, ◌-◌}
use Rattle.rewriting.specs.Origins.{on_variables}
use Rattle.work_names.proofs.eta.on_variables.Given as goal

abbrev pub invariant-loop-n : goal.invariant-loop-n
invariant-loop-n l = l.done ≡ on_variables l.fn.term (l.count - l.n) l.n
