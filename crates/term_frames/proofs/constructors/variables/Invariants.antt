use Rattle.std.proofs.Common.{◌≡◌, ◌-◌}
use Rattle.chw_typing.specs.HeadTypes.{variables}
use Rattle.term_frames.proofs.Built.{before}
use Rattle.term_frames.proofs.constructors.variables.Given as goal

abbrev pub invariant-loop-i : goal.invariant-loop-i
invariant-loop-i l = before l.done.items (variables (l.count - l.i)) ≡ variables l.count
