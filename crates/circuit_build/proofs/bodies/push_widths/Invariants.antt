-- the widths so far, with those that are left, are all
use Rattle.std.proofs.Common.{◌≡◌, ◌++◌, drop}
use Rattle.net_built.specs.Wires.{present}
use Rattle.circuit_build.proofs.bodies.push_widths.Given as goal

abbrev pub invariant-loop-w : goal.invariant-loop-w
invariant-loop-w l = l.inputs.items ++ present (drop l.w-index l.widths) ≡ l.initial.inputs.items ++ present l.widths
