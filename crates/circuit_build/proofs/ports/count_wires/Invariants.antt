-- the parts so far, with those that are left, are all
use Rattle.std.proofs.Common.{◌≡◌, ◌+◌, drop}
use Rattle.net_built.specs.Wires.{wire_count}
use Rattle.circuit_build.proofs.ports.count_wires.Given as goal

abbrev pub invariant-loop-w : goal.invariant-loop-w
invariant-loop-w l = l.count + wire_count (drop l.w-index l.widths) ≡ wire_count l.widths
