use Rattle.std.proofs.Common.{◌≡◌, length}
use Rattle.net_rules.specs.Marks.{Marks}
use Rattle.net_rules.proofs.well_formed.drivers.mark_all.Given as goal

-- the wires so far are marked
abbrev pub invariant-loop-w : goal.invariant-loop-w
invariant-loop-w l = record { marks : Marks l.inputs l.driven l.marks l.w-index; size : length l.marks ≡ length l.fn.marks }
