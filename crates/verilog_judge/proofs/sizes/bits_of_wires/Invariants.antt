-- the widths of the wires so far
use Rattle.std.proofs.Common.{◌≡◌, map, take}
use Rattle.verilog_rules.specs.Texts.{width}
use Rattle.verilog_rules.specs.declared.resolved.Wire.{Wire}
use Rattle.verilog_judge.proofs.sizes.bits_of_wires.Given as goal

abbrev pub invariant-loop-wire : goal.invariant-loop-wire
invariant-loop-wire l = l.widths.items ≡ map (λ (w : Wire). width w.line.range) (take l.wire-index l.wires)
