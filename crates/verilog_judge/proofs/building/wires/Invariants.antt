-- the wires of the operands so far
use Rattle.std.proofs.Common.{◌≡◌, map, take}
use Rattle.verilog_rules.specs.NetOf.{wire}
use Rattle.verilog_judge.proofs.building.wires.Given as goal

abbrev pub invariant-loop-a : goal.invariant-loop-a
invariant-loop-a l = l.wires.items ≡ map wire (take l.a-index l.operands)
