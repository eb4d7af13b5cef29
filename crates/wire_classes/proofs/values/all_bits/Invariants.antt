-- the bits of the wires so far
use Rattle.std.proofs.Common.{◌≡◌, take}
use Rattle.wire_classes.specs.Partition.{table_of}
use Rattle.wire_classes.proofs.values.all_bits.Given as goal

abbrev pub invariant-loop-number : goal.invariant-loop-number
invariant-loop-number l = l.values.items ≡ take l.number (table_of l.sim)
