-- the bits so far
use Rattle.std.proofs.Common.{◌≡◌, ◌++◌, take}
use Rattle.wire_classes.specs.Keys.{bits_key}
use Rattle.wire_classes.proofs.keys.put_bits.Given as goal

abbrev pub invariant-loop-bit : goal.invariant-loop-bit
invariant-loop-bit l = l.key.items ≡ l.fn.key.items ++ bits_key (take l.bit-index l.bits)
