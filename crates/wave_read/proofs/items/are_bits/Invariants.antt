-- each byte so far is the digit of a bit
use Rattle.std.proofs.Common.{take}
use Rattle.chw_base.specs.Names.{AllOf}
use Rattle.wave_read.specs.Shown.{is_bit}
use Rattle.wave_read.proofs.items.are_bits.Given as goal

abbrev pub invariant-loop-byte : goal.invariant-loop-byte
invariant-loop-byte l = AllOf is_bit (take l.byte-index l.bytes)
