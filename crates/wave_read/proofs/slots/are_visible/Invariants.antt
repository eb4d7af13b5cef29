-- each byte so far passes
use Rattle.std.proofs.Common.{take}
use Rattle.chw_base.specs.Names.{AllOf}
use Rattle.wave_text.specs.VcdText.{is_visible}
use Rattle.wave_read.proofs.slots.are_visible.Given as goal

abbrev pub invariant-loop-byte : goal.invariant-loop-byte
invariant-loop-byte l = AllOf is_visible (take l.byte-index l.bytes)
