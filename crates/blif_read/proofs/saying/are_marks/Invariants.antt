-- each byte so far passes
use Rattle.std.proofs.Common.{take}
use Rattle.chw_base.specs.Names.{AllOf}
use Rattle.blif_text.specs.Statements.{is_mark}
use Rattle.blif_read.proofs.saying.are_marks.Given as goal

abbrev pub invariant-loop-byte : goal.invariant-loop-byte
invariant-loop-byte l = AllOf is_mark (take l.byte-index l.bytes)
