-- each byte so far passes
use Rattle.std.proofs.Common.{take}
use Rattle.chw_base.specs.Names.{AllOf, is_name_byte}
use Rattle.name_forms.proofs.forms.are_name_bytes.Given as goal

abbrev pub invariant-loop-byte : goal.invariant-loop-byte
invariant-loop-byte l = AllOf is_name_byte (take l.byte-index l.text)
