-- the marks so far
use Rattle.std.proofs.Common.{◌≡◌, ◌++◌, map, take}
use Rattle.bit_laws.specs.Gates.{digit_of}
use Rattle.blif_text.proofs.rows.put_marks.Given as goal

abbrev pub invariant-loop-bit : goal.invariant-loop-bit
invariant-loop-bit l = l.out.items ≡ l.initial.out.items ++ map digit_of (take l.bit-index l.bits)
