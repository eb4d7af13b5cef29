-- what is written, with the bits that are left, is all
use Rattle.std.proofs.Common.{◌≡◌, ◌++◌}
use Rattle.bit_laws.specs.BitNames.{wire_name, word_names}
use Rattle.bit_laws.specs.Blast.{word}
use Rattle.blif_text.specs.Printed.{spaced}
use Rattle.blif_text.proofs.words.put_wire_bits.Given as goal

abbrev pub invariant-loop-place : goal.invariant-loop-place
invariant-loop-place l =
    l.out.items ++ spaced (word_names (wire_name l.flat.ports l.wire.number) l.place)
    ≡ l.initial.out.items ++ spaced (word l.flat l.wire.number)
