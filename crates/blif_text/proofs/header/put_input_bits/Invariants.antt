-- the bits so far
use Rattle.std.proofs.Common.{◌≡◌, ◌++◌}
use Rattle.verilog_text.specs.Names.{input_name}
use Rattle.blif_text.specs.Pieces.{places_text}
use Rattle.blif_text.proofs.header.put_input_bits.Given as goal

abbrev pub invariant-loop-place : goal.invariant-loop-place
invariant-loop-place l =
    l.out.items ≡ l.initial.out.items ++ places_text (input_name l.ports.domains l.port) l.place
