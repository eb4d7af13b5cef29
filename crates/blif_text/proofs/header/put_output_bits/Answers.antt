use Rattle.verilog_text.specs.Names.{output_name}
use Rattle.blif_text.proofs.Printing.{places_more}
use Rattle.blif_text.proofs.header.put_output_bits.Goals as goal

pub loop-place-preserved : goal.loop-place-preserved
loop-place-preserved c =
    places_more (output_name c.args.ports.now.domains c.args.port.now) c.loop-place.place _ _ _ c.loop-place.invariant c.in_ok-put_output_bit.ensures
