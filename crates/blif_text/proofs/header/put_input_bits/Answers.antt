use Rattle.verilog_text.specs.Names.{input_name}
use Rattle.blif_text.proofs.Printing.{places_more}
use Rattle.blif_text.proofs.header.put_input_bits.Goals as goal

pub loop-place-preserved : goal.loop-place-preserved
loop-place-preserved c =
    places_more (input_name c.args.ports.now.domains c.args.port.now) c.loop-place.place _ _ _ c.loop-place.invariant c.in_ok-put_input_bit.ensures
