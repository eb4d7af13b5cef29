use Rattle.std.proofs.Common.{◌-◌, arith}
use Rattle.bit_laws.specs.BitNames.{wire_name}
use Rattle.blif_text.proofs.Printing.{word_down}
use Rattle.blif_text.proofs.words.put_wire_bits.Goals as goal

pub loop-place-preserved : goal.loop-place-preserved
loop-place-preserved c =
    word_down (wire_name c.args.flat.now.ports c.args.wire.number) c.loop-place.place (c.loop-place.place - 1) _ _ _ (omega arith)
    c.in_ok-put_wire_bit.ensures c.loop-place.invariant
