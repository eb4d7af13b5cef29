use Rattle.bit_laws.specs.Blast.{word}
use Rattle.blif_text.proofs.Printing.{words_written}
use Rattle.blif_text.proofs.words.put_both.Goals as goal

pub returns : goal.returns
returns c =
    let flat = c.args.flat.now in
    words_written c.args.out.now.items (word flat c.args.a.number) (word flat c.args.b.number) _ _ c.in_ok-put_wire_bits.ensures c.in_ok-put_wire_bits-2.ensures
