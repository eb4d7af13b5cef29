use Rattle.bit_laws.specs.Bitnet.{clock_of}
use Rattle.bit_nodes.specs.Standing.{name_of}
use Rattle.blif_text.proofs.Printing.{latch_written}
use Rattle.blif_text.proofs.nodes.put_latch.Goals as goal

pub returns : goal.returns
returns c =
    let flat = c.args.flat.now in
    latch_written c.args.out.now.items (name_of flat c.args.takes) (name_of flat c.args.drives) (clock_of flat.ports c.args.domain) c.args.initial
    _ _ _ _ _ _ c.in_ok-put.ensures c.in_ok-put_word.ensures c.in_ok-put_word-2.ensures c.in_ok-put-2.ensures c.in_ok-put_clock.ensures
    c.in_ok-put_initial.ensures
