use Rattle.std.proofs.Common.{◌∙◌}
use Rattle.bit_nodes.specs.Standing.{bitnet_of}
use Rattle.blif_text.proofs.Printing.{text_written}
use Rattle.blif_text.proofs.printer.print.Goals as goal

pub returns : goal.returns
returns c =
    c.from.ensures
    ∙ text_written (bitnet_of c.args.flat.now c.args.nodes.now) _ _ _ _ c.new-out.ensures.items c.in_ok-put_header.ensures c.in_ok-put_nodes.ensures
    c.in_ok-put.ensures
