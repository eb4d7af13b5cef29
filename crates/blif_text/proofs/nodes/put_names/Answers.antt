use Rattle.bit_nodes.specs.Standing.{name_of, reads_of}
use Rattle.blif_text.proofs.Printing.{names_written}
use Rattle.blif_text.proofs.nodes.put_names.Goals as goal

pub returns : goal.returns
returns c =
    let flat = c.args.flat.now in
    names_written c.args.out.now.items (reads_of flat c.args.gate) (name_of flat c.args.drives) _ _ _ _
    c.in_ok-put.ensures c.in_ok-put_reads.ensures c.in_ok-put_word.ensures c.in_ok-put-2.ensures
