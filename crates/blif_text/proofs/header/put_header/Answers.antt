use Rattle.blif_text.proofs.Printing.{head_written}
use Rattle.blif_text.proofs.header.put_header.Goals as goal

pub returns : goal.returns
returns c =
    head_written c.args.flat.now c.args.out.now.items _ _ _ _ _ _ c.in_ok-put.ensures c.in_ok-put_clocks.ensures c.in_ok-put_inputs.ensures
    c.in_ok-put-2.ensures c.in_ok-put_outputs.ensures c.in_ok-put-3.ensures
