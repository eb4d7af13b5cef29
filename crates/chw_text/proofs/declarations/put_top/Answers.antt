use Rattle.chw_text.proofs.DeclarationForms.{top_puts}
use Rattle.chw_text.proofs.declarations.put_top.Goals as goal

pub returns : goal.returns
returns c =
    top_puts c.args.top.now c.as_slice.result.now c.as_slice-2.result.now c.as_slice.ensures c.as_slice-2.ensures c.in_ok-put_sign.ensures c.in_ok-put_word.ensures c.in_ok-put_ports.ensures c.in_ok-put_ports-2.ensures c.in_ok-put_end.ensures
