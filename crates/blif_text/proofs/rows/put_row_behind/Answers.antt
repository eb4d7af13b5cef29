use Rattle.blif_text.proofs.Printing.{row_behind}
use Rattle.blif_text.proofs.rows.put_row_behind.Goals as goal

pub returns : goal.returns
returns c = row_behind c.args.bits.now c.args.out.now.items _ _ _ c.in_ok-put.ensures c.in_ok-put_marks.ensures c.in_ok-put-2.ensures
