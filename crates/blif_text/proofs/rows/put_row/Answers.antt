use Rattle.blif_text.proofs.Printing.{row_written}
use Rattle.blif_text.proofs.rows.put_row.Goals as goal

pub returns : goal.returns
returns c =
    row_written c.args.bits.now c.is_empty.result c.args.out.now.items _ _ c.is_empty.ensures c.in_ok-put_marks.ensures c.in_ok-put_row_end.ensures
