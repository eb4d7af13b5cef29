use Rattle.std.proofs.Common.{◌∙◌}
use Rattle.blif_read.proofs.Copies.{rows_end, rows_next}
use Rattle.blif_read.proofs.bitnet.first_rows.Goals as goal

pub loop-it-preserved : goal.loop-it-preserved
loop-it-preserved c =
    let l = c.loop-it in
    rows_next c.args.others.now l.it-index c.it-item.result _ c.in-Row.marks l.rows.items c.push.new.self.items c.in_ok-copy_of.field-0 c.loop-it-test.true c.it-item.is
    c.in-Row.is l.invariant c.in_ok-push.ensures.items c.in_ok-copy_of.ensures
