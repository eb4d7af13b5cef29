use Rattle.std.proofs.Common.{subst, arith}
use Rattle.std.specs.List.{AllByRecursion}
use Rattle.verilog_text.specs.VText.{IsCounted}
use Rattle.verilog_read.proofs.Counting.{all_counted, counted_more}
use Rattle.verilog_read.proofs.printing.count_all.Goals as goal

pub loop-body-preserved : goal.loop-body-preserved
loop-body-preserved c =
    counted_more c.as_slice-body-items.result.now c.loop-body.body-index c.body-item.result _ c.loop-body-test.true c.body-item.is c.count.ensures
    c.loop-body.invariant

pub returns : goal.returns
returns c =
    subst (AllByRecursion IsCounted) c.as_slice-body-items.ensures
    (all_counted c.as_slice-body-items.result.now c.loop-body.body-index (omega (arith, c.loop-body-test.false)) c.loop-body.invariant)
