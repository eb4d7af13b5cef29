use Rattle.std.proofs.Common.{arith}
use Rattle.verilog_rules.specs.Limits.{item_limits}
use Rattle.verilog_checks.proofs.Steps.{all_taken, one_taken}
use Rattle.verilog_limits.proofs.limiting.limit_items.Goals as goal

pub loop-item-preserved : goal.loop-item-preserved
loop-item-preserved c = one_taken item_limits c.args.items.now c.loop-item.item-index c.item-item.result _ _ _ _ c.loop-item-test.true c.item-item.is c.limit_item.ensures c.loop-item.invariant

pub returns : goal.returns
returns c = all_taken item_limits c.args.items.now c.loop-item.item-index _ _ (omega (arith, c.loop-item-test.false)) c.loop-item.invariant
