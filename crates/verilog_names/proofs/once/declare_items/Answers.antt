use Rattle.std.proofs.Common.{arith}
use Rattle.verilog_names.proofs.OnceNames.{declares_all, declares_more, declares_none}
use Rattle.verilog_rules.specs.Declarations.{words_by}
use Rattle.verilog_names.proofs.once.declare_items.Goals as goal

pub loop-item-init : goal.loop-item-init
loop-item-init c = declares_none

pub loop-item-preserved : goal.loop-item-preserved
loop-item-preserved c =
    declares_more words_by c.args.items.now c.loop-item.item-index c.item-item.result _ c.loop-item-test.true c.item-item.is c.loop-item.invariant c.in_ok-declare_item.ensures

pub returns : goal.returns
returns c = declares_all words_by c.args.items.now c.loop-item.item-index (omega (arith, c.loop-item-test.false)) c.loop-item.invariant
