use Rattle.std.proofs.Common.{arith}
use Rattle.verilog_limits.proofs.LimitsOn.{all_limits, module_more}
use Rattle.verilog_limits.proofs.limiting.limit_modules.Goals as goal

pub loop-k-preserved : goal.loop-k-preserved
loop-k-preserved c =
    module_more c.args.modules.now c.loop-k.k c.index-modules-k.result _ _ _ _ c.loop-k-test.true c.index-modules-k.is c.limit_module.ensures c.loop-k.invariant

pub returns : goal.returns
returns c = all_limits c.args.modules.now c.loop-k.k _ _ (omega (arith, c.loop-k-test.false)) c.loop-k.invariant
