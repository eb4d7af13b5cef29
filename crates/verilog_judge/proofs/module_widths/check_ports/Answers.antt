use Rattle.std.proofs.Common.{arith}
use Rattle.verilog_judge.proofs.Taken.{all_ports}
use Rattle.verilog_judge.proofs.module_widths.check_ports.Goals as goal

pub returns : goal.returns
returns c =
    all_ports c.args.widths.now c.args.ports.now c.args.operands.now c.loop-k.k _ _ (omega (arith, c.loop-k-test.false)) c.loop-k.invariant
