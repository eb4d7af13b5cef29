use Rattle.std.proofs.Common.{arith}
use Rattle.verilog_judge.proofs.ModuleDrivers.{all_names}
use Rattle.verilog_judge.proofs.module_drivers.check_marks.Goals as goal

pub returns : goal.returns
returns c = all_names c.args.marks.now c.args.names.now c.loop-k.k _ _ (omega (arith, c.loop-k-test.false)) c.loop-k.invariant
