use Rattle.std.proofs.Common.{arith, refl}
use Rattle.verilog_rules.specs.Limits.{port_limits}
use Rattle.verilog_checks.proofs.Steps.{all_taken, one_taken}
use Rattle.verilog_limits.proofs.limiting.limit_ports.Goals as goal

pub loop-port-preserved : goal.loop-port-preserved
loop-port-preserved c = one_taken port_limits c.args.ports.now c.loop-port.port-index _ _ _ _ _ c.loop-port-test.true refl c.limit_port.ensures c.loop-port.invariant

pub returns : goal.returns
returns c = all_taken port_limits c.args.ports.now c.loop-port.port-index _ _ (omega (arith, c.loop-port-test.false)) c.loop-port.invariant
