use Rattle.verilog_checks.proofs.Each.{holds_at}
use Rattle.verilog_checks.proofs.Steps.{one_taken}
use Rattle.verilog_judge.specs.Read.{IsReadDriver}
use Rattle.verilog_rules.specs.WidthRules.{driver_width_checks}
use Rattle.verilog_judge.proofs.module_widths.check_drivers.Goals as goal

pub check_driver-requires-clause-driver : goal.check_driver-requires-clause-driver
check_driver-requires-clause-driver c = holds_at IsReadDriver c.args.drivers.now c.loop-driver.driver-index c.driver-item.result _ c.loop-driver-test.true c.driver-item.is c.requires.drivers

pub loop-driver-preserved : goal.loop-driver-preserved
loop-driver-preserved c =
    one_taken (driver_width_checks c.args.earlier.now c.args.m.now) c.args.drivers.now c.loop-driver.driver-index c.driver-item.result _ _ _ _
    c.loop-driver-test.true c.driver-item.is c.in_ok-check_driver.ensures c.loop-driver.invariant
