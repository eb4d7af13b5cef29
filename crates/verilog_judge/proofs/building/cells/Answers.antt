use Rattle.std.proofs.Common.{sym, subst}
use Rattle.std.specs.List.{AllByRecursion}
use Rattle.verilog_checks.proofs.Each.{holds_at}
use Rattle.verilog_judge.specs.Meant.{IsMeantDriver}
use Rattle.verilog_judge.proofs.building.cells.Goals as goal

pub push_cell-requires-clause-driver : goal.push_cell-requires-clause-driver
push_cell-requires-clause-driver c =
    let drivers = c.as_slice-driver-items.result.now in
    holds_at IsMeantDriver drivers c.loop-driver.driver-index c.driver-item.result _ c.loop-driver-test.true c.driver-item.is
    (subst (AllByRecursion IsMeantDriver) (sym c.as_slice-driver-items.ensures) c.requires.drivers)
