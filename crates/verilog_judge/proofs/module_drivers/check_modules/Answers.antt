use Rattle.std.proofs.Common.{refl}
use Rattle.verilog_checks.proofs.Each.{holds_at}
use Rattle.verilog_judge.proofs.ModuleDrivers.{placed_more}
use Rattle.verilog_judge.specs.Driving.{DrivesItsOwn}
use Rattle.verilog_judge.proofs.module_drivers.check_modules.Goals as goal

pub check_placed-requires : goal.check_placed-requires
check_placed-requires c = holds_at DrivesItsOwn c.args.modules.now c.loop-k.k c.index-modules-k.result _ c.loop-k-test.true c.index-modules-k.is c.requires

pub loop-k-preserved : goal.loop-k-preserved
loop-k-preserved c =
    placed_more c.args.modules.now c.loop-k.k c.index-modules-k.result _ _ _ _ _ c.loop-k-test.true c.index-modules-k.is refl c.in_ok-check_placed.ensures
    c.loop-k.invariant
