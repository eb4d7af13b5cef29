use Rattle.std.proofs.Common.{refl}
use Rattle.verilog_checks.proofs.Each.{holds_at}
use Rattle.verilog_judge.proofs.OfWires.{all_first}
use Rattle.verilog_judge.proofs.Taken.{module_more}
use Rattle.verilog_judge.specs.Read.{IsReadModule}
use Rattle.verilog_judge.proofs.module_widths.check_modules.Goals as goal

pub check_module-requires-clause-earlier : goal.check_module-requires-clause-earlier
check_module-requires-clause-earlier c = all_first IsReadModule c.loop-k.k c.args.modules.now c.requires

pub check_module-requires-clause-module : goal.check_module-requires-clause-module
check_module-requires-clause-module c = holds_at IsReadModule c.args.modules.now c.loop-k.k c.index-modules-k.result _ c.loop-k-test.true c.index-modules-k.is c.requires

pub loop-k-preserved : goal.loop-k-preserved
loop-k-preserved c =
    module_more c.args.modules.now c.loop-k.k c.index-modules-k.result _ _ _ _ _ c.loop-k-test.true c.index-modules-k.is refl c.in_ok-check_module.ensures
    c.loop-k.invariant
