use Rattle.verilog_checks.proofs.Each.{holds_at}
use Rattle.verilog_judge.specs.Meant.{IsMeantModule}
use Rattle.verilog_judge.proofs.building.net_modules.Goals as goal

pub net_module-requires : goal.net_module-requires
net_module-requires c = holds_at IsMeantModule c.args.modules.now c.loop-m.m-index c.m-item.result _ c.loop-m-test.true c.m-item.is c.requires
