use Rattle.std.proofs.Common.{sym, subst}
use Rattle.verilog_judge.specs.Meant.{AreMeant}
use Rattle.verilog_judge.proofs.building.net.Goals as goal

pub net_modules-requires : goal.net_modules-requires
net_modules-requires c = subst AreMeant (sym c.as_slice.ensures) c.requires
