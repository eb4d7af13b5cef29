use Rattle.std.proofs.Common.{refl}
use Rattle.verilog_limits.proofs.LimitsOn.{least_of_all}
use Rattle.verilog_limits.proofs.limiting.limits.Goals as goal

pub returns : goal.returns
returns c =
    least_of_all c.as_slice-earlier.result.now c.args.tree.now.earlier c.args.tree.now.last _ _ _ _ _ c.as_slice-earlier.ensures refl c.new-least.ensures
    c.limit_modules.ensures c.limit_module.ensures c.place.ensures
