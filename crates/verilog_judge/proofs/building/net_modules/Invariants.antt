-- the modules so far
use Rattle.std.proofs.Common.{◌≡◌, map, take}
use Rattle.verilog_rules.specs.NetOf.{net_module}
use Rattle.verilog_judge.proofs.building.net_modules.Given as goal

abbrev pub invariant-loop-m : goal.invariant-loop-m
invariant-loop-m l = l.all.items ≡ map net_module (take l.m-index l.modules)
