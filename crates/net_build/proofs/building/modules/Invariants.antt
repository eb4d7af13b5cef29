-- the modules so far
use Rattle.std.proofs.Common.{◌≡◌}
use Rattle.net_build.proofs.Nets.{ModulesSoFar}
use Rattle.net_build.proofs.building.modules.Given as goal

abbrev pub invariant-loop-place : goal.invariant-loop-place
invariant-loop-place l =
    ModulesSoFar l.initial.base l.made l.place l.modules.items × (l.base ≡ l.initial.base)
