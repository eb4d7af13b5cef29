-- the type leads to what is left, and that leads from ports to a port and gives the same in the end
use Rattle.std.proofs.Common.{◌≡◌}
use Rattle.net_built.specs.Terms.{result_of}
use Rattle.net_build.specs.Ports.{HasEnds, IsLedTo}
use Rattle.net_build.proofs.tops.parameters.Given as goal

abbrev pub invariant-loop-rest : goal.invariant-loop-rest
invariant-loop-rest l =
    IsLedTo l.base.datas l.t l.rest l.ins.items × HasEnds l.base.datas l.rest × (result_of l.rest ≡ result_of l.t)
