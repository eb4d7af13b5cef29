-- the levels so far, with those that are left, are all
use Rattle.std.proofs.Common.{◌≡◌, ◌++◌, drop}
use Rattle.waves.specs.Vcd.{levels, levels_from}
use Rattle.waves.proofs.values.levels_of.Given as goal

abbrev pub invariant-loop-domain : goal.invariant-loop-domain
invariant-loop-domain l =
    l.levels.items ++ levels_from l.ports l.risen l.event l.domain (drop l.domain l.ports.domains)
    ≡ levels l.ports l.risen l.event
