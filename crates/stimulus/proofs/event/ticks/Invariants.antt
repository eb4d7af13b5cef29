-- the domains so far
use Rattle.std.proofs.Common.{◌≡◌, map, take}
use Rattle.stimulus.specs.Stimulus.{domain_of}
use Rattle.stimulus.specs.Texts.{texts}
use Rattle.stimulus.proofs.event.ticks.Given as goal

abbrev pub invariant-loop-domain : goal.invariant-loop-domain
invariant-loop-domain l = l.ids.items ≡ map (domain_of l.ports) (texts (take l.domain-index l.domains))
