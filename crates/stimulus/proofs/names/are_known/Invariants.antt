-- each so far is known
use Rattle.std.proofs.Common.{take}
use Rattle.std.specs.List.{AllByRecursion}
use Rattle.stimulus.specs.Stimulus.{IsKnown}
use Rattle.stimulus.specs.Texts.{texts}
use Rattle.stimulus.proofs.names.are_known.Given as goal

abbrev pub invariant-loop-domain : goal.invariant-loop-domain
invariant-loop-domain l = AllByRecursion (IsKnown l.ports) (texts (take l.domain-index l.domains))
