-- each so far is one
use Rattle.std.proofs.Common.{take}
use Rattle.std.specs.List.{AllByRecursion}
use Rattle.stimulus.specs.Stimulus.{IsDomain}
use Rattle.stimulus.specs.Texts.{texts}
use Rattle.stimulus.proofs.form.are_domains.Given as goal

abbrev pub invariant-loop-domain : goal.invariant-loop-domain
invariant-loop-domain l = AllByRecursion IsDomain (texts (take l.domain-index l.domains))
