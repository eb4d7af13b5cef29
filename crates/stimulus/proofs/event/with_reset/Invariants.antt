-- those so far, with those that are left
use Rattle.std.proofs.Common.{◌≡◌, ◌++◌, drop}
use Rattle.std.specs.List.{filter}
use Rattle.stimulus.specs.Texts.{has, texts}
use Rattle.stimulus.proofs.event.with_reset.Given as goal

abbrev pub invariant-loop-domain : goal.invariant-loop-domain
invariant-loop-domain l = texts l.resets.items ++ filter (has 33) (texts (drop l.domain-index l.domains)) ≡ filter (has 33) (texts l.domains)
