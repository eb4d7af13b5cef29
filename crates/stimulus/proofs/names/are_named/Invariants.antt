-- what is left decides
use Rattle.std.proofs.Common.{◌↔◌, drop}
use Rattle.stimulus.specs.Stimulus.{AreNamed}
use Rattle.stimulus.specs.Texts.{texts}
use Rattle.stimulus.proofs.names.are_named.Given as goal

abbrev pub invariant-loop-place : goal.invariant-loop-place
invariant-loop-place l = AreNamed l.inputs (texts l.parts) ↔ AreNamed (drop l.place l.inputs) (texts (drop l.place l.parts))
