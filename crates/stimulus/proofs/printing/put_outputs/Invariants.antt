-- what is printed, with what is left, is all
use Rattle.std.proofs.Common.{◌≡◌, ◌++◌, drop}
use Rattle.stimulus.specs.Output.{outputs_text}
use Rattle.stimulus.proofs.printing.put_outputs.Given as goal

abbrev pub invariant-loop-place : goal.invariant-loop-place
invariant-loop-place l = l.into.items ++ outputs_text l.event (drop l.place l.ports) (drop l.place l.outputs) ≡ l.fn.into.items ++ outputs_text l.event l.ports l.outputs
