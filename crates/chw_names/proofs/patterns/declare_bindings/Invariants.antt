use Rattle.std.proofs.Common.{take}
use Rattle.std.specs.List.{flat_map}
use Rattle.chw_names.specs.Twices.{binding_name}
use Rattle.chw_names.specs.Words.{Declares}
use Rattle.chw_names.proofs.patterns.declare_bindings.Given as goal

abbrev pub invariant-loop-binding : goal.invariant-loop-binding
invariant-loop-binding l = Declares l.initial.names l.names l.initial.least l.least (flat_map binding_name (take l.binding-index l.bindings))
