use Rattle.std.proofs.Common.{◌≡◌, take}
use Rattle.std.specs.List.{flat_map}
use Rattle.chw_names.specs.Twices.{binding_name}
use Rattle.chw_names.specs.Unknowns.{within}
use Rattle.chw_resolve.proofs.binders.bind_group.Given as goal

abbrev pub invariant-loop-binding : goal.invariant-loop-binding
invariant-loop-binding l = l.scope ≡ within (flat_map binding_name (take l.binding-index l.bindings)) l.initial.scope
