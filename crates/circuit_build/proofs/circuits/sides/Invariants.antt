-- the bindings so far are built
use Rattle.std.proofs.Common.{◌≡◌}
use Rattle.chw_terms.specs.declared.scene.Sort.TheVariants.{Circuit}
use Rattle.value_build.specs.Added.{Adds, next}
use Rattle.value_build.specs.InScope.{in_scope}
use Rattle.value_build.proofs.Rows.{GroupSoFar}
use Rattle.circuit_build.proofs.circuits.sides.Given as goal

abbrev pub invariant-loop-binding : goal.invariant-loop-binding
invariant-loop-binding l =
    Adds (GroupSoFar l.initial.base Circuit (in_scope l.scope) (next l.initial.into) l.bindings l.binding-index l.found.items) l.initial.into l.into
    × (l.base ≡ l.initial.base)
