-- what is built of what is left is built of the body, and what is left is ready
use Rattle.std.proofs.Common.{◌≡◌}
use Rattle.chw_terms.specs.declared.scene.Sort.TheVariants.{Circuit}
use Rattle.net_ready.specs.Ready.{types_on, BodyReady}
use Rattle.value_build.specs.Bodies.{IsUnder}
use Rattle.value_build.specs.InScope.{in_scope}
use Rattle.circuit_build.proofs.bodies.inputs.Given as goal

abbrev pub invariant-loop-inner : goal.invariant-loop-inner
invariant-loop-inner l =
    IsUnder l.initial.base Circuit l.e l.inner l.inputs.items l.scope.items × (l.base ≡ l.initial.base)
    × BodyReady l.initial.base.datas Circuit (types_on (in_scope l.scope.items)) l.inner
