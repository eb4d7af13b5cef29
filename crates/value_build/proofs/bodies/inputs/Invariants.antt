-- what is built of what is left is built of the body; what is left is ready, and no binding there leads back to itself
use Rattle.std.proofs.Common.{◌≡◌}
use Rattle.chw_terms.specs.declared.scene.Sort.TheVariants.{Value}
use Rattle.net_built.specs.Loops.{HasNoLoops}
use Rattle.net_ready.specs.Ready.{types_on, BodyReady}
use Rattle.value_build.specs.Bodies.{IsUnder}
use Rattle.value_build.specs.InScope.{in_scope}
use Rattle.value_build.proofs.bodies.inputs.Given as goal

abbrev pub invariant-loop-inner : goal.invariant-loop-inner
invariant-loop-inner l = record {
  under : IsUnder l.initial.base Value l.e l.inner l.inputs.items l.scope.items;
  base : l.base ≡ l.initial.base;
  ready : BodyReady l.initial.base.datas Value (types_on (in_scope l.scope.items)) l.inner;
  free : HasNoLoops l.inner;
}
