use Rattle.std.proofs.Common.{◌∙◌, ◌++◌, ◌∷◌, [], arith}
use Rattle.net_built.specs.Terms.{variable}
use Rattle.value_build.specs.Groups.{bound_of}
use Rattle.value_build.specs.InScope.{as_variables}
use Rattle.value_build.proofs.Scopes.{bound_grown, bound_whole}
use Rattle.value_build.proofs.scope.enter.Goals as goal

pub loop-i-preserved : goal.loop-i-preserved
loop-i-preserved c =
    let before = as_variables c.loop-i.scope.items in
    bound_grown c.args.bindings.now c.args.wires.now c.loop-i.i c.index-bindings-i.result before (as_variables c.push.new.scope.items)
    (as_variables c.args.scope.now.items ++ bound_of c.args.bindings.now c.args.wires.now)
    c.loop-i-test.true c.index-bindings-i.is
    (c.in_ok-push.ensures ∙ (λ k. before ++ variable c.index-bindings-i.result.ty (c.wires_of_number.ensures k) ∷ []))
    c.loop-i.invariant

pub returns : goal.returns
returns c =
    bound_whole c.args.bindings.now c.args.wires.now c.loop-i.i (as_variables c.loop-i.scope.items)
    (as_variables c.args.scope.now.items ++ bound_of c.args.bindings.now c.args.wires.now)
    (omega (arith, c.loop-i-test.false)) c.loop-i.invariant
