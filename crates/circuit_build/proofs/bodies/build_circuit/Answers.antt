use Rattle.std.proofs.Common.{sym, subst}
use Rattle.std.proofs.lemmas.Result.{IfOk-weaker}
use Rattle.chw_terms.specs.declared.scene.Sort.TheVariants.{Circuit}
use Rattle.net_built.specs.Circuits.{Ground}
use Rattle.net_built.specs.Modules.{IsModuleOf}
use Rattle.net_ready.specs.Ready.{types_on, BlockReady}
use Rattle.value_build.specs.Bodies.{IsModuleBelow}
use Rattle.value_build.specs.InScope.{in_scope}
use Rattle.value_build.proofs.Lambdas.{module_of_body}
use Rattle.circuit_build.proofs.Readiness.{circuit_body}
use Rattle.circuit_build.proofs.bodies.build_circuit.Goals as goal

pub inputs-requires-clause-ready : goal.inputs-requires-clause-ready
inputs-requires-clause-ready c = circuit_body c.args.base.now.datas c.args.it.now c.requires.sort c.requires.ready

pub module-requires : goal.module-requires
module-requires c = record {
  ready = subst (λ (g : Ground). BlockReady g.datas Circuit (types_on (in_scope c.inputs.new.scope.items)) c.in_ok-inner.inner.now) (sym c.inputs.ensures.base) c.in_ok-inner.ensures.ready;
}

pub returns-clause-module : goal.returns-clause-module
returns-clause-module c =
    let ground = c.args.base.now in
    let inner = c.in_ok-inner.inner.now in
    let widths = c.inputs.new.inputs.items in
    let scope = c.inputs.new.scope.items in
    let given = c.deref.result.now in
    IfOk-weaker c.module.result (IsModuleBelow c.inputs.new.base Circuit (in_scope scope) given inner) (IsModuleOf ground c.args.it.now)
    (λ m below. module_of_body ground Circuit c.args.it.now inner widths scope m c.requires.sort c.in_ok-inner.ensures.under
    (subst (λ ws. IsModuleBelow ground Circuit (in_scope scope) ws inner m) c.deref.ensures.value
    (subst (λ (g : Ground). IsModuleBelow g Circuit (in_scope scope) given inner m) c.inputs.ensures.base below)))
    c.module.ensures.module
