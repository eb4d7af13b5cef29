use Rattle.std.proofs.Common.{[], sym, subst}
use Rattle.std.proofs.lemmas.Result.{IfOk-weaker}
use Rattle.chw_terms.specs.declared.scene.Sort.TheVariants.{Value}
use Rattle.net_built.specs.Circuits.{Ground}
use Rattle.net_built.specs.Modules.{IsModuleOf}
use Rattle.net_ready.specs.Ready.{types_on, BlockReady, BodyReady}
use Rattle.value_build.specs.Bodies.{IsModuleBelow}
use Rattle.value_build.specs.InScope.{in_scope}
use Rattle.value_build.proofs.Lambdas.{module_of_body}
use Rattle.value_build.proofs.bodies.build_value.Goals as goal

pub returns-clause-module : goal.returns-clause-module
returns-clause-module c =
    let ground = c.args.base.now in
    let inner = c.in_ok-inner.inner.now in
    let widths = c.inputs.new.inputs.items in
    let scope = c.inputs.new.scope.items in
    let given = c.deref.result.now in
    IfOk-weaker c.module.result (IsModuleBelow c.inputs.new.base Value (in_scope scope) given inner) (IsModuleOf ground c.args.it.now)
    (λ m below. module_of_body ground Value c.args.it.now inner widths scope m c.requires.sort c.in_ok-inner.ensures.under
    (subst (λ ws. IsModuleBelow ground Value (in_scope scope) ws inner m) c.deref.ensures.value
    (subst (λ (g : Ground). IsModuleBelow g Value (in_scope scope) given inner m) c.inputs.ensures.base below)))
    c.module.ensures.module

pub inputs-requires-clause-ready : goal.inputs-requires-clause-ready
inputs-requires-clause-ready c =
    subst (λ s. BodyReady c.args.base.now.datas s [] c.args.it.now.body) c.requires.sort c.requires.ready.body

pub inputs-requires-clause-free : goal.inputs-requires-clause-free
inputs-requires-clause-free c = c.requires.ready.free c.requires.sort

pub module-requires-clause-ready : goal.module-requires-clause-ready
module-requires-clause-ready c =
    let scope = c.inputs.new.scope.items in
    subst (λ (g : Ground). BlockReady g.datas Value (types_on (in_scope scope)) c.in_ok-inner.inner.now) (sym c.inputs.ensures.base) c.in_ok-inner.ensures.ready

pub module-requires-clause-free : goal.module-requires-clause-free
module-requires-clause-free c = c.in_ok-inner.ensures.free
