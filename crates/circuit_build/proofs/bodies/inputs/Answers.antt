use Rattle.std.proofs.Common.{◌≡◌, ◌∙◌, ◌∷◌, List, ℕ, refl, ap, sym, subst}
use Rattle.chw_types.specs.TypeTree.{TypeTree}
use Rattle.chw_terms.specs.declared.scene.Sort.TheVariants.{Circuit}
use Rattle.chw_terms.specs.TermTree.{TermTree, lam}
use Rattle.chw_terms.specs.TermView.{tree_of}
use Rattle.net_built.specs.Circuits.{Ground}
use Rattle.net_built.specs.Data.{HasParts}
use Rattle.net_built.specs.Terms.{variable}
use Rattle.net_built.specs.Wires.{new_wires}
use Rattle.net_ready.specs.Ready.{types_on, BodyReady}
use Rattle.value_build.specs.Bodies.{IsInput}
use Rattle.value_build.specs.InScope.{as_variables, in_scope}
use Rattle.value_build.specs.declared.scope.Variable.{Variable as Held}
use Rattle.value_build.proofs.Lambdas.{under_none, under_lambda}
use Rattle.circuit_build.proofs.Readiness.{IsLambda, body_head, body_is_block, lambda_ready, not_lambda, types_one_more}
use Rattle.circuit_build.proofs.bodies.inputs.Goals as goal

pub loop-inner-init : goal.loop-inner-init
loop-inner-init c = (
  under_none c.args.base.now Circuit c.args.e.now c.args.inputs.now.items c.args.scope.now.items c.requires.none.1 c.requires.none.0,
  refl,
  subst (λ (vs : List Held). BodyReady c.args.base.now.datas Circuit (types_on (in_scope vs)) c.args.e.now) (sym c.requires.none.0) c.requires.ready,
)

pub push_input-requires : goal.push_input-requires
push_input-requires c = let ready = c.loop-inner.invariant.2 in
    let t = c.in-Lam.t in
    let body = c.in-Lam.body.value in
    let is : c.loop-inner.inner.now ≡ lam t body =
    sym (body_head c.inner.inside.head c.inner.inside.args.items c.loop-inner.inner.now c.inner.view_is ready) ∙ ap tree_of c.in-Lam.is in
    record {
      port = subst (λ (g : Ground). (ws : List ℕ) × HasParts g.datas Circuit t ws) (sym c.loop-inner.invariant.1)
          (lambda_ready t body (subst (λ (e : TermTree). BodyReady c.args.base.now.datas Circuit (types_on (in_scope c.loop-inner.scope.items)) e) is ready)).0;
    }

pub loop-inner-preserved : goal.loop-inner-preserved
loop-inner-preserved c =
    let same = c.loop-inner.invariant.1 in
    let ready = c.loop-inner.invariant.2 in
    let datas = c.args.base.now.datas in
    let t = c.in-Lam.t in
    let body = c.deref-inner.result.now in
    let before = c.loop-inner.inputs.items in
    let later = c.push_input.new.inputs.items in
    let outer = c.loop-inner.scope.items in
    let scope = c.push_input.new.scope.items in
    let is : c.loop-inner.inner.now ≡ lam t body =
    sym (body_head c.inner.inside.head c.inner.inside.args.items c.loop-inner.inner.now c.inner.view_is ready) ∙ ap tree_of c.in-Lam.is
    ∙ ap (lam t) (sym c.deref-inner.ensures) in
    let input = subst (λ (g : Ground). IsInput g Circuit t before later outer scope) same c.in_ok-push_input.ensures.input in
    let types : types_on (in_scope scope) ≡ t ∷ types_on (in_scope outer) =
    types_one_more (variable t (new_wires _ input.widths)) (as_variables outer) (as_variables scope) input.bound in (
      under_lambda c.args.base.now Circuit c.args.e.now c.loop-inner.inner.now body t before later outer scope is input c.loop-inner.invariant.0,
      c.push_input.ensures.base ∙ same,
      subst (λ (ts : List TypeTree). BodyReady datas Circuit ts body) (sym types)
          (lambda_ready t body (subst (λ (e : TermTree). BodyReady datas Circuit (types_on (in_scope outer)) e) is ready)).1,
    )

pub returns-clause-ready : goal.returns-clause-ready
returns-clause-ready c =
    let ready = c.loop-inner.invariant.2 in
    body_is_block ready
    (λ l. not_lambda c.inner.inside.head c.in_default.not-Lam
    (subst IsLambda (sym (body_head c.inner.inside.head c.inner.inside.args.items c.loop-inner.inner.now c.inner.view_is ready)) l))
