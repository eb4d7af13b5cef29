use Rattle.std.proofs.Common.{◌≡◌, ◌∙◌, ap, sym, subst, refl}
use Rattle.chw_terms.specs.declared.scene.Sort.TheVariants.{Value}
use Rattle.chw_terms.specs.TermTree.{lam}
use Rattle.chw_terms.specs.TermView.{tree_of}
use Rattle.net_built.specs.Circuits.{Ground}
use Rattle.net_built.specs.Loops.{HasNoLoops}
use Rattle.net_ready.specs.Ready.{types_on, BodyReady}
use Rattle.value_build.specs.Bodies.{IsInput}
use Rattle.value_build.specs.InScope.{in_scope}
use Rattle.value_build.specs.ReadyParts.{IsMeasured}
use Rattle.value_build.proofs.Lambdas.{under_lambda, under_none}
use Rattle.value_build.proofs.Ready.{body_args, body_block, input_types, lambda_body, lambda_measured}
use Rattle.value_build.proofs.Spines.{bare_is}
use Rattle.value_build.proofs.bodies.inputs.Goals as goal

pub loop-inner-init : goal.loop-inner-init
loop-inner-init c = record {
  under = under_none c.args.base.now Value c.args.e.now c.args.inputs.now.items c.args.scope.now.items c.requires.none.1 c.requires.none.0;
  base = refl;
  ready = subst (λ vs. BodyReady c.args.base.now.datas Value (types_on (in_scope vs)) c.args.e.now) (sym c.requires.none.0) c.requires.ready;
  free = c.requires.free;
}

pub push_input-requires : goal.push_input-requires
push_input-requires c =
    let so = c.loop-inner.invariant in
    let args = c.inner.inside.args in
    let none = body_args c.inner.inside.head args.items c.loop-inner.inner.now c.inner.view_is so.ready in
    let is : c.loop-inner.inner.now ≡ lam c.in-Lam.t c.in-Lam.body.value =
    sym c.inner.view_is ∙ bare_is (tree_of c.inner.inside.head) args.items none ∙ ap tree_of c.in-Lam.is in
    subst (λ (g : Ground). IsMeasured g.datas c.in-Lam.t) (sym so.base)
    (lambda_measured (subst (BodyReady c.args.base.now.datas Value (types_on (in_scope c.loop-inner.scope.items))) is so.ready))

pub loop-inner-preserved : goal.loop-inner-preserved
loop-inner-preserved c =
    let so = c.loop-inner.invariant in
    let args = c.inner.inside.args in
    let t = c.in-Lam.t in
    let before = c.loop-inner.inputs.items in
    let later = c.push_input.new.inputs.items in
    let outer = c.loop-inner.scope.items in
    let scope = c.push_input.new.scope.items in
    let none = body_args c.inner.inside.head args.items c.loop-inner.inner.now c.inner.view_is so.ready in
    let is : c.loop-inner.inner.now ≡ lam t c.deref-inner.result.now =
    sym c.inner.view_is ∙ bare_is (tree_of c.inner.inside.head) args.items none ∙ ap tree_of c.in-Lam.is
    ∙ ap (lam t) (sym c.deref-inner.ensures) in
    let input = subst (λ (g : Ground). IsInput g Value t before later outer scope) so.base c.in_ok-push_input.ensures.input in
    record {
      under = under_lambda c.args.base.now Value c.args.e.now c.loop-inner.inner.now c.deref-inner.result.now t before later outer scope is input so.under;
      base = c.push_input.ensures.base ∙ so.base;
      ready = subst (λ ts. BodyReady c.args.base.now.datas Value ts c.deref-inner.result.now) (sym (input_types c.args.base.now t before later outer scope input))
          (lambda_body (subst (BodyReady c.args.base.now.datas Value (types_on (in_scope outer))) is so.ready));
      free = subst HasNoLoops is so.free;
    }

pub returns-clause-ready : goal.returns-clause-ready
returns-clause-ready c =
    let so = c.loop-inner.invariant in
    let types = types_on (in_scope c.loop-inner.scope.items) in
    body_block c.inner.inside.head c.inner.inside.args.items c.loop-inner.inner.now c.inner.view_is so.ready c.in_default.not-Lam

pub returns-clause-under : goal.returns-clause-under
returns-clause-under c = c.loop-inner.invariant.under

pub returns-clause-free : goal.returns-clause-free
returns-clause-free c = c.loop-inner.invariant.free
