use Rattle.std.proofs.Common.{◌∙◌, sym, subst, refl, length}
use Rattle.chw_terms.specs.declared.scene.Sort.TheVariants.{Value}
use Rattle.net_built.specs.Circuits.{Ground}
use Rattle.net_ready.specs.Drafts.{Passes, no_pass}
use Rattle.net_ready.specs.Ready.{types_on, BlockReady}
use Rattle.value_build.specs.InScope.{in_scope}
use Rattle.value_build.specs.Passing.{IsPass}
use Rattle.value_build.proofs.Passing.{one_pass_more, fewer_left}
use Rattle.value_build.proofs.passes.module.Goals as goal

pub loop-known-init : goal.loop-known-init
loop-known-init c = record {
  passes = subst (λ known. Passes c.args.base.now (in_scope c.args.scope.now.items) (length c.args.inputs.now) c.args.e.now 0 known) (sym c.new-known.ensures.items) no_pass;
  scope = refl;
  base = refl;
}

pub next_pass-requires : goal.next_pass-requires
next_pass-requires c =
    let so = c.loop-known.invariant in
    subst (λ (g : Ground). BlockReady g.datas Value (types_on (in_scope c.loop-known.scope.items)) c.args.e.now) (sym so.base)
    (subst (λ vs. BlockReady c.args.base.now.datas Value (types_on (in_scope vs)) c.args.e.now) (sym so.scope) c.requires.ready)

pub loop-known-preserved : goal.loop-known-preserved
loop-known-preserved c =
    let so = c.loop-known.invariant in
    let g = c.args.base.now in
    let scope = in_scope c.args.scope.now.items in
    let inputs = c.args.inputs.now in
    let e = c.args.e.now in
    let it = c.in_ok-built.field-0 in
    let given = c.deref.result.now in
    let change = subst (λ p. IsPass g c.loop-known.known.items scope inputs e p) c.in-Changed.is
    (subst (λ ks. IsPass g ks scope inputs e it) c.deref.ensures.value
    (subst (λ vs. IsPass g given (in_scope vs) inputs e it) so.scope
    (subst (λ (k : Ground). IsPass k given (in_scope c.loop-known.scope.items) inputs e it) so.base c.in_ok-built.ensures.pass))) in record {
      passes = one_pass_more g scope (length inputs) e c.loop-known.passes c.in_ok-passes.passes c.loop-known.known.items c.in-Changed.found.items so.passes change c.in_ok-passes.ensures;
      scope = c.in_ok-built.ensures.scope ∙ so.scope;
      base = c.next_pass.ensures.base ∙ so.base;
    }

pub loop-known-smaller : goal.loop-known-smaller
loop-known-smaller c =
    let so = c.loop-known.invariant in
    let g = c.args.base.now in
    let scope = in_scope c.args.scope.now.items in
    let inputs = c.args.inputs.now in
    let e = c.args.e.now in
    let it = c.in_ok-built.field-0 in
    let given = c.deref.result.now in
    let change = subst (λ p. IsPass g c.loop-known.known.items scope inputs e p) c.in-Changed.is
    (subst (λ ks. IsPass g ks scope inputs e it) c.deref.ensures.value
    (subst (λ vs. IsPass g given (in_scope vs) inputs e it) so.scope
    (subst (λ (k : Ground). IsPass k given (in_scope c.loop-known.scope.items) inputs e it) so.base c.in_ok-built.ensures.pass))) in
    let found = c.in-Changed.found.items in
    fewer_left c.passes_are_few.ensures g scope (length inputs) e c.loop-known.passes c.in_ok-passes.passes found c.requires.free
    (one_pass_more g scope (length inputs) e c.loop-known.passes c.in_ok-passes.passes c.loop-known.known.items found so.passes change c.in_ok-passes.ensures) c.in_ok-passes.ensures

pub returns-in-Settled-clause-module : goal.returns-in-Settled-clause-module
returns-in-Settled-clause-module c =
    let so = c.loop-known.invariant in
    let g = c.args.base.now in
    let scope = in_scope c.args.scope.now.items in
    let inputs = c.args.inputs.now in
    let e = c.args.e.now in
    let it = c.in_ok-built.field-0 in
    let given = c.deref.result.now in
    subst (λ p. IsPass g given scope inputs e p) c.in-Settled.is
    (subst (λ vs. IsPass g given (in_scope vs) inputs e it) so.scope
    (subst (λ (k : Ground). IsPass k given (in_scope c.loop-known.scope.items) inputs e it) so.base c.in_ok-built.ensures.pass))

pub returns-in-Settled-clause-base : goal.returns-in-Settled-clause-base
returns-in-Settled-clause-base c = c.next_pass.ensures.base ∙ c.loop-known.invariant.base
