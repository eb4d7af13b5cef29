use Rattle.std.proofs.Common.{List, ◌≡◌, ◌-◌, refl, ap, sym, subst, ◌∙◌, nat_eq, eq-eqb}
use Rattle.std.proofs.lemmas.Bool.{eqb-true}
use Rattle.chw_check.proofs.PortsLead.{LeadAlike, alike_passed, not_passed, ends, ends_at_none, no_function}
use Rattle.chw_check.proofs.ports.leads_by.Goals as goal
use Rattle.chw_check.specs.Counting.{HasLeaves, HasMoreLeaves}
use Rattle.chw_types.specs.declared.declarations.Data.{Data}
use Rattle.chw_types.specs.TypeTree.{TypeTree, fun}
use Rattle.chw_types.specs.TypeView.{tree_of}

pub returns-in_default-2 : goal.returns-in_default-2
returns-in_default-2 c =
    let form : c.loop-rest.rest.now ≡ fun c.in-Fun.from.value c.in-Fun.to.value = sym c.rest.view_is ∙ ap tree_of c.in-Fun.is in
    let alike = rw form at c.loop-rest.invariant.1 in
    let more = subst (λ (ds : List Data). HasMoreLeaves ds c.deref.result.now c.loop-rest.left) c.loop-rest.invariant.0 (rw c.in_default-2.is at c.in_ok-count.ensures.count) in
    not_passed c.args.table.now c.args.ty.now c.in-Fun.from.value c.in-Fun.to.value c.args.inputs c.loop-rest.left c.args.outputs alike
    (subst (λ t. HasMoreLeaves c.args.table.now t c.loop-rest.left) c.deref.ensures more)

pub loop-rest-preserved : goal.loop-rest-preserved
loop-rest-preserved c =
    let form : c.loop-rest.rest.now ≡ fun c.in-Fun.from.value c.in-Fun.to.value = sym c.rest.view_is ∙ ap tree_of c.in-Fun.is in
    let alike = rw form at c.loop-rest.invariant.1 in
    let found = rw c.in-Some.is at c.in_ok-count.ensures.count in
    let many = subst (λ (ds : List Data). HasLeaves ds c.deref.result.now c.in-Some.count) c.loop-rest.invariant.0 found.0 in (
      c.in_ok-count.ensures.same ∙ c.loop-rest.invariant.0,
      subst (λ t. LeadAlike c.args.table.now c.args.ty.now t c.args.inputs (c.loop-rest.left - c.in-Some.count) c.args.outputs) (sym c.deref-rest.ensures)
          (alike_passed c.args.table.now c.args.ty.now c.in-Fun.from.value c.in-Fun.to.value c.args.inputs c.loop-rest.left (c.loop-rest.left - c.in-Some.count) c.args.outputs c.in-Some.count
          (subst (λ t. HasLeaves c.args.table.now t c.in-Some.count) c.deref.ensures many) found.1 refl alike),
    )

pub returns-then-left-eq0 : goal.returns-then-left-eq0
returns-then-left-eq0 c =
    let other = subst (λ t. (a b : TypeTree) → t ≡ fun a b → ⊥) c.rest.view_is (no_function c.rest.inside.node c.in_default.not-Fun) in
    let many = rw c.in-Some-2.is at c.in_ok-count-2.ensures.count in
    let found = subst (λ (ds : List Data). HasLeaves ds c.loop-rest.rest.now c.in-Some-2.count) c.loop-rest.invariant.0 many.0 in
    ends c.args.table.now c.args.ty.now c.loop-rest.rest.now c.args.inputs c.loop-rest.left c.args.outputs c.in-Some-2.count (nat_eq c.in-Some-2.count c.args.outputs) other found c.loop-rest.invariant.1
    (λ t. (c.if-left-eq0.true, eqb-true c.in-Some-2.count c.args.outputs t)) (λ f e g. absurd (let t = eq-eqb c.in-Some-2.count c.args.outputs g in cc))

pub returns-else-left-eq0 : goal.returns-else-left-eq0
returns-else-left-eq0 c =
    let other = subst (λ t. (a b : TypeTree) → t ≡ fun a b → ⊥) c.rest.view_is (no_function c.rest.inside.node c.in_default.not-Fun) in
    let many = rw c.in-Some-2.is at c.in_ok-count-2.ensures.count in
    let found = subst (λ (ds : List Data). HasLeaves ds c.loop-rest.rest.now c.in-Some-2.count) c.loop-rest.invariant.0 many.0 in
    ends c.args.table.now c.args.ty.now c.loop-rest.rest.now c.args.inputs c.loop-rest.left c.args.outputs c.in-Some-2.count (nat_eq c.loop-rest.left 0) other found c.loop-rest.invariant.1
    (λ t. absurd (c.if-left-eq0.false (eqb-true c.loop-rest.left 0 t))) (λ f e g. c.if-left-eq0.false e)

pub returns-in-None : goal.returns-in-None
returns-in-None c =
    let other = subst (λ t. (a b : TypeTree) → t ≡ fun a b → ⊥) c.rest.view_is (no_function c.rest.inside.node c.in_default.not-Fun) in
    let more = subst (λ (ds : List Data). HasMoreLeaves ds c.loop-rest.rest.now c.args.outputs) c.loop-rest.invariant.0 (rw c.in-None.is at c.in_ok-count-2.ensures.count) in
    ends_at_none c.args.table.now c.args.ty.now c.loop-rest.rest.now c.args.inputs c.loop-rest.left c.args.outputs other more c.loop-rest.invariant.1
