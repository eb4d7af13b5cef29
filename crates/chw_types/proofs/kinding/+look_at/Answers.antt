use Rattle.std.proofs.Common.{length, arith, sym, ap, ◌∙◌, refl, false, true}
use Rattle.chw_types.specs.TypeView.{tree_of, trees_of}
use Rattle.chw_types.specs.KindFound.{are_kinds}
use Rattle.chw_types.proofs.KindsInLists.{data_found, are_kinds_lengths, args_wrong, args_right, args_all}
use Rattle.chw_types.proofs.kinding.+look_at.Goals as goal

pub returns-then-params-len-clause-kind : goal.returns-then-params-len-clause-kind
returns-then-params-len-clause-kind t c =
    c.no_degree-then-params-len.ensures.kind ∙
    data_found c.args.datas.now (length c.args.domains.now) c.args.scope.now c.in-DataOf.at.number c.in-Some.it.now (trees_of c.in-DataOf.args.items) false c.args.t.now
    (ap tree_of (sym c.in-DataOf.is) ∙ c.t.view_is) c.in-Some.ensures.lookup.0 c.in-Some.ensures.lookup.1
    (are_kinds_lengths _ _ _ c.in-DataOf.args.items c.in-Some.it.now.params
    (λ e. c.if-params-len.true (ap length c.as_slice-params.ensures ∙ e ∙ sym (c.len.ensures ∙ c.in-DataOf.args.ok.0))))

pub loop-i-init : goal.loop-i-init
loop-i-init t c = refl

pub returns-then-not-is_kind-clause-kind : goal.returns-then-not-is_kind-clause-kind
returns-then-not-is_kind-clause-kind t c =
    c.no_degree-then-not-is_kind.ensures.kind ∙
    let same = c.deref-arg-items.ensures.value in
    data_found c.args.datas.now (length c.args.domains.now) c.args.scope.now c.in-DataOf.at.number c.in-Some.it.now (trees_of c.in-DataOf.args.items) false c.args.t.now
    (ap tree_of (sym c.in-DataOf.is) ∙ c.t.view_is) c.in-Some.ensures.lookup.0 c.in-Some.ensures.lookup.1
    ((λ i. are_kinds c.args.datas.now (length c.args.domains.now) c.args.scope.now (trees_of (sym same i)) (sym c.as_slice-params.ensures i))
    ∙ args_wrong _ _ _ c.deref-arg-items.result.now c.as_slice-params.result.now c.loop-i.i c.arg-item.result _ _ _ (omega arith) (omega arith) c.arg-item.is refl
    c.is_kind.ensures c.look_at.ensures.kind c.if-not-is_kind.true c.loop-i.invariant)

pub loop-i-preserved : goal.loop-i-preserved
loop-i-preserved t c =
    args_right _ _ _ c.deref-arg-items.result.now c.as_slice-params.result.now c.loop-i.i c.arg-item.result _ _ _ (omega arith) (omega arith) c.arg-item.is refl
    c.is_kind.ensures c.look_at.ensures.kind c.if-not-is_kind.false c.loop-i.invariant

pub returns-after-loop-i-clause-kind : goal.returns-after-loop-i-clause-kind
returns-after-loop-i-clause-kind t c =
    c.no_degree-in-DataOf.ensures.kind ∙
    let same = c.deref-arg-items.ensures.value in
    data_found c.args.datas.now (length c.args.domains.now) c.args.scope.now c.in-DataOf.at.number c.in-Some.it.now (trees_of c.in-DataOf.args.items) true c.args.t.now
    (ap tree_of (sym c.in-DataOf.is) ∙ c.t.view_is) c.in-Some.ensures.lookup.0 c.in-Some.ensures.lookup.1
    ((λ i. are_kinds c.args.datas.now (length c.args.domains.now) c.args.scope.now (trees_of (sym same i)) (sym c.as_slice-params.ensures i))
    ∙ args_all _ _ _ c.deref-arg-items.result.now c.as_slice-params.result.now c.loop-i.i (omega arith) (omega arith) c.loop-i.invariant)
