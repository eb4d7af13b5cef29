use Rattle.std.proofs.Common.{◌≡◌, ◌++◌, ◌∷◌, [], inl, inr, Some, refl, sym, ap, ◌∙◌, subst, take}
use Rattle.std.specs.List.{slice_get}
use Rattle.chw_types.specs.TypeTree.{TypeTree, data_of, scalar, for_all}
use Rattle.chw_types.specs.TypeView.{tree_of, trees_of}
use Rattle.chw_types.specs.declared.ty.TyNode.{TyNode}
use Rattle.type_numbers.specs.Nodes.{pair, pair_of, sort_of}
use Rattle.type_numbers.proofs.Forms.{applied_node, next_taken}
use Rattle.type_numbers.proofs.Nodes.{grows_on}
use Rattle.type_numbers.proofs.table.TypeTable.+put.Goals as goal

pub put_node-requires-in-loop-arg : goal.put_node-requires-in-loop-arg
put_node-requires-in-loop-arg t c =
    let d = c.in-DataOf.at.number in
    let items = c.deref-arg-items.result.now in
    let is : data_of d (trees_of items) ≡ c.args.ty.now =
    ap (λ ts. data_of d (trees_of ts)) c.deref-arg-items.ensures.value ∙ ap tree_of (sym c.in-DataOf.is) ∙ c.ty.view_is in (
      data_of d (trees_of (take c.loop-arg.arg-index items ++ c.arg-item.result ∷ [])),
      applied_node c.loop-arg.self c.put.new.self d c.loop-arg.done c.in_ok-next-in-DataOf.next (take c.loop-arg.arg-index items) c.arg-item.result
          (c.loop-arg.invariant.0 d is) c.put.ensures.grown c.in_ok-next-in-DataOf.ensures.number,
    )

pub loop-arg-preserved : goal.loop-arg-preserved
loop-arg-preserved t c =
    let items = c.deref-arg-items.result.now in
    let i = c.loop-arg.arg-index in
    let u = c.arg-item.result in
    let new = c.put_node-in-loop-arg.new.self in
    let done = c.in_ok-done-in-DataOf-2.done in
    let grown = grows_on c.args.self.now c.loop-arg.self c.put.new.self c.loop-arg.invariant.1 c.put.ensures.grown in (
      λ d is. subst (λ ts. slice_get new done ≡ Some (data_of d (trees_of ts))) (sym (next_taken items i u _ c.loop-arg-test.true c.arg-item.is))
          (c.in_ok-done-in-DataOf-2.ensures.number (data_of d (trees_of (take i items ++ u ∷ [])))
          (applied_node c.loop-arg.self c.put.new.self d c.loop-arg.done c.in_ok-next-in-DataOf.next (take i items) u
          (c.loop-arg.invariant.0 d is) c.put.ensures.grown c.in_ok-next-in-DataOf.ensures.number)),
      grows_on c.args.self.now c.put.new.self new grown c.put_node-in-loop-arg.ensures.grown,
    )

pub put_node-requires-in-Forall : goal.put_node-requires-in-Forall
put_node-requires-in-Forall t c =
    let u = c.deref.result.now in
    (for_all c.in-Forall.kind u, (u, c.in_ok-of-in-Forall.ensures.number, refl))

pub returns-in_ok-put_node-in-Forall-clause-number : goal.returns-in_ok-put_node-in-Forall-clause-number
returns-in_ok-put_node-in-Forall-clause-number t c =
    let is : for_all c.in-Forall.kind c.deref.result.now ≡ c.args.ty.now =
    ap (for_all c.in-Forall.kind) c.deref.ensures ∙ ap tree_of (sym c.in-Forall.is) ∙ c.ty.view_is in
    c.in_ok-put_node-in-Forall.ensures.number c.args.ty.now (c.deref.result.now, c.in_ok-of-in-Forall.ensures.number, sym is)

pub put_node-requires-in-Sum : goal.put_node-requires-in-Sum
put_node-requires-in-Sum t c =
    let a = c.deref-in-Sum.result.now in
    let b = c.deref-in-Sum-2.result.now in (
      pair c.pair_of.result a b,
      (a, b, c.put-in-Sum-2.ensures.grown c.in_ok-a-in-Sum.a a c.in_ok-a-in-Sum.ensures.number, c.in_ok-b-in-Sum.ensures.number, refl),
    )

pub returns-in_ok-put_node-in-Sum-clause-number : goal.returns-in_ok-put_node-in-Sum-clause-number
returns-in_ok-put_node-in-Sum-clause-number t c =
    let a = c.deref-in-Sum.result.now in
    let b = c.deref-in-Sum-2.result.now in
    let v = c.in-Sum.a.value in
    let w = c.in-Sum.b.value in
    let here : pair (pair_of (tree_of c.ty.inside.node)) v w ≡ tree_of c.ty.inside.node =
    elim c.in-Sum.is [
      | inl e ↦ subst (λ (n : TyNode). pair (pair_of (tree_of n)) v w ≡ tree_of n) (sym e) refl
      | inr r ↦ elim r [
        | inl e ↦ subst (λ (n : TyNode). pair (pair_of (tree_of n)) v w ≡ tree_of n) (sym e) refl
        | inr q ↦ elim q [
          | inl e ↦ subst (λ (n : TyNode). pair (pair_of (tree_of n)) v w ≡ tree_of n) (sym e) refl
          | inr p ↦ elim p [
            | inl e ↦ subst (λ (n : TyNode). pair (pair_of (tree_of n)) v w ≡ tree_of n) (sym e) refl
            | inr o ↦ subst (λ (n : TyNode). pair (pair_of (tree_of n)) v w ≡ tree_of n) (sym o) refl
          ]
        ]
      ]
    ] in
    let there : pair (pair_of c.args.ty.now) v w ≡ c.args.ty.now = subst (λ (u : TypeTree). pair (pair_of u) v w ≡ u) c.ty.view_is here in
    let is : pair c.pair_of.result a b ≡ c.args.ty.now = (λ i. pair (c.pair_of.ensures i) (c.deref-in-Sum.ensures i) (c.deref-in-Sum-2.ensures i)) ∙ there in
    c.in_ok-put_node-in-Sum.ensures.number c.args.ty.now
    (a, b, c.put-in-Sum-2.ensures.grown c.in_ok-a-in-Sum.a a c.in_ok-a-in-Sum.ensures.number, c.in_ok-b-in-Sum.ensures.number, sym is)

pub put_node-requires-in-Unsigned : goal.put_node-requires-in-Unsigned
put_node-requires-in-Unsigned t c =
    let w = c.deref-in-Unsigned.result.now in
    (scalar c.sort_of.result w, (w, c.in_ok-w-in-Unsigned.ensures.number, refl))

pub returns-in_ok-put_node-in-Unsigned-clause-number : goal.returns-in_ok-put_node-in-Unsigned-clause-number
returns-in_ok-put_node-in-Unsigned-clause-number t c =
    let w = c.in-Unsigned.w.value in
    let here : scalar (sort_of (tree_of c.ty.inside.node)) w ≡ tree_of c.ty.inside.node =
    elim c.in-Unsigned.is [
      | inl e ↦ subst (λ (n : TyNode). scalar (sort_of (tree_of n)) w ≡ tree_of n) (sym e) refl
      | inr r ↦ elim r [
        | inl e ↦ subst (λ (n : TyNode). scalar (sort_of (tree_of n)) w ≡ tree_of n) (sym e) refl
        | inr p ↦ subst (λ (n : TyNode). scalar (sort_of (tree_of n)) w ≡ tree_of n) (sym p) refl
      ]
    ] in
    let there : scalar (sort_of c.args.ty.now) w ≡ c.args.ty.now = subst (λ (u : TypeTree). scalar (sort_of u) w ≡ u) c.ty.view_is here in
    let is : scalar c.sort_of.result c.deref-in-Unsigned.result.now ≡ c.args.ty.now = (λ i. scalar (c.sort_of.ensures i) (c.deref-in-Unsigned.ensures i)) ∙ there in
    c.in_ok-put_node-in-Unsigned.ensures.number c.args.ty.now (c.deref-in-Unsigned.result.now, c.in_ok-w-in-Unsigned.ensures.number, sym is)
