use Rattle.std.proofs.Common.{◌≡◌, ◌∙◌, ap, sym, subst, inl, inr, refl, OnOk, length, [], ◌∷◌, ◌++◌, append_assoc, arith}
use Rattle.std.specs.List.{flat_map}
use Rattle.chw_types.specs.declared.ty.TyNode.{TyNode}
use Rattle.chw_types.specs.Forms.{sort_of}
use Rattle.chw_types.specs.TypeTree.{TypeTree}
use Rattle.chw_types.specs.TypeView.{tree_of}
use Rattle.term_signs.specs.declared.alphabet.Form.TheVariants.{Word, Data, ForAll, OneType, NoTypes}
use Rattle.term_signs.specs.declared.alphabet.Sign.TheVariants.{Of, Number, OfKind, OfSort}
use Rattle.term_signs.specs.TypeSigns.{pair_form, type_signs}
use Rattle.term_signs.proofs.Behind.{then_written, written_next, written_end}
use Rattle.term_signs.proofs.TypesWritten.{one_type, data_written, bound_written}
use Rattle.term_signs.proofs.types.+write_type.Goals as goal

pub returns-in_ok-write_kind-in-Forall : goal.returns-in_ok-write_kind-in-Forall
returns-in_ok-write_kind-in-Forall t c =
    let k = c.in-Forall.kind in
    let u = c.in-Forall.of.value in
    subst (λ xs. OnOk c.write_type-in-Forall.result (c.write_type-in-Forall.new.out.items ≡ xs))
    (then_written c.args.out.now.items _ (Of ForAll ∷ OfKind k ∷ []) _ (type_signs u) (type_signs c.args.ty.now)
    c.in_ok-write_kind-in-Forall.ensures (ap type_signs c.deref.ensures)
    (bound_written k u ∙ ap (λ n. type_signs (tree_of n)) (sym c.in-Forall.is) ∙ ap type_signs c.ty.view_is))
    c.write_type-in-Forall.ensures

pub returns-in_ok-write_type-in-Sum : goal.returns-in_ok-write_type-in-Sum
unfolding type_signs
returns-in_ok-write_type-in-Sum t c =
    let a = c.in-Sum.a.value in
    let b = c.in-Sum.b.value in
    let here : Of (pair_form (tree_of c.ty.inside.node)) ∷ (type_signs a ++ type_signs b) ≡ type_signs (tree_of c.ty.inside.node) =
    elim c.in-Sum.is [
      | inl e ↦ subst (λ (n : TyNode). Of (pair_form (tree_of n)) ∷ (type_signs a ++ type_signs b) ≡ type_signs (tree_of n)) (sym e) refl
      | inr r ↦ elim r [
        | inl e ↦ subst (λ (n : TyNode). Of (pair_form (tree_of n)) ∷ (type_signs a ++ type_signs b) ≡ type_signs (tree_of n)) (sym e) refl
        | inr q ↦ elim q [
          | inl e ↦ subst (λ (n : TyNode). Of (pair_form (tree_of n)) ∷ (type_signs a ++ type_signs b) ≡ type_signs (tree_of n)) (sym e) refl
          | inr p ↦ elim p [
            | inl e ↦ subst (λ (n : TyNode). Of (pair_form (tree_of n)) ∷ (type_signs a ++ type_signs b) ≡ type_signs (tree_of n)) (sym e) refl
            | inr o ↦ subst (λ (n : TyNode). Of (pair_form (tree_of n)) ∷ (type_signs a ++ type_signs b) ≡ type_signs (tree_of n)) (sym o) refl
          ]
        ]
      ]
    ] in
    let whole : Of (pair_form c.args.ty.now) ∷ (type_signs a ++ type_signs b) ≡ type_signs c.args.ty.now =
    subst (λ (u : TypeTree). Of (pair_form u) ∷ (type_signs a ++ type_signs b) ≡ type_signs u) c.ty.view_is here in
    subst (λ xs. OnOk c.write_type-in-Sum-2.result (c.write_type-in-Sum-2.new.out.items ≡ xs))
    ((λ i. c.in_ok-write_type-in-Sum.ensures i ++ type_signs (c.deref-in-Sum-2.ensures i))
    ∙ append_assoc c.push-in-Sum.new.self.items (type_signs c.deref-in-Sum.result.now) (type_signs b)
    ∙ then_written c.args.out.now.items _ (Of c.pair_form.result ∷ []) _ (type_signs a ++ type_signs b) (type_signs c.args.ty.now)
    c.in_ok-push-in-Sum.ensures.items (ap (λ u. type_signs u ++ type_signs b) c.deref-in-Sum.ensures)
    (ap (λ f. Of f ∷ (type_signs a ++ type_signs b)) c.pair_form.ensures ∙ whole))
    c.write_type-in-Sum-2.ensures

pub returns-in_ok-write_sort-in-Unsigned : goal.returns-in_ok-write_sort-in-Unsigned
unfolding type_signs
returns-in_ok-write_sort-in-Unsigned t c =
    let u = c.in-Unsigned.of.value in
    let here : Of Word ∷ OfSort (sort_of (tree_of c.ty.inside.node)) ∷ type_signs u ≡ type_signs (tree_of c.ty.inside.node) =
    elim c.in-Unsigned.is [
      | inl e ↦ subst (λ (n : TyNode). Of Word ∷ OfSort (sort_of (tree_of n)) ∷ type_signs u ≡ type_signs (tree_of n)) (sym e) refl
      | inr r ↦ elim r [
        | inl e ↦ subst (λ (n : TyNode). Of Word ∷ OfSort (sort_of (tree_of n)) ∷ type_signs u ≡ type_signs (tree_of n)) (sym e) refl
        | inr p ↦ subst (λ (n : TyNode). Of Word ∷ OfSort (sort_of (tree_of n)) ∷ type_signs u ≡ type_signs (tree_of n)) (sym p) refl
      ]
    ] in
    let whole : Of Word ∷ OfSort (sort_of c.args.ty.now) ∷ type_signs u ≡ type_signs c.args.ty.now =
    subst (λ (v : TypeTree). Of Word ∷ OfSort (sort_of v) ∷ type_signs u ≡ type_signs v) c.ty.view_is here in
    subst (λ xs. OnOk c.write_type-in-Unsigned.result (c.write_type-in-Unsigned.new.out.items ≡ xs))
    (then_written c.args.out.now.items _ (Of Word ∷ OfSort c.sort_of.result ∷ []) _ (type_signs u) (type_signs c.args.ty.now)
    c.in_ok-write_sort-in-Unsigned.ensures (ap type_signs c.deref-in-Unsigned.ensures)
    (ap (λ s. Of Word ∷ OfSort s ∷ type_signs u) c.sort_of.ensures ∙ whole))
    c.write_type-in-Unsigned.ensures

pub loop-arg-preserved : goal.loop-arg-preserved
loop-arg-preserved t c =
    let x = c.arg-item.result in
    written_next one_type c.deref-arg-items.result.now c.loop-arg.arg-index x c.write_number-in-DataOf.new.out.items c.loop-arg.out.items _ c.loop-arg-test.true c.arg-item.is
    c.loop-arg.invariant
    (c.in_ok-write_type-in-DataOf.ensures
    ∙ then_written c.loop-arg.out.items _ (Of OneType ∷ []) (type_signs x) (type_signs x) (one_type x) c.in_ok-push-in-DataOf.ensures.items refl refl)

pub returns-in_ok-push-in-DataOf-2 : goal.returns-in_ok-push-in-DataOf-2
returns-in_ok-push-in-DataOf-2 t c =
    let d = c.in-DataOf.d.number in
    let items = c.deref-arg-items.result.now in
    let args = c.in-DataOf.args.items in
    let all = c.deref-arg-items.ensures.value in
    let out = c.args.out.now.items in
    c.in_ok-push-in-DataOf-2.ensures.items
    ∙ ap (λ xs. xs ++ Of NoTypes ∷ []) (written_end one_type items c.loop-arg.arg-index c.write_number-in-DataOf.new.out.items c.loop-arg.out.items (omega (arith, c.loop-arg-test.false)) c.loop-arg.invariant)
    ∙ append_assoc c.write_number-in-DataOf.new.out.items (flat_map one_type items) (Of NoTypes ∷ [])
    ∙ then_written out _ (Of Data ∷ Number d ∷ []) (flat_map one_type items ++ Of NoTypes ∷ []) (flat_map one_type args ++ Of NoTypes ∷ []) (type_signs c.args.ty.now)
    c.in_ok-write_number-in-DataOf.ensures (ap (λ ts. flat_map one_type ts ++ Of NoTypes ∷ []) all)
    (data_written d args ∙ ap (λ n. type_signs (tree_of n)) (sym c.in-DataOf.is) ∙ ap type_signs c.ty.view_is)
