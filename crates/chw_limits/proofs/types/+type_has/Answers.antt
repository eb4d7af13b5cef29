use Rattle.std.proofs.Common.{◌≡◌, ap, ◌∙◌, sym, arith, inl, inr}
use Rattle.chw_grammar.specs.declared.type_tree.TypeNode.{TypeNode}
use Rattle.chw_grammar.specs.TypeView.{type_of, types_of}
use Rattle.chw_limits.specs.Parts.{type_has, types_have}
use Rattle.chw_limits.specs.Sought.{tests_of}
use Rattle.chw_limits.proofs.Lists.{found, none_of_all, types_any}
use Rattle.chw_limits.proofs.types.+type_has.Goals as goal

pub returns-then-type_has-2 : goal.returns-then-type_has-2
returns-then-type_has-2 t c =
    let tests = tests_of c.args.sought in
    let ts = c.deref-part-items.result.now in
    let here : types_have tests (types_of c.in-Sum.parts.items) ≡ type_has tests (type_of c.ty.inside.node) =
    elim c.in-Sum.is [
      | inl e ↦ ap (λ (n : TypeNode). type_has tests (type_of n)) (sym e)
      | inr r ↦ elim r [
        | inl e ↦ ap (λ (n : TypeNode). type_has tests (type_of n)) (sym e)
        | inr p ↦ ap (λ (n : TypeNode). type_has tests (type_of n)) (sym p.1)
      ]
    ] in
    sym (found (type_has tests) ts c.loop-part.part-index c.part-item.result c.loop-part-test.true c.part-item.is (sym c.type_has-in-loop-part.ensures ∙ c.if-type_has-2.true))
    ∙ sym (types_any tests ts) ∙ ap (λ items. types_have tests (types_of items)) c.deref-part-items.ensures.value ∙ here ∙ ap (type_has tests) c.ty.view_is

pub returns-after-loop-part : goal.returns-after-loop-part
returns-after-loop-part t c =
    let tests = tests_of c.args.sought in
    let ts = c.deref-part-items.result.now in
    let here : types_have tests (types_of c.in-Sum.parts.items) ≡ type_has tests (type_of c.ty.inside.node) =
    elim c.in-Sum.is [
      | inl e ↦ ap (λ (n : TypeNode). type_has tests (type_of n)) (sym e)
      | inr r ↦ elim r [
        | inl e ↦ ap (λ (n : TypeNode). type_has tests (type_of n)) (sym e)
        | inr p ↦ ap (λ (n : TypeNode). type_has tests (type_of n)) (sym p.1)
      ]
    ] in
    sym (none_of_all (type_has tests) ts c.loop-part.part-index (omega (arith, c.loop-part-test.false)) c.loop-part.invariant)
    ∙ sym (types_any tests ts) ∙ ap (λ items. types_have tests (types_of items)) c.deref-part-items.ensures.value ∙ here ∙ ap (type_has tests) c.ty.view_is
