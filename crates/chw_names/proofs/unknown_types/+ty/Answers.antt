use Rattle.std.proofs.Common.{◌≡◌, ℕ, List, ◌∷◌, inl, inr, ap, ◌∙◌, sym, arith}
use Rattle.std.proofs.lemmas.Result.{on_ok_weaker}
use Rattle.chw_grammar.specs.declared.type_tree.TypeNode.{TypeNode}
use Rattle.chw_grammar.specs.TypeTree.{type_forall, type_arrow, type_named, type_variable}
use Rattle.chw_grammar.specs.TypeView.{type_of, types_of}
use Rattle.chw_names.specs.Unknowns.{type_unknowns, types_unknowns}
use Rattle.chw_names.proofs.Sizes.{type_smaller}
use Rattle.chw_names.proofs.UnknownTypes.{forall_walks, arrow_walks, parts_walk, named_walks, variable_walks}
use Rattle.chw_names.proofs.Walking.{walks_more, walks_all}
use Rattle.chw_names.proofs.unknown_types.+ty.Goals as goal

pub ty-returns-in_ok-ty-in-Forall : goal.ty-returns-in_ok-ty-in-Forall
ty-returns-in_ok-ty-in-Forall t c =
    let body = c.deref.result.now in
    let whole : type_forall c.in-Forall.variable c.in-Forall.field-1 body ≡ c.args.tree.now = rw c.deref.ensures (ap type_of (sym c.in-Forall.is) ∙ c.tree.view_is) in
    forall_walks c.args.globals.now c.in-Forall.variable c.in-Forall.field-1 body whole (c.in_ok-bind-in-Forall.ensures.bound ∙ ap (λ (n : List ℕ). n ∷ c.args.types.now) c.as_slice.ensures) c.in_ok-ty-in-Forall.ensures c.unbind.ensures

pub ty-returns-in_ok-ty-in-Arrow : goal.ty-returns-in_ok-ty-in-Arrow
ty-returns-in_ok-ty-in-Arrow t c =
    let whole : type_arrow c.deref-in-Arrow.result.now c.deref-in-Arrow-2.result.now ≡ c.args.tree.now = rw (c.deref-in-Arrow.ensures, c.deref-in-Arrow-2.ensures) (ap type_of (sym c.in-Arrow.is) ∙ c.tree.view_is) in
    on_ok_weaker c.ty-in-Arrow-2.result (arrow_walks c.args.globals.now c.deref-in-Arrow.result.now c.deref-in-Arrow-2.result.now whole c.in_ok-ty-in-Arrow.ensures) c.ty-in-Arrow-2.ensures

pub ty-returns-in-Named : goal.ty-returns-in-Named
ty-returns-in-Named t c =
    let ts = c.as_slice-in-Named.result.now in
    let whole : type_named c.in-Named.word (types_of ts) ≡ c.args.tree.now = rw c.as_slice-in-Named.ensures.value (ap type_of (sym c.in-Named.is) ∙ c.tree.view_is) in
    on_ok_weaker c.each_ty.result (named_walks c.args.globals.now c.in-Named.word ts whole c.named.ensures) c.each_ty.ensures

pub ty-returns-in-Sum : goal.ty-returns-in-Sum
ty-returns-in-Sum t c =
    let g = c.args.globals.now in
    let variables = c.args.types.now in
    let here : types_unknowns g variables (types_of c.in-Sum.parts.items) ≡ type_unknowns g variables (type_of c.tree.inside.node) =
    elim c.in-Sum.is [
      | inl e ↦ ap (λ (n : TypeNode). type_unknowns g variables (type_of n)) (sym e)
      | inr p ↦ ap (λ (n : TypeNode). type_unknowns g variables (type_of n)) (sym p)
    ] in
    on_ok_weaker c.each_ty-in-Sum.result
    (parts_walk g c.as_slice-in-Sum.result.now c.args.tree.now
    (ap (λ items. types_unknowns g variables (types_of items)) c.as_slice-in-Sum.ensures.value ∙ here ∙ ap (type_unknowns g variables) c.tree.view_is))
    c.each_ty-in-Sum.ensures

pub ty-returns-in-Variable : goal.ty-returns-in-Variable
ty-returns-in-Variable t c =
    let whole : type_variable c.in-Variable.word ≡ c.args.tree.now = ap type_of (sym c.in-Variable.is) ∙ c.tree.view_is in
    variable_walks c.args.globals.now c.in-Variable.word c.args.types.now whole c.variable.ensures

pub each_ty-ty-requires : goal.each_ty-ty-requires
each_ty-ty-requires t c = (omega (arith, c.decreases, type_smaller c.args.trees.now c.loop-tree.tree-index c.tree-item.result _ c.loop-tree-test.true c.tree-item.is), tt)

pub each_ty-loop-tree-preserved : goal.each_ty-loop-tree-preserved
each_ty-loop-tree-preserved t c =
    walks_more (type_unknowns c.args.globals.now) c.args.trees.now c.loop-tree.tree-index c.tree-item.result c.loop-tree-test.true c.tree-item.is c.loop-tree.invariant c.in_ok-ty.ensures

pub each_ty-returns : goal.each_ty-returns
each_ty-returns t c = walks_all (type_unknowns c.args.globals.now c.args.types.now) c.args.trees.now c.loop-tree.tree-index (omega (arith, c.loop-tree-test.false)) c.loop-tree.invariant
