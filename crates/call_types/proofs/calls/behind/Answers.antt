use Rattle.std.proofs.Common.{◌≡◌, List, ◌∷◌, Some, None, drop, sym, ap, ◌∙◌, ◌+◌}
use Rattle.std.proofs.lemmas.List.{drop_more}
use Rattle.chw_types.specs.TypeTree.{TypeTree}
use Rattle.chw_terms.specs.declared.term.Arg.{Arg}
use Rattle.chw_terms.specs.declared.term.Arg.TheVariants.{OfTerm}
use Rattle.call_types.specs.CallTypes.{given, given_by_each}
use Rattle.call_types.proofs.Heads.{no_function, nothing_given}
use Rattle.call_types.proofs.calls.behind.Goals as goal

pub returns-in_default-node : goal.returns-in_default-node
returns-in_default-node c =
    let i = c.loop-arg.arg-index in
    let args = c.args.args.now in
    let t = c.loop-arg.left.now in
    let rest = drop (i + 1) args in
    let first : drop i args ≡ OfTerm c.in-OfTerm.field-0 ∷ rest =
    drop_more args i c.arg-item.result c.loop-arg-test.true
    ∙ ap (λ (a : Arg). a ∷ rest) (sym c.arg-item.is ∙ c.in-OfTerm.is) in
    let none : given (Some t) ≡ None =
    ap (λ (t : TypeTree). given (Some t)) (sym c.left.view_is) ∙ no_function c.left.inside.node c.in_default-node.not-Fun in
    sym (c.loop-arg.invariant
    ∙ ap (λ (more : List Arg). given_by_each (Some t) more) first
    ∙ ap (λ o. given_by_each o rest) none
    ∙ nothing_given rest)
