use Rattle.chw_prims.specs.declared.prim.Primitive.TheVariants.{Pure}
use Rattle.chw_terms.specs.TermTree.{prim}
use Rattle.chw_terms.specs.TermView.{tree_of, applied}
use Rattle.chw_typing.specs.Given.{types_then}
use Rattle.std.proofs.Common.{◌≡◌, ◌∙◌, ap, sym, true, false, [], ◌∷◌}
use Rattle.work_signals.proofs.Seen.{no_prim, one_prim, constant_seen}
use Rattle.work_signals.proofs.views.as_pure.Goals as goal

pub returns-in_default : goal.returns-in_default
returns-in_default c = λ d a v e.
    no_prim Pure c.term.inside.head c.term.inside.args.items (types_then (d ∷ a ∷ []) (v ∷ []))
    (c.in_default.ensures Pure) (c.term.view_is ∙ e)

pub returns-then-is_pure : goal.returns-then-is_pure
returns-then-is_pure c =
    let h = c.term.inside.head in
    let args = c.deref.result.now in
    let same = c.is_pure.ensures.0 c.if-is_pure.true in
    let whole : applied (tree_of h) args ≡ c.args.term.now =
    ap (applied (tree_of h)) c.deref.ensures.value ∙ c.term.view_is in
    constant_seen Pure h args c.args.term.now c.as_constant.result
    (c.in-Some.ensures ∙ ap (λ p. prim p) same) whole c.as_constant.ensures

pub returns-else-is_pure : goal.returns-else-is_pure
returns-else-is_pure c = λ d a v e.
    no_prim Pure c.term.inside.head c.term.inside.args.items (types_then (d ∷ a ∷ []) (v ∷ []))
    (λ is.
    let same = one_prim c.in-Some.which Pure (tree_of c.term.inside.head) c.in-Some.ensures is in
    let no : false ≡ true = sym c.if-is_pure.false ∙ c.is_pure.ensures.1 same in
    absurd cc)
    (c.term.view_is ∙ e)
