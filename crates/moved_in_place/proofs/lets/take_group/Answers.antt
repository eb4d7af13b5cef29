use Rattle.std.proofs.Common.{◌≡◌, ◌∙◌, sym, ap, subst}
use Rattle.chw_terms.specs.declared.term.Head.{Head}
use Rattle.chw_terms.specs.TermTree.{letrec}
use Rattle.chw_terms.specs.TermView.{tree_of, applied, group_of}
use Rattle.rewriting.specs.Shapes.{IsLet}
use Rattle.moved_in_place.proofs.FirstLet.{not_let, let_alone}
use Rattle.moved_in_place.proofs.lets.take_group.Goals as goal

pub unreachable-requires : goal.unreachable-requires
unreachable-requires c = not_let c.head.inside.head c.head.inside.args.items c.in_default.not-LetRec (subst IsLet (sym (c.head.view_is ∙ c.take_term.ensures)) c.requires)

pub returns : goal.returns
returns c =
    let args = c.head.inside.args.items in
    let g = group_of c.in-LetRec.group.items in
    let e = c.in-LetRec.body.value in
    let whole : applied (letrec g e) args ≡ c.args.term.now = ap (λ (h : Head). applied (tree_of h) args) (sym c.in-LetRec.is) ∙ c.head.view_is ∙ c.take_term.ensures in
    sym whole ∙ let_alone g e args (subst IsLet (sym whole) c.requires) ∙ ap (letrec g) (sym c.into_inner.ensures ∙ sym c.replace-put.ensures.after)
