use Rattle.std.proofs.Common.{◌≡◌, ◌∙◌, sym, ap, subst}
use Rattle.chw_terms.specs.declared.term.Head.{Head}
use Rattle.chw_terms.specs.TermTree.{letrec}
use Rattle.chw_terms.specs.TermView.{tree_of, applied, group_of}
use Rattle.rewriting.specs.Shapes.{IsLet}
use Rattle.moved_in_place.proofs.FirstLet.{not_let, let_alone}
use Rattle.letrec_runs.proofs.lets.take_let.Goals as goal

pub unreachable-requires : goal.unreachable-requires
unreachable-requires c = not_let c.term.inside.head c.term.inside.args.items c.in_default.not-LetRec (subst IsLet (sym c.term.view_is) c.requires)

pub returns : goal.returns
returns c =
    let args = c.term.inside.args.items in
    let g = group_of c.in-LetRec.group.items in
    let e = c.in-LetRec.body.value in
    let whole : applied (letrec g e) args ≡ c.args.term = ap (λ (h : Head). applied (tree_of h) args) (sym c.in-LetRec.is) ∙ c.term.view_is in
    sym whole ∙ let_alone g e args (subst IsLet (sym whole) c.requires) ∙ ap (letrec g) (sym c.into_inner.ensures)
