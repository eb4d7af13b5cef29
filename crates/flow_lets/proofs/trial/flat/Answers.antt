use Rattle.std.proofs.Common.{sym, subst, Some}
use Rattle.chw_terms.specs.TermTree.{letrec}
use Rattle.chw_terms.specs.TermView.{group_of}
use Rattle.flow_lets.specs.Flat.{AnswersLetrec}
use Rattle.flow_lets.proofs.Flat.{of_side, of_body, of_none}
use Rattle.flow_lets.proofs.trial.flat.Goals as goal

pub returns-in-Some : goal.returns-in-Some
returns-in-Some c =
    let g = group_of c.args.group.now in
    let parts = c.in-Some.parts in
    subst (λ e. AnswersLetrec (letrec g c.args.body.now) (Some e)) (sym c.in_ok-letrec_with_side.ensures)
    (of_side g (group_of parts.front.now) parts.ty.now (group_of parts.inner.group.now) parts.inner.body.now (group_of parts.back.now) c.args.body.now c.in-Some.ensures.some)

pub returns-in_default-as_letrec : goal.returns-in_default-as_letrec
returns-in_default-as_letrec c = of_none (group_of c.args.group.now) c.args.body.now c.in_default.ensures.none c.in_default-as_letrec.ensures.none

pub returns : goal.returns
returns c =
    let g = group_of c.args.group.now in
    let inner = c.in-Some-as_letrec.inner in
    subst (λ e. AnswersLetrec (letrec g c.args.body.now) (Some e)) (sym c.in_ok-letrec_with_body.ensures)
    (of_body g (group_of inner.group.now) inner.body.now c.args.body.now c.in_default.ensures.none c.in-Some-as_letrec.ensures.some)
