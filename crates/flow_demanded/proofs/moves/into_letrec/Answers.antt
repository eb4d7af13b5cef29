use Rattle.std.proofs.Common.{◌≡◌, ◌∙◌, IfOk, ap, subst, arith}
use Rattle.chw_terms.specs.TermTree.{letrec, size_of}
use Rattle.chw_terms.specs.TermView.{group_of}
use Rattle.chw_terms.proofs.TermLists.{size_of_group}
use Rattle.flow_demanded.specs.Moves.{on_arg}
use Rattle.flow_demanded.proofs.moves.into_letrec.Goals as goal

pub returns : goal.returns
returns c =
    let of = c.args.of.now in
    let binders : c.in_ok-binders.binders ≡ size_of (group_of of.group.now) = omega (arith, c.in_ok-binders.ensures.narrow, size_of_group of.group.now) in
    let body = c.in_ok-body.ensures ∙ ap (λ n. on_arg c.args.which c.args.args.now c.args.at n of.body.now) binders in
    subst (λ y. IfOk c.letrec.result (λ e. e ≡ y)) (λ i. letrec (group_of (c.in_ok-group.ensures i)) (body i)) c.letrec.ensures
