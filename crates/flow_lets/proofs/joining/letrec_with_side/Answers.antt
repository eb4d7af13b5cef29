use Rattle.std.proofs.Common.{◌≡◌, ◌∙◌, IfOk, suc, subst, arith}
use Rattle.chw_terms.specs.TermMoves.{shift}
use Rattle.chw_terms.specs.TermTree.{letrec, size_of}
use Rattle.chw_terms.specs.TermView.{group_of}
use Rattle.chw_terms.proofs.TermLists.{size_of_group}
use Rattle.flow_lets.proofs.joining.letrec_with_side.Goals as goal

pub side_group-requires-clause-joins : goal.side_group-requires-clause-joins
side_group-requires-clause-joins c = omega (arith, c.in_ok-joins.ensures.narrow, size_of_group c.args.parts.now.inner.group.now)

pub side_group-requires-clause-own : goal.side_group-requires-clause-own
side_group-requires-clause-own c = omega (arith, c.in_ok-own.ensures.narrow, size_of_group c.args.parts.now.back.now)

pub returns : goal.returns
returns c =
    let parts = c.args.parts.now in
    let joins : c.in_ok-joins.joins ≡ size_of (group_of parts.inner.group.now) = omega (arith, c.in_ok-joins.ensures.narrow, size_of_group parts.inner.group.now) in
    let own : c.in_ok-own.own ≡ suc (size_of (group_of parts.back.now)) = omega (arith, c.in_ok-own.ensures.narrow, size_of_group parts.back.now) in
    let body = c.in_ok-body.ensures ∙ (λ i. shift c.args.body.now (own i) (joins i)) in
    subst (λ y. IfOk c.letrec.result (λ e. e ≡ y)) (λ i. letrec (c.in_ok-group.ensures i) (body i)) c.letrec.ensures
