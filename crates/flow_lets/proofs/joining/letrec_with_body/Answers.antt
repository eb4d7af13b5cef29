use Rattle.std.proofs.Common.{◌≡◌, ◌∙◌, IfOk, ap, subst, arith}
use Rattle.chw_terms.specs.TermTree.{letrec, size_of}
use Rattle.chw_terms.specs.TermView.{group_of}
use Rattle.chw_terms.proofs.TermLists.{size_of_group}
use Rattle.chw_typing.specs.Groups.{joined}
use Rattle.chw_typing.proofs.GroupLists.{group_joined}
use Rattle.rewriting.specs.Shapes.{shift_group}
use Rattle.flow_lets.proofs.joining.letrec_with_body.Goals as goal

pub returns : goal.returns
returns c =
    let g = group_of c.args.group.now in
    let inner = c.args.inner.now in
    let joins : c.in_ok-joins.joins ≡ size_of (group_of inner.group.now) = omega (arith, c.in_ok-joins.ensures.narrow, size_of_group inner.group.now) in
    let outer = c.in_ok-joined.ensures ∙ ap (λ xs. joined (group_of xs) (shift_group g 0 c.in_ok-joins.joins)) c.new.ensures.items ∙ ap (shift_group g 0) joins in
    let whole : group_of c.append.new.self.items ≡ joined (shift_group g 0 (size_of (group_of inner.group.now))) (group_of inner.group.now) =
    ap group_of c.in_ok-append.ensures.items ∙ group_joined c.in_ok-joined.joined.items c.in_ok-own.own.items ∙ (λ i. joined (outer i) (group_of (c.in_ok-own.ensures i))) in
    subst (λ y. IfOk c.letrec.result (λ e. e ≡ y)) (λ i. letrec (whole i) (c.in_ok-body.ensures i)) c.letrec.ensures
