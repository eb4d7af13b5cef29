use Rattle.std.proofs.Common.{◌≡◌, ◌∙◌, IfOk, ap, subst}
use Rattle.chw_terms.specs.TermView.{group_of}
use Rattle.chw_typing.specs.Groups.{joined}
use Rattle.rewriting.specs.Shapes.{shift_group}
use Rattle.flow_lets.proofs.OneGroup.{side_is}
use Rattle.flow_lets.proofs.joining.side_group.Goals as goal

pub returns : goal.returns
returns c =
    let parts = c.args.parts.now in
    let front = group_of parts.front.now in
    let m = c.args.joins in
    let n = c.args.own in
    let first = c.in_ok-front.ensures ∙ ap (λ xs. joined (group_of xs) (shift_group front n m)) c.new.ensures.items in
    subst (λ y. IfOk c.with_raised-2.result (λ g. group_of g.items ≡ y))
    (side_is front parts.ty.now (group_of parts.inner.group.now) parts.inner.body.now (group_of parts.back.now) m n c.in_ok-front.front.items c.in_ok-joined.joined.items c.push.new.self.items c.in_ok-exchanged.field-0 c.requires.joins c.requires.own first c.in_ok-joined.ensures c.in_ok-exchanged.ensures c.in_ok-push.ensures.items)
    c.with_raised-2.ensures
