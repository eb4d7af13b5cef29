use Rattle.std.proofs.Common.{◌≡◌, IfOk, subst}
use Rattle.chw_terms.specs.TermView.{group_of}
use Rattle.chw_terms.specs.Unrolled.{named}
use Rattle.flow_cases.proofs.constructors.fields_named.Goals as goal

pub returns : goal.returns
returns c =
    subst (λ y. IfOk c.named.result (λ group. group_of group.items ≡ y))
    (λ i. named (c.in_ok-types.ensures i) (c.in_ok-sides.ensures i)) c.named.ensures
