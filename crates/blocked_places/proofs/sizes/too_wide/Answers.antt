use Rattle.std.proofs.Common.{◌≡◌, IfSome, subst, arith}
use Rattle.chw_types.specs.TypeTree.{nat_lit}
use Rattle.chw_terms.specs.Unrolled.{at_types}
use Rattle.normal_forms.specs.Blocked.{over_width}
use Rattle.blocked_places.proofs.sizes.too_wide.Goals as goal

pub returns : goal.returns
returns c =
    let types = c.args.types.now in
    let part = c.args.part.now in
    let is = subst (λ r. IfSome r (λ n. at_types types part ≡ nat_lit n)) c.in-Some.is c.in_ok-number.ensures.some in
    over_width is (omega (arith, c.if-number-le-SCALAR_BITS.false))
