use Rattle.std.proofs.Common.{◌≡◌, ◌<◌, ◌≤◌, length, subst}
use Rattle.std.specs.Prelude.{MatchOption}
use Rattle.chw_types.specs.TypeTree.{TypeTree}
use Rattle.chw_typing.specs.HeadTypes.{widest, literal_type}
use Rattle.term_types.proofs.Bound.{literal_same, literal_wide}
use Rattle.seen_types.proofs.Matched.{of_some}
use Rattle.term_types.proofs.patterns.is_literal_of.Goals as goal

pub returns-in_ok-same-in-Some : goal.returns-in_ok-same-in-Some
returns-in_ok-same-in-Some c =
    let bits = c.args.bits.now in
    let sort = c.args.sort in
    literal_same c.args.of.now c.in-Some.ty sort bits c.in_ok-same-in-Some.field-0
    (of_some (widest < length bits) (λ (t : TypeTree). (length bits ≤ widest) × (t ≡ literal_type sort bits)) c.in_ok-ty.field-0 c.in-Some.ty c.in-Some.is c.in_ok-ty.ensures) c.in_ok-same-in-Some.ensures

pub returns-in-None : goal.returns-in-None
returns-in-None c =
    let bits = c.args.bits.now in
    let sort = c.args.sort in
    literal_wide c.args.of.now sort bits
    (subst (λ r. MatchOption r (widest < length bits) (λ (t : TypeTree). (length bits ≤ widest) × (t ≡ literal_type sort bits))) c.in-None.is c.in_ok-ty.ensures)
