use Rattle.std.proofs.Common.{◌≡◌, ◌<◌, ◌≤◌, length, ◌∙◌}
use Rattle.chw_types.specs.TypeTree.{TypeTree}
use Rattle.chw_typing.specs.HeadTypes.{widest, literal_type}
use Rattle.seen_types.proofs.Matched.{of_some, is_none}
use Rattle.term_types.proofs.Plain.{lit_typed, lit_wide}
use Rattle.term_types.proofs.heads.literal.Goals as goal

pub returns-in-Some : goal.returns-in-Some
returns-in-Some c =
    let bits = c.args.bits.now in
    let h = of_some (widest < length bits) (λ (t : TypeTree). (length bits ≤ widest) × (t ≡ literal_type c.args.sort bits)) c.in_ok-ty.field-0 c.in-Some.ty c.in-Some.is c.in_ok-ty.ensures in
    lit_typed c.args.sort bits c.made.result h.0 (c.made.ensures ∙ h.1)

pub returns-in-None : goal.returns-in-None
returns-in-None c =
    let bits = c.args.bits.now in
    lit_wide c.args.sort bits (is_none (widest < length bits) (λ (t : TypeTree). (length bits ≤ widest) × (t ≡ literal_type c.args.sort bits)) c.in_ok-ty.field-0 c.in-None.is c.in_ok-ty.ensures)
