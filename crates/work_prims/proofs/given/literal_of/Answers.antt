use Rattle.std.proofs.Common.{◌≡◌, ◌∙◌, []}
use Rattle.work_prims.proofs.Forms.{lone_head, lone_args, bare_literal, no_literal, no_others}
use Rattle.work_prims.proofs.given.literal_of.Goals as goal

pub returns-in_default : goal.returns-in_default
returns-in_default c =
    let h = c.e.inside.head in
    let args = c.e.inside.args.items in
    record { some = tt; none = λ x bits q. no_literal h c.in_default.not-Lit x bits (lone_head h args _ (bare_literal x bits) (c.e.view_is ∙ q)) }

pub returns-else-is_empty-clause-none : goal.returns-else-is_empty-clause-none
returns-else-is_empty-clause-none c x bits q =
    let args = c.e.inside.args in
    let none : args.items ≡ [] = lone_args c.e.inside.head args.items _ (bare_literal x bits) (c.e.view_is ∙ q) in
    no_others args.items c.is_empty.result args.len none args.ok.0 c.is_empty.ensures c.if-is_empty.false
