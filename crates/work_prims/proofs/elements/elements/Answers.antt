use Rattle.std.proofs.Common.{◌≡◌, ◌∙◌, []}
use Rattle.work_prims.proofs.Forms.{lone_head, lone_args, bare_vector, no_vector, no_others}
use Rattle.work_prims.proofs.elements.elements.Goals as goal

pub returns-in_default : goal.returns-in_default
returns-in_default c =
    let h = c.vector.inside.head in
    let args = c.vector.inside.args.items in
    record { some = tt; none = λ t es q. no_vector h c.in_default.not-VecLit t es (lone_head h args _ (bare_vector t es) (c.vector.view_is ∙ q)) }

pub returns-else-is_empty-clause-none : goal.returns-else-is_empty-clause-none
returns-else-is_empty-clause-none c t es q =
    let args = c.vector.inside.args in
    let none : args.items ≡ [] = lone_args c.vector.inside.head args.items _ (bare_vector t es) (c.vector.view_is ∙ q) in
    no_others args.items c.is_empty.result args.len none args.ok.0 c.is_empty.ensures c.if-is_empty.false
