use Rattle.std.proofs.Common.{sym, ◌∙◌}
use Rattle.prim_vec.proofs.Deciding.{tells, told}
use Rattle.prim_vec.proofs.conditions.can_unroll.Goals as goal

pub returns : goal.returns
returns c =
    let e = c.in_ok-passes.ensures in
    (λ yes. tells c.args.p c.args.types.now c.args.args.now (sym e ∙ yes), λ can. e ∙ told c.args.p c.args.types.now c.args.args.now can)
