use Rattle.std.proofs.lemmas.Result.{IfOk-weaker}
use Rattle.prim_vec.proofs.Rows.{element_at_is}
use Rattle.prim_vec.proofs.choices.element_at.Goals as goal

pub returns : goal.returns
returns c =
    let r = c.twice_sized-n.result in
    IfOk-weaker c.case.result _ _
    (λ e is. element_at_is r.0 r.1 c.in-Some.len r.2.now c.args.types.now c.in_ok-alts.alts.items c.variable.result e c.twice_sized-n.ensures c.in-Some.ensures.1 c.in_ok-alts.ensures c.variable.ensures is)
    c.case.ensures
