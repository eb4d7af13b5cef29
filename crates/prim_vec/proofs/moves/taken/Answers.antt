use Rattle.std.proofs.lemmas.Result.{IfOk-weaker}
use Rattle.prim_vec.proofs.Rows.{taken_is}
use Rattle.prim_vec.proofs.moves.taken.Goals as goal

pub returns : goal.returns
returns c =
    let r = c.twice_sized-n.result in
    IfOk-weaker c.vector_of.result _ _ (λ e is. taken_is c.args.kind r.0 r.1 c.in-Some.len r.2.now c.args.types.now e c.twice_sized-n.ensures c.in-Some.ensures.1 is) c.vector_of.ensures
