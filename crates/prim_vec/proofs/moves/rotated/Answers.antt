use Rattle.std.proofs.lemmas.Result.{IfOk-weaker}
use Rattle.prim_vec.proofs.Rows.{rotated_is}
use Rattle.prim_vec.proofs.moves.rotated.Goals as goal

pub returns : goal.returns
returns c =
    let r = c.twice_sized-n.result in
    IfOk-weaker c.vector_of.result _ _ (λ e is. rotated_is c.args.kind r.0 r.1 r.2.now c.args.types.now e c.twice_sized-n.ensures c.is_natural.ensures is) c.vector_of.ensures
