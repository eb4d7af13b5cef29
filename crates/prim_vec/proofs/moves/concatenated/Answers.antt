use Rattle.std.proofs.lemmas.Result.{IfOk-weaker}
use Rattle.prim_vec.proofs.Rows.{concatenated_is}
use Rattle.prim_vec.proofs.moves.concatenated.Goals as goal

pub returns : goal.returns
returns c =
    let r = c.twice_sized-n.result in
    IfOk-weaker c.flat-made.result _ _ (λ e is. concatenated_is c.args.kind r.0 r.1 c.in_ok-inner.inner r.2.now c.args.types.now e c.twice_sized-n.ensures c.in_ok-inner.ensures is)
    c.flat-made.ensures
