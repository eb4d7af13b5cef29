use Rattle.std.proofs.lemmas.Result.{IfOk-weaker}
use Rattle.chw_names.proofs.Whole.{tree_least}
use Rattle.chw_names.proofs.unknowns.unknown.Goals as goal

pub returns : goal.returns
returns c =
    IfOk-weaker c.unknown_among-found.result _ _ (λ found shown. tree_least c.args.tree.now c.as_slice.result.now c.in_ok-globals.globals found c.as_slice.ensures c.in_ok-globals.ensures.names shown)
    c.unknown_among-found.ensures
