use Rattle.std.proofs.Common.{length, arith}
use Rattle.std.proofs.lemmas.List.{take_all}
use Rattle.chw_base.proofs.Writers.{appends_kept}
use Rattle.chw_base.proofs.std_sink.pass_on.Goals as goal

pub returns-in-Err : goal.returns-in-Err
returns-in-Err g c =
    let bytes = c.args.bytes.now in
    (length bytes, rw (take_all (length bytes) bytes (omega arith)) (appends_kept _ _ _ _ c.in_ok-write_whole.ensures c.in-Err.ensures.bytes))
