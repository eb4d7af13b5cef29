use Rattle.std.proofs.Common.{arith}
use Rattle.std.proofs.lemmas.List.{take_rest}
use Rattle.chw_base.proofs.Writers.{appends_more, appends_kept}
use Rattle.chw_base.proofs.std_sink.write_whole.Goals as goal
use Rattle.chw_base.proofs.std_sink.write_whole.Goals.{in-Ok, in-Err}

pub loop-preserved : goal.loop-preserved
loop-preserved g c =
    elim c.match-write.branch [
      | in-Ok w ↦ rw w.taken-is (omega (arith, w.in-Ok.ensures.bound), appends_more _ _ _ _ _ _ c.loop.invariant.1 (rw take_rest at w.in-Ok.ensures.bytes))
      | in-Err w ↦ rw w.taken-is (omega arith, appends_kept _ _ _ _ c.loop.invariant.1 w.in-Err.ensures.bytes)
    ]
