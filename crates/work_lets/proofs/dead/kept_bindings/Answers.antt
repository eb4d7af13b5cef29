use Rattle.std.proofs.Common.{refl, arith}
use Rattle.work_lets.proofs.Marked.{kept_next}
use Rattle.work_lets.proofs.dead.kept_bindings.Goals as goal

pub loop-n-preserved : goal.loop-n-preserved
loop-n-preserved c =
    kept_next c.args.closing.now c.args.marks.now c.args.bindings.now c.loop-n.group.items c.keep.new.group.items c.loop-n.n _ c.index-bindings-n.result c.requires (omega (arith, c.loop-n-test.true)) refl c.index-bindings-n.is c.loop-n.invariant c.in_ok-keep.ensures
