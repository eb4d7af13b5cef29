use Rattle.std.proofs.Common.{length, refl, arith}
use Rattle.std.proofs.lemmas.Option.{slice_get_read}
use Rattle.chw_norm.proofs.Changed.{bounds_next}
use Rattle.chw_norm.proofs.bodies.depths.Goals as goal

pub loop-it-preserved : goal.loop-it-preserved
loop-it-preserved c =
    let made = c.args.made.now in
    bounds_next made c.loop-it.depths.items c.push.new.self.items c.loop-it.it-index c.depth.result
    c.it-item.result
    (slice_get_read made (length made) _ _ refl (omega arith) c.it-item.is) (λ small. omega arith)
    c.in_ok-push.ensures.items c.loop-it.invariant
