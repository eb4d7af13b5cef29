use Rattle.std.proofs.Common.{get_or, arith}
use Rattle.std.proofs.lemmas.Option.{slice_get-get_or}
use Rattle.net_flat.proofs.Uses.{copies_next}
use Rattle.net_flat.proofs.parts.push_inputs.Goals as goal

pub loop-j-preserved : goal.loop-j-preserved
loop-j-preserved c =
    copies_next c.args.base c.args.reads.now c.loop-j.j (get_or c.args.reads.now c.loop-j.j (record { number = 0 }))
    c.args.cells.now.items c.loop-j.cells.items c.push.new.self.items
    (slice_get-get_or c.args.reads.now c.loop-j.j (record { number = 0 }) (omega (arith, c.loop-j-test.true))) c.loop-j.invariant c.in_ok-push.ensures.items
