use Rattle.con_places.proofs.Placed.{one_more}
use Rattle.con_places.proofs.table.push_places.Goals as goal

pub loop-place-preserved : goal.loop-place-preserved
loop-place-preserved c = one_more c.args.places.now.items c.loop-place.places.items c.push.new.self.items c.args.of c.loop-place.place c.loop-place.invariant c.in_ok-push.ensures.items
