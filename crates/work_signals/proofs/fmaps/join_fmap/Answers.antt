use Rattle.rewriting.specs.Origins.{origins_of}
use Rattle.rewriting.specs.Spots.{spot_of}
use Rattle.rewriting.specs.Lifted.{fmap_pure}
use Rattle.work_signals.proofs.Joining.{fmap_becomes}
use Rattle.work_signals.proofs.fmaps.join_fmap.Goals as goal

pub returns-in-Some : goal.returns-in-Some
returns-in-Some c =
    let o = origins_of c.args.scene.now in
    let at = spot_of c.args.place.now in
    fmap_becomes {o = o} {at = at} c.args.outer c.in-Some.ensures.2 fmap_pure
    c.in_ok-fmap_pure.ensures
