use Rattle.wire_classes.proofs.Taking.{mark_within}
use Rattle.wire_classes.proofs.search.learn.Goals as goal

pub bounds-known-w : goal.bounds-known-w
bounds-known-w c =
    mark_within c.args.scene.now.flat.now c.args.of.now c.args.known.now c.args.scene.now.values.now c.requires.found c.args.w c.requires.known.0 c.requires.known.1
