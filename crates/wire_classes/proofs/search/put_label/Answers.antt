use Rattle.wire_classes.proofs.Taking.{found_set, stand_within}
use Rattle.wire_classes.proofs.search.put_label.Goals as goal

pub bounds-of-w : goal.bounds-of-w
bounds-of-w c =
    (stand_within c.args.scene.now.flat.now c.args.of.now c.args.known.now c.args.scene.now.values.now c.requires.found c.args.w c.args.n c.requires.same).0

pub returns : goal.returns
returns c =
    found_set c.args.scene.now.flat.now c.args.of.now c.args.known.now c.args.scene.now.values.now c.requires.found c.args.w c.args.n c.requires.same
