use Rattle.share_laws.specs.Same.Same.{chained, turned}
use Rattle.wire_classes.proofs.Exist.{same_exists}
use Rattle.wire_classes.proofs.search.join.Goals as goal

pub find-one-requires-clause-within : goal.find-one-requires-clause-within
find-one-requires-clause-within c =
    (same_exists c.args.scene.now.flat.now c.requires.found.labels.sound c.args.scene.now.values.now c.requires.found.shown c.args.v c.args.w c.requires.same).0

pub find-other-requires-clause-within : goal.find-other-requires-clause-within
find-other-requires-clause-within c =
    (same_exists c.args.scene.now.flat.now c.requires.found.labels.sound c.args.scene.now.values.now c.requires.found.shown c.args.v c.args.w c.requires.same).1

pub link-requires-clause-same : goal.link-requires-clause-same
link-requires-clause-same c =
    chained c.find-one.result c.args.v c.find-other.result (turned c.args.v c.find-one.result c.find-one.ensures)
    (chained c.args.v c.args.w c.find-other.result c.requires.same c.find-other.ensures)

pub link-requires-else-is_smaller-clause-same : goal.link-requires-else-is_smaller-clause-same
link-requires-else-is_smaller-clause-same c =
    chained c.find-other.result c.args.w c.find-one.result (turned c.args.w c.find-other.result c.find-other.ensures)
    (chained c.args.w c.args.v c.find-one.result (turned c.args.v c.args.w c.requires.same) c.find-one.ensures)
