use Rattle.share_laws.specs.Same.Same.{turned}
use Rattle.wire_classes.proofs.search.compress.Goals as goal

pub carry-requires-clause-same : goal.carry-requires-clause-same
carry-requires-clause-same c = turned c.args.w c.find-root.result c.find-root.ensures
