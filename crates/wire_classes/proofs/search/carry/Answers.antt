use Rattle.std.proofs.Common.{sym, ◌∙◌}
use Rattle.wire_classes.proofs.Taking.{found_carried, stand_within}
use Rattle.wire_classes.proofs.search.carry.Goals as goal

pub bounds-known-n : goal.bounds-known-n
bounds-known-n c =
    (stand_within c.args.scene.now.flat.now c.args.of.now c.args.known.now c.args.scene.now.values.now c.requires.found c.args.w c.args.n c.requires.same).1

pub returns-then-mark : goal.returns-then-mark
returns-then-mark c =
    found_carried c.args.scene.now.flat.now c.args.of.now c.args.known.now c.args.scene.now.values.now c.requires.found c.args.w c.args.n c.requires.same
    (sym c.mark.ensures ∙ c.if-mark.true)
