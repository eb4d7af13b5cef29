use Rattle.share_laws.specs.Same.Same.{itself}
use Rattle.wire_classes.proofs.Taking.{find_more}
use Rattle.wire_classes.proofs.search.find.Goals as goal

pub loop-step-init : goal.loop-step-init
loop-step-init c = itself c.args.w c.requires.within

pub loop-step-preserved : goal.loop-step-preserved
loop-step-preserved c =
    find_more c.args.scene.now.flat.now c.args.of.now c.args.known.now c.args.scene.now.values.now c.requires.found c.args.w c.loop-step.root c.label-up.result
    c.loop-step.invariant c.label-up.ensures
