use Rattle.wire_classes.proofs.Taking.{mark_within, marked}
use Rattle.wire_classes.proofs.steps.set_mark.Goals as goal

pub bounds-known-w : goal.bounds-known-w
bounds-known-w c =
    mark_within c.args.flat.now c.args.of.now c.args.known.now c.args.values.now c.requires.found c.args.w c.requires.bits.0 c.requires.bits.1

pub returns : goal.returns
returns c =
    let all = marked c.args.flat.now c.args.of.now c.args.known.now c.args.values.now c.requires.found c.args.w c.requires.bits.0 c.requires.bits.1
    c.requires.none in
    record { found = all.still; less = all.less }
