use Rattle.wire_classes.proofs.Taking.{merged, merged_back}
use Rattle.wire_classes.proofs.steps.merge.Goals as goal

pub returns-then-one-other : goal.returns-then-one-other
returns-then-one-other c =
    let all = merged c.args.flat.now c.args.of.now c.args.known.now c.args.values.now c.requires.found c.args.v c.args.w c.label-one.result
    c.label-other.result c.relabel.new.of c.label-one.ensures c.label-other.ensures c.requires.same c.if-one-other.true c.relabel.ensures in
    record { found = all.still; less = all.less }

pub returns-else-one-other : goal.returns-else-one-other
returns-else-one-other c =
    let all = merged_back c.args.flat.now c.args.of.now c.args.known.now c.args.values.now c.requires.found c.args.v c.args.w c.label-one.result
    c.label-other.result c.relabel-else-one-other.new.of c.label-one.ensures c.label-other.ensures c.requires.same c.if-one-other.false c.requires.apart
    c.relabel-else-one-other.ensures in
    record { found = all.still; less = all.less }
