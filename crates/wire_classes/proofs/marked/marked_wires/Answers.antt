use Rattle.std.proofs.Common.{sym, subst}
use Rattle.wire_classes.specs.Keys.{AreMarked}
use Rattle.wire_classes.proofs.MarkedWires.{marked_none}
use Rattle.wire_classes.proofs.marked.marked_wires.Goals as goal

pub loop-w-init : goal.loop-w-init
loop-w-init c = subst (AreMarked c.args.known.now 0) (sym c.new-wires.ensures.items) (marked_none c.args.known.now)
