use Rattle.std.proofs.Common.{length, sym, subst}
use Rattle.wire_classes.specs.Keys.{AreMarked}
use Rattle.wire_classes.proofs.cells.bits_step.Goals as goal

pub marked_step-requires-clause-marked : goal.marked_step-requires-clause-marked
marked_step-requires-clause-marked c =
    subst (AreMarked c.args.known.now (length c.args.flat.now.widths)) (sym c.deref.ensures.value)
    (subst (λ n. AreMarked c.args.known.now n c.in_ok-wires.wires.items) c.len.ensures c.in_ok-wires.ensures)
