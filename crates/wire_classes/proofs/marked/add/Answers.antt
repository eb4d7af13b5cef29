use Rattle.std.proofs.Common.{◌+◌, sym, subst, ◌∙◌}
use Rattle.wire_classes.specs.Keys.{AreMarked}
use Rattle.wire_classes.proofs.MarkedWires.{marked_more, marked_same}
use Rattle.wire_classes.proofs.marked.add.Goals as goal

pub returns-then-not-mark : goal.returns-then-not-mark
returns-then-not-mark c =
    marked_same c.args.known.now c.args.w c.args.wires.now.items c.requires (sym c.mark.ensures ∙ c.if-not-mark.true)

pub returns : goal.returns
returns c =
    subst (AreMarked c.args.known.now (c.args.w + 1)) (sym c.in_ok-push.ensures.items)
    (marked_more c.args.known.now c.args.w c.args.wires.now.items c.requires (sym c.mark.ensures ∙ c.if-not-mark.false))
