use Rattle.wire_classes.proofs.Copying.{only_none, only_one}
use Rattle.std.proofs.Common.{sym}
use Rattle.wire_classes.proofs.copies.only_of.Goals as goal

pub returns-then-wires-ne1 : goal.returns-then-wires-ne1
returns-then-wires-ne1 c = sym (only_none c.args.wires.now (λ e. c.if-wires-ne1.true (e)))

pub returns : goal.returns
returns c = sym (only_one c.args.wires.now _ (c.if-wires-ne1.false))
