use Rattle.std.proofs.Common.{length, map, ap, ◌∙◌, arith}
use Rattle.net_sim.proofs.Constants.{constants_beside}
use Rattle.net_sim.proofs.Incoming.{incoming_few, incoming_fit, incoming_widths, keepers_kept, settled_inputs}
use Rattle.net_sim.proofs.inputs.enter.Goals as goal

pub put_inputs-requires-clause-few : goal.put_inputs-requires-clause-few
put_inputs-requires-clause-few c =
    let h = c.as_slice.ensures in
    let few = incoming_few c.args.flat.now c.args.words.now c.args.event.now c.requires.sound c.requires.table c.requires.widths in
    omega (arith, ap length h)

pub put_inputs-requires-clause-widths : goal.put_inputs-requires-clause-widths
put_inputs-requires-clause-widths c =
    rw c.as_slice.ensures (incoming_fit c.args.flat.now c.args.words.now c.args.event.now c.requires.sound c.requires.table c.requires.widths)

pub settle_all-requires-clause-widths : goal.settle_all-requires-clause-widths
settle_all-requires-clause-widths c =
    ap (map length) (rw c.as_slice.ensures at c.put_inputs.ensures)
    ∙ incoming_widths c.args.event.now.inputs c.args.words.now (incoming_fit c.args.flat.now c.args.words.now c.args.event.now c.requires.sound c.requires.table c.requires.widths)
    ∙ c.requires.table

pub settle_all-requires-clause-constants : goal.settle_all-requires-clause-constants
settle_all-requires-clause-constants c =
    constants_beside c.args.flat.now c.args.event.now c.args.words.now c.put_inputs.new.words c.requires.sound c.requires.widths
    (rw c.as_slice.ensures at c.put_inputs.ensures) c.requires.constants

pub returns-clause-settled : goal.returns-clause-settled
returns-clause-settled c =
    settled_inputs c.args.flat.now c.args.order.now.cells c.args.event.now c.args.words.now c.put_inputs.new.words c.settle_all.new.words
    c.requires.sound c.requires.order c.requires.table c.requires.widths (rw c.as_slice.ensures at c.put_inputs.ensures) c.settle_all.ensures

pub returns-clause-keepers : goal.returns-clause-keepers
returns-clause-keepers c =
    keepers_kept c.args.flat.now c.args.order.now.cells c.args.event.now c.args.words.now c.put_inputs.new.words c.settle_all.new.words
    c.requires.sound c.requires.widths (rw c.as_slice.ensures at c.put_inputs.ensures) c.settle_all.ensures
