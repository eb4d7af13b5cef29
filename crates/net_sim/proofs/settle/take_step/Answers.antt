use Rattle.std.proofs.Common.{length, map, sym, subst}
use Rattle.netlist.specs.Sound.{FitsCell}
use Rattle.netlist.specs.declared.net.Cell.{Cell}
use Rattle.net_sim.specs.Settling.{Renews}
use Rattle.net_sim.proofs.Constants.{rest_renews}
use Rattle.net_sim.proofs.Steps.{move_renews, move_width, small_bits}
use Rattle.net_sim.proofs.Wiring.{is_wire, wire_width}
use Rattle.net_sim.proofs.settle.take_step.Goals as goal

pub move_small-requires-clause-to : goal.move_small-requires-clause-to
move_small-requires-clause-to c =
    let move = rw c.in-Move.is at c.requires.step in
    is_wire _ c.in-Move.to _ (move_width c.args.cell.now c.args.words.now c.requires.fits.0 c.in-Move.to c.in-Move.from c.requires.fits.1 move)

pub move_small-requires-clause-from : goal.move_small-requires-clause-from
move_small-requires-clause-from c = let move = rw c.in-Move.is at c.requires.step in move.there

pub move_small-requires-clause-width : goal.move_small-requires-clause-width
move_small-requires-clause-width c =
    let move = rw c.in-Move.is at c.requires.step in
    wire_width c.args.words.now c.in-Move.to _
    (move_width c.args.cell.now c.args.words.now c.requires.fits.0 c.in-Move.to c.in-Move.from c.requires.fits.1 move)

pub move_small-requires-clause-small : goal.move_small-requires-clause-small
move_small-requires-clause-small c =
    let move = rw c.in-Move.is at c.requires.step in
    small_bits c.args.words.now c.in-Move.to move.small

pub choose_small-requires-clause-fits : goal.choose_small-requires-clause-fits
choose_small-requires-clause-fits c =
    let step = rw c.in-Choose.is at c.requires.step in
    (c.requires.fits.0, subst (FitsCell c.requires.fits.0 (map length c.args.words.now)) step.0 c.requires.fits.1)

pub choose_small-requires-clause-small : goal.choose_small-requires-clause-small
choose_small-requires-clause-small c = let step = rw c.in-Choose.is at c.requires.step in step.1

pub settle_two-requires-clause-fits : goal.settle_two-requires-clause-fits
settle_two-requires-clause-fits c =
    let step = rw c.in-Two.is at c.requires.step in
    (c.requires.fits.0, subst (FitsCell c.requires.fits.0 (map length c.args.words.now)) step.0 c.requires.fits.1)

pub settle_two-requires-clause-two : goal.settle_two-requires-clause-two
settle_two-requires-clause-two c = let step = rw c.in-Two.is at c.requires.step in step.1

pub flip_small-requires-clause-fits : goal.flip_small-requires-clause-fits
flip_small-requires-clause-fits c =
    let step = rw c.in-Flip.is at c.requires.step in
    (c.requires.fits.0, subst (FitsCell c.requires.fits.0 (map length c.args.words.now)) step.0 c.requires.fits.1)

pub flip_small-requires-clause-small : goal.flip_small-requires-clause-small
flip_small-requires-clause-small c = let step = rw c.in-Flip.is at c.requires.step in step.1

pub flip_small-requires-clause-mask : goal.flip_small-requires-clause-mask
flip_small-requires-clause-mask c = let step = rw c.in-Flip.is at c.requires.step in step.2

pub part_small-requires : goal.part_small-requires
part_small-requires c =
    let step = rw c.in-Part.is at c.requires.step in
    record { fits = (step.0, c.requires.fits.0, subst (FitsCell c.requires.fits.0 (map length c.args.words.now)) step.1 c.requires.fits.1, step.2) }

pub returns-in-Rest : goal.returns-in-Rest
returns-in-Rest c = rest_renews c.args.cell.now c.args.words.now (rw c.in-Rest.is at c.requires.step) c.requires.held

pub returns-in-Move : goal.returns-in-Move
returns-in-Move c =
    let move = rw c.in-Move.is at c.requires.step in
    move_renews c.args.cell.now c.args.words.now c.move_small.new.words c.in-Move.to c.in-Move.from move c.move_small.ensures.word
    c.move_small.ensures.widths

pub returns-in-Choose : goal.returns-in-Choose
returns-in-Choose c =
    let step = rw c.in-Choose.is at c.requires.step in
    subst (λ (cell : Cell). Renews cell c.args.words.now c.choose_small.new.words) (sym step.0) c.choose_small.ensures

pub returns-in-Two : goal.returns-in-Two
returns-in-Two c =
    let step = rw c.in-Two.is at c.requires.step in
    subst (λ (cell : Cell). Renews cell c.args.words.now c.settle_two.new.words) (sym step.0) c.settle_two.ensures

pub returns-in-Flip : goal.returns-in-Flip
returns-in-Flip c =
    let step = rw c.in-Flip.is at c.requires.step in
    subst (λ (cell : Cell). Renews cell c.args.words.now c.flip_small.new.words) (sym step.0) c.flip_small.ensures

pub returns-in-Part : goal.returns-in-Part
returns-in-Part c =
    let step = rw c.in-Part.is at c.requires.step in
    let fits = subst (FitsCell c.requires.fits.0 (map length c.args.words.now)) step.1 c.requires.fits.1 in
    subst (λ (cell : Cell). Renews cell c.args.words.now c.part_small.new.words) (sym step.1)
    (c.part_small.ensures step.0 c.requires.fits.0 fits step.2)
