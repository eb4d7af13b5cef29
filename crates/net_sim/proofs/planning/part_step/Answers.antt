use Rattle.std.proofs.Common.{refl, ◌∙◌, arith}
use Rattle.netlist.specs.declared.net.Cell.TheVariants.{Cut}
use Rattle.net_sim.proofs.Steps.{cut_is_part, cut_moves, width_is}
use Rattle.net_sim.proofs.Wiring.{is_wire}
use Rattle.net_sim.proofs.planning.part_step.Goals as goal

pub width_of-width-requires : goal.width_of-width-requires
width_of-width-requires c = is_wire _ c.args.from _ c.requires.1.2.2

pub move_step-requires : goal.move_step-requires
move_step-requires c = is_wire _ c.args.to _ c.requires.1.1

pub returns-then-high-width : goal.returns-then-high-width
returns-then-high-width c =
    let a = c.args in
    c.move_step.ensures (Cut a.to a.from a.high a.low)
    (λ small. cut_moves _ c.requires.0 a.high a.low a.to a.from c.requires.1 c.if-low-eq0.true (c.if-high-width.true ∙ c.width_of-width.ensures) small)

pub overflow_add-high-then-width-le-SMALL : goal.overflow_add-high-then-width-le-SMALL
overflow_add-high-then-width-le-SMALL c =
    let fits = c.requires.1 in
    let width = width_is _ c.args.from _ fits.2.2 in
    let below = fits.2.1 in
    omega (arith, c.width_of-width.ensures, c.if-width-le-SMALL.true)

pub mask_of-requires : goal.mask_of-requires
mask_of-requires c =
    let fits = c.requires.1 in
    let width = width_is _ c.args.from _ fits.2.2 in
    let below = fits.2.1 in
    omega (arith, c.width_of-width.ensures, c.if-width-le-SMALL.true)

pub returns-then-width-le-SMALL : goal.returns-then-width-le-SMALL
returns-then-width-le-SMALL c =
    let a = c.args in
    (a.high, refl, cut_is_part _ c.requires.0 a.high a.low c.mask_of.result a.to a.from c.requires.1 (omega (arith, c.width_of-width.ensures, c.if-width-le-SMALL.true)) c.mask_of.ensures)
