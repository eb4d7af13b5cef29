use Rattle.std.proofs.Common.{length, set, refl, sym, ap, ◌∙◌}
use Rattle.netlist.specs.declared.net.Cell.TheVariants.{Mux}
use Rattle.net_sim.proofs.Cells.{given_width}
use Rattle.net_sim.proofs.Steps.{renews_as, small_bits}
use Rattle.net_sim.proofs.Wiring.{is_wire, wire_width}
use Rattle.net_sim.proofs.small_step.choose_small.Goals as goal

pub chosen-from-requires-clause-on : goal.chosen-from-requires-clause-on
chosen-from-requires-clause-on c = c.requires.fits.1.0

pub chosen-from-requires-clause-first : goal.chosen-from-requires-clause-first
chosen-from-requires-clause-first c = is_wire _ c.args.first _ c.requires.fits.1.1.2

pub chosen-from-requires-clause-second : goal.chosen-from-requires-clause-second
chosen-from-requires-clause-second c = is_wire _ c.args.second _ c.requires.fits.1.1.3

pub move_small-requires-clause-to : goal.move_small-requires-clause-to
move_small-requires-clause-to c = is_wire _ c.args.to _ c.requires.fits.1.1.1

pub move_small-requires-clause-width : goal.move_small-requires-clause-width
move_small-requires-clause-width c =
    let a = c.args in
    wire_width a.words.now a.to _
    (given_width a.words.now c.requires.fits.0 a.to.number (Mux a.to a.on a.first a.second) c.requires.fits.1 tt refl)
    ∙ sym (ap length c.chosen-from.ensures.value)

pub move_small-requires-clause-small : goal.move_small-requires-clause-small
move_small-requires-clause-small c = small_bits c.args.words.now c.args.to c.requires.small

pub returns : goal.returns
returns c =
    let a = c.args in
    renews_as (Mux a.to a.on a.first a.second) a.words.now c.move_small.new.words a.to.number tt refl
    (c.move_small.ensures.word ∙ ap (set a.words.now a.to.number) c.chosen-from.ensures.value) c.move_small.ensures.widths
