use Rattle.std.proofs.Common.{◌≡◌, ◌<◌, length, Some, slice_get, sym, ap, subst, ◌∙◌, arith}
use Rattle.std.specs.Prelude.{slice_index}
use Rattle.netlist.specs.Sound.{FitsCell}
use Rattle.net_sim.proofs.Cells.{cell_fits}
use Rattle.net_sim.proofs.Constants.{constants_kept, held_here}
use Rattle.net_sim.proofs.Renewing.{settled_more, target_within}
use Rattle.net_sim.proofs.settle.settle_all.Goals as goal

pub bounds-steps-k : goal.bounds-steps-k
bounds-steps-k c = omega (arith, ap length c.as_slice-place-items.ensures, c.requires.steps.count, c.loop-k-test.true)

pub take_step-requires-clause-fits : goal.take_step-requires-clause-fits
take_step-requires-clause-fits c =
    let flat = c.args.flat.now in
    let cell = c.cell_at.result.now in
    let fits = cell_fits flat cell c.requires.sound (_, c.cell_at.ensures) in
    (length flat.ports.domains, subst (λ widths. FitsCell (length flat.ports.domains) widths cell) (sym c.loop-k.invariant.settled.widths) fits)

pub take_step-requires-clause-held : goal.take_step-requires-clause-held
take_step-requires-clause-held c =
    held_here c.args.flat.now c.loop-k.words c.cell_at.result.now (_, c.cell_at.ensures) c.loop-k.invariant.constants

pub take_step-requires-clause-step : goal.take_step-requires-clause-step
take_step-requires-clause-step c =
    let l = c.loop-k in
    let flat = c.args.flat.now in
    let places = c.args.order.now.cells in
    let cell = c.cell_at.result.now in
    let at : slice_get flat.cells (slice_index places l.k) ≡ Some cell =
    ap (λ ps. slice_get flat.cells (slice_index ps l.k)) (sym c.as_slice-place-items.ensures) ∙ c.cell_at.ensures in
    let lt : l.k < length places = omega (arith, ap length c.as_slice-place-items.ensures, c.loop-k-test.true) in
    rw l.invariant.settled.widths (c.requires.steps.each l.k _ cell lt at)

pub loop-k-preserved : goal.loop-k-preserved
loop-k-preserved c =
    let l = c.loop-k in
    let flat = c.args.flat.now in
    let places = c.args.order.now.cells in
    let cell = c.cell_at.result.now in
    let at : slice_get flat.cells (slice_index places l.k) ≡ Some cell =
    ap (λ ps. slice_get flat.cells (slice_index ps l.k)) (sym c.as_slice-place-items.ensures) ∙ c.cell_at.ensures in
    let lt : l.k < length places = omega (arith, ap length c.as_slice-place-items.ensures, c.loop-k-test.true) in
    let fits = subst (λ widths. FitsCell (length flat.ports.domains) widths cell) (sym l.invariant.settled.widths)
    (cell_fits flat cell c.requires.sound (_, at)) in
    record {
      settled =
          settled_more flat places c.args.words.now l.words c.take_step.new.words l.k cell c.requires.sound c.requires.order lt at
          (λ w t keeps. target_within l.words (length flat.ports.domains) w cell fits keeps t)
          l.invariant.settled c.take_step.ensures;
      constants =
          constants_kept flat cell l.words c.take_step.new.words (length flat.ports.domains) c.requires.sound (_, at) fits c.take_step.ensures
          l.invariant.constants;
      room = c.take_step.auto.room ∙ l.invariant.room;
    }
