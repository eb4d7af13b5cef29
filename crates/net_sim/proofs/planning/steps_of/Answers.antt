use Rattle.std.proofs.Common.{◌≡◌, ◌+◌, [], rules, length, Some, slice_get, sym, ap, subst, ◌∙◌, arith}
use Rattle.std.specs.Prelude.{slice_index}
use Rattle.netlist.specs.Sound.{FitsCell}
use Rattle.net_sim.specs.Steps.{IsStepOf, StepsBefore}
use Rattle.net_sim.proofs.Cells.{cell_fits}
use Rattle.net_sim.proofs.Planned.{steps_more, steps_none}
use Rattle.net_sim.proofs.planning.steps_of.Goals as goal

pub loop-place-init : goal.loop-place-init
loop-place-init c =
    let empty : c.new-steps.result.items ≡ [] = search rules in
    subst (λ items. StepsBefore c.args.flat.now c.args.order.now.cells items 0) (sym empty) (steps_none c.args.flat.now c.args.order.now.cells)

pub step_of-requires : goal.step_of-requires
step_of-requires c =
    let flat = c.args.flat.now in
    let fits = cell_fits flat c.cell_at-cell.result.now c.requires.sound (_, c.cell_at-cell.ensures) in
    (length flat.ports.domains, subst (λ widths. FitsCell (length flat.ports.domains) widths c.cell_at-cell.result.now) (sym c.as_slice.ensures) fits)

pub loop-place-preserved : goal.loop-place-preserved
loop-place-preserved c =
    let l = c.loop-place in
    let flat = c.args.flat.now in
    let cell = c.cell_at-cell.result.now in
    let at : slice_get flat.cells (slice_index c.args.order.now.cells l.place-index) ≡ Some cell =
    ap (λ ps. slice_get flat.cells (slice_index ps l.place-index)) (sym c.as_slice-place-items.ensures) ∙ c.cell_at-cell.ensures in
    let step = subst (λ widths. IsStepOf widths cell c.step_of.result) c.as_slice.ensures c.step_of.ensures in
    subst (λ items. StepsBefore flat c.args.order.now.cells items (l.place-index + 1)) (sym c.in_ok-push.ensures.items)
    (steps_more flat c.args.order.now.cells l.steps.items c.step_of.result l.place-index cell at step l.invariant)

pub returns : goal.returns
returns c =
    let l = c.loop-place in
    let all : l.place-index ≡ length c.args.order.now.cells = omega (arith, ap length c.as_slice-place-items.ensures) in
    subst (StepsBefore c.args.flat.now c.args.order.now.cells l.steps.items) all l.invariant
