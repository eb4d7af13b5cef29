use Rattle.netlist.specs.declared.net.Cell.TheVariants.{Join}
use Rattle.net_sim.proofs.Steps.{join_moves, only_part}
use Rattle.net_sim.proofs.Wiring.{is_wire}
use Rattle.net_sim.proofs.planning.join_step.Goals as goal

pub move_step-requires : goal.move_step-requires
move_step-requires c = is_wire _ c.args.to _ c.requires.1.1

pub returns-then-parts-eq1 : goal.returns-then-parts-eq1
returns-then-parts-eq1 c =
    let parts = c.args.parts.now in
    c.move_step.ensures (Join c.args.to parts)
    (λ small. join_moves _ c.requires.0 c.args.to _ parts c.requires.1 (only_part parts _ c.if-parts-eq1.true) small)
