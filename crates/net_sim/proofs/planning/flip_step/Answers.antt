use Rattle.net_sim.proofs.Wiring.{is_wire}
use Rattle.net_sim.proofs.planning.flip_step.Goals as goal

pub width_of-width-requires : goal.width_of-width-requires
width_of-width-requires c = is_wire _ c.args.to _ c.requires.1.1
