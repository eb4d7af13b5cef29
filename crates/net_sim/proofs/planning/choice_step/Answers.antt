use Rattle.net_sim.proofs.Wiring.{is_wire}
use Rattle.net_sim.proofs.planning.choice_step.Goals as goal

pub width_of-requires : goal.width_of-requires
width_of-requires c = is_wire _ c.args.to _ c.requires.1.1.1
