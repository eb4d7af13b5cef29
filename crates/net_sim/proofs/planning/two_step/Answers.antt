use Rattle.net_sim.proofs.Wiring.{two_fit}
use Rattle.net_sim.proofs.planning.two_step.Goals as goal

pub width_of-width-requires : goal.width_of-width-requires
width_of-width-requires c = (two_fit _ c.args.op c.args.to c.args.left c.args.right c.requires.1).0

pub width_of-requires : goal.width_of-requires
width_of-requires c = (two_fit _ c.args.op c.args.to c.args.left c.args.right c.requires.1).1
