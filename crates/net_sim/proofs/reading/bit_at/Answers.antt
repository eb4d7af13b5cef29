use Rattle.std.proofs.Common.{sym}
use Rattle.net_sim.proofs.Keeping.{get_or-bits_of}
use Rattle.net_sim.proofs.reading.bit_at.Goals as goal

pub returns : goal.returns
returns c = sym (get_or-bits_of c.args.width c.args.n c.args.i c.requires.within)
