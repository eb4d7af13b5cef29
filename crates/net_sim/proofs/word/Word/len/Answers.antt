use Rattle.net_sim.proofs.Keeping.{narrow_known, small_known}
use Rattle.net_sim.proofs.word.Word.len.Goals as goal

pub returns-in-Small : goal.returns-in-Small
returns-in-Small c = (small_known _ _ _ _ c.in-Small.is c.self.invariant c.self.view_is).count

pub returns-in-Narrow : goal.returns-in-Narrow
returns-in-Narrow c = (narrow_known _ _ _ _ c.in-Narrow.is c.self.invariant c.self.view_is).count
