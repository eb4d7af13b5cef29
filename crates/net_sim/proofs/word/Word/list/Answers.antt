use Rattle.std.proofs.Common.{arith}
use Rattle.net_sim.proofs.Keeping.{is_narrow}
use Rattle.net_sim.proofs.word.Word.list.Goals as goal

pub returns-in_default : goal.returns-in_default
returns-in_default c =
    let wide = c.requires in
    absurd (omega (arith, is_narrow _ _ c.self.invariant c.self.view_is c.in_default.not-Wide))
