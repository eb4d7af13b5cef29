use Rattle.std.proofs.Common.{arith}
use Rattle.open_letrec.proofs.Stored.{stored_for, many_settled_kept}
use Rattle.open_letrec.proofs.opened.OpenLetrec.settled.Goals as goal

pub returns : goal.returns
returns c =
    let o = c.self.inside in
    omega (arith, c.len.ensures, o.settled.ok.0, many_settled_kept o c.args.self.now (stored_for o c.args.self.now c.self.invariant c.self.view_is))
