use Rattle.std.proofs.Common.{sym, refl}
use Rattle.chw_terms.specs.TermMoves.{rename}
use Rattle.kept_letrecs.proofs.QuietRenamed.{quiet_renamed}
use Rattle.letrec_runs.proofs.Settled.{settled_nothing, settled_current}
use Rattle.letrec_runs.proofs.quiet.settle_one.Goals as goal

pub returns-then-not-is_quiet : goal.returns-then-not-is_quiet
returns-then-not-is_quiet c = settled_nothing c.args.apart c.args.apart refl

pub returns : goal.returns
returns c =
    let u = c.args.apart in
    let ρ = c.stored.ensures.0 in
    let side = rename c.stored.result.now ρ in
    settled_current u u c.in_ok-apart.apart side (sym c.stored.ensures.1) (quiet_renamed ρ (c.is_quiet.ensures.0 c.if-not-is_quiet.false)) c.in_ok-apart.ensures
