use Rattle.chw_check.proofs.Handled.{handles_others, handles_it}
use Rattle.chw_check.proofs.cases.missing.with_alternatives.Goals as goal

pub loop-alternative-preserved-in_default : goal.loop-alternative-preserved-in_default
loop-alternative-preserved-in_default c =
    let l = c.loop-alternative in
    handles_others l.cons.keys c.args.alts.now l.alternative-index c.alternative-item.result _ c.loop-alternative-test.true c.alternative-item.is c.in_default.not-OfCon l.invariant

pub loop-alternative-preserved : goal.loop-alternative-preserved
loop-alternative-preserved c =
    let l = c.loop-alternative in
    handles_it l.cons.keys c.insert.new.self.keys c.args.alts.now l.alternative-index c.alternative-item.result _ c.in-OfCon.at c.in-OfCon.field-1 c.loop-alternative-test.true c.alternative-item.is c.in-OfCon.is c.in_ok-insert.ensures.updates.0 l.invariant
