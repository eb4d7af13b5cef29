use Rattle.parser_parts.proofs.Peaks.{taken}
use Rattle.parser_parts.proofs.heights.pop_peak.Goals as goal

pub loop-left-preserved : goal.loop-left-preserved
loop-left-preserved c =
    taken c.loop-left.left c.loop-left.highest c.max-highest.result c.pop.result c.loop-left.heights c.pop.new.heights _ _ c.loop-left-test.true
    c.pop.ensures.first c.pop.ensures.rest c.max-highest.ensures c.loop-left.invariant
