use Rattle.std.proofs.Common.{length}
use Rattle.chw_typing.proofs.finding.+part.Given as goal

abbrev pub decreases-part : goal.decreases-part
decreases-part l = length l.path.now
