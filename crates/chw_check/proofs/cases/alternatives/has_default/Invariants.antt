use Rattle.std.proofs.Common.{drop}
use Rattle.chw_check.proofs.Handled.{SameDefault}
use Rattle.chw_check.proofs.cases.alternatives.has_default.Given as goal

-- there is a default where there is one in what is left
abbrev pub invariant-loop-alternative : goal.invariant-loop-alternative
invariant-loop-alternative l = SameDefault l.alts (drop l.alternative-index l.alts)
