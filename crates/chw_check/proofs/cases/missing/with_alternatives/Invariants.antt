use Rattle.std.proofs.Common.{drop}
use Rattle.chw_check.proofs.Handled.{Handles}
use Rattle.chw_check.proofs.cases.missing.with_alternatives.Given as goal

-- a constructor has an alternative where it is in the set or has one among what is left
abbrev pub invariant-loop-alternative : goal.invariant-loop-alternative
invariant-loop-alternative l = Handles l.cons.keys l.alts (drop l.alternative-index l.alts)
