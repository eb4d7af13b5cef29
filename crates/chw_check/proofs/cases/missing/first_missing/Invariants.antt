use Rattle.chw_terms.specs.TermView.{alts_of}
use Rattle.chw_check.proofs.Numbered.{AllBefore}
use Rattle.chw_check.proofs.cases.missing.first_missing.Given as goal

-- each constructor before this place has an alternative
abbrev pub invariant-loop-place : goal.invariant-loop-place
invariant-loop-place l = AllBefore l.first (alts_of l.alts) l.place
