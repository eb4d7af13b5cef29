use Rattle.std.proofs.Common.{◌≡◌, ◌-◌}
use Rattle.chw_terms.specs.declared.term.Pattern.TheVariants.{OfCon}
use Rattle.chw_terms.specs.TermTree.{var, case_of, alt, no_alts}
use Rattle.chw_terms.specs.Unrolled.{each}
use Rattle.flow_cases.proofs.projections.projections.Given as goal

abbrev pub invariant-loop-field : goal.invariant-loop-field
invariant-loop-field l =
    l.done.items ≡ each l.field (λ i. case_of (var l.of.number) (alt (OfCon l.con l.names) (var (l.names - 1 - i)) no_alts))
