-- those so far, with those that still lead, and what is under them
use Rattle.std.proofs.Common.{◌≡◌, ◌+◌}
use Rattle.rewriting.specs.Shapes.{leading_lambdas}
use Rattle.norm_lines.specs.Lines.{under_lambdas}
use Rattle.norm_lines.proofs.counts.counts_of.Given as goal

abbrev pub invariant-loop-under : goal.invariant-loop-under
invariant-loop-under l =
    (leading_lambdas l.body ≡ l.params + leading_lambdas l.inner)
    × (under_lambdas l.body ≡ under_lambdas l.inner)

abbrev pub decreases-loop-under : goal.decreases-loop-under
decreases-loop-under l = leading_lambdas l.inner
