use Rattle.letrec_runs.specs.Rush.{IsSettledOn}
use Rattle.letrec_runs.proofs.quiet.settle_all.Given as goal

abbrev pub invariant-loop : goal.invariant-loop
invariant-loop l = IsSettledOn l.fn.apart l.apart
