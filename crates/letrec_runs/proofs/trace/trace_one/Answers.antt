use Rattle.std.proofs.Common.{ap}
use Rattle.letrec_runs.proofs.trace.trace_one.Goals as goal

pub returns-clause-ok : goal.returns-clause-ok
returns-clause-ok c = (_, c.in_ok-push.ensures.items, ap (λ q. record { number = c.args.top.made.number; path = q; rule = c.args.rule }) c.in_ok-path.ensures)
