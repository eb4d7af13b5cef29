use Rattle.letrec_runs.proofs.Listed.{both_traced}
use Rattle.letrec_runs.proofs.trace.trace_joined.Goals as goal

pub returns-clause-ok : goal.returns-clause-ok
returns-clause-ok c =
    both_traced c.args.top.made.number c.args.top.path.now c.args.side c.args.rule c.args.trace.now.items c.append.new.self.items _ c.trace_one.new.trace.items c.trace_one-2.new.trace.items
    c.new-both.ensures.items c.in_ok-trace_one.ensures.ok c.in_ok-trace_one-2.ensures.ok c.in_ok-append.ensures.items
