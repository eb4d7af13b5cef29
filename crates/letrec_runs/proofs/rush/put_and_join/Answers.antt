use Rattle.std.proofs.Common.{◌≡◌, ◌∙◌, length, subst}
use Rattle.letrec_runs.specs.Traced.{TracesJoin}
use Rattle.letrec_runs.proofs.rush.put_and_join.Goals as goal

pub joined-requires-clause-stands : goal.joined-requires-clause-stands
joined-requires-clause-stands c = (c.args.outer.now, c.requires.stands)

pub returns-clause-place : goal.returns-clause-place
returns-clause-place c = c.in_ok-rush.ensures.place c.args.outer.now c.requires.stands

pub returns-clause-traced : goal.returns-clause-traced
returns-clause-traced c =
    let is : c.in_ok-number.number ≡ length c.args.rush.apart.settled = c.in_ok-number.ensures.narrow ∙ c.settled.ensures in
    subst (λ n. TracesJoin c.args.top.made.number c.args.top.path.now c.args.trace.now.items c.trace_joined.new.trace.items n c.args.rule) is c.in_ok-trace_joined.ensures.ok
