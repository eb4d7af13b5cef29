use Rattle.std.proofs.Common.{[], sym, subst, arith}
use Rattle.blocked_places.specs.Cycles.{AreOfVariables}
use Rattle.blocked_places.proofs.Listed.{of_none, variables_next, variables_end}
use Rattle.blocked_places.proofs.cycles.listed.Goals as goal

pub loop-variable-init : goal.loop-variable-init
loop-variable-init c =
    subst (AreOfVariables c.args.count c.args.flags.now []) (sym c.new-list.ensures.items)
    (of_none c.args.count c.args.flags.now)

pub loop-variable-preserved : goal.loop-variable-preserved
loop-variable-preserved c =
    variables_next c.args.count c.args.flags.now c.loop-variable.variable-index c.args.variables.now _ c.loop-variable.list.items
    c.push_counted.new.list.items c.loop-variable-test.true c.loop-variable.invariant c.in_ok-push_counted.ensures

pub returns : goal.returns
returns c =
    variables_end c.args.count c.args.flags.now c.loop-variable.variable-index c.args.variables.now c.loop-variable.list.items
    (omega (arith, c.loop-variable-test.false)) c.loop-variable.invariant
