use Rattle.chw_parser.proofs.Ahead.{ahead_none, next_part, next_act, next_refused, next_nothing}
use Rattle.chw_parser.proofs.machine.advance.Goals as goal

pub loop-symbol-init : goal.loop-symbol-init
loop-symbol-init c = ahead_none _ _ _

pub loop-symbol-preserved : goal.loop-symbol-preserved
loop-symbol-preserved c =
    next_part c.loop-symbol.invariant c.in-Some.ensures c.in-Part.is c.in-Some-production.ensures c.in_ok-push_all-in-Part.ensures

pub loop-symbol-preserved-in-Continue-1 : goal.loop-symbol-preserved-in-Continue-1
loop-symbol-preserved-in-Continue-1 c = next_act c.loop-symbol.invariant c.in-Some.ensures c.in-Act.is c.in_ok-act-in-Act.ensures

pub returns-in_default-production : goal.returns-in_default-production
returns-in_default-production c = next_refused c.loop-symbol.invariant c.in-Some.ensures c.in-Part.is c.in_default-production.ensures

pub returns : goal.returns
returns c = next_nothing c.loop-symbol.invariant c.in_default.ensures.0
