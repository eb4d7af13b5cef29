use Rattle.std.proofs.Common.{[], ◌∷◌, ◌++◌, arith, ap, ◌∙◌}
use Rattle.term_frames.proofs.Built.{variables_next, variables_all}
use Rattle.term_frames.proofs.constructors.variables.Goals as goal

pub loop-i-preserved : goal.loop-i-preserved
loop-i-preserved c =
    variables_next c.loop-i.done.items c.push.new.self.items c.args.count c.loop-i.i c.loop-i-test.true
    (c.in_ok-push.ensures.items ∙ ap (λ t. c.loop-i.done.items ++ t ∷ []) c.var.ensures) c.loop-i.invariant

pub returns : goal.returns
returns c = variables_all c.loop-i.done.items c.args.count c.loop-i.i (omega (arith, c.loop-i-test.false)) c.loop-i.invariant
