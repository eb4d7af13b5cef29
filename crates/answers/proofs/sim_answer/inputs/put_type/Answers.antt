use Rattle.std.proofs.Common.{[], ◌∷◌, ◌++◌, ap, refl, ◌∙◌, arith}
use Rattle.answers.proofs.SimAnswer.Parameters.{adds_empty, adds_wide}
use Rattle.answers.proofs.sim_answer.inputs.put_type.Goals as goal

pub returns-then-width-eq0-clause-put : goal.returns-then-width-eq0-clause-put
returns-then-width-eq0-clause-put c =
    adds_empty c.args.leaf.now c.in_ok-width.width c.args.types.now.items c.args.types.now.items c.in_ok-width.ensures.width (omega arith) refl

pub returns-clause-put : goal.returns-clause-put
returns-clause-put c =
    adds_wide c.args.leaf.now c.in_ok-width.width c.args.types.now.items c.push.new.self.items c.in_ok-width.ensures.width (omega arith)
    (c.in_ok-push.ensures.items ∙ ap (λ t. c.args.types.now.items ++ t ∷ []) c.in_ok-copy.ensures)
