use Rattle.std.proofs.Common.{sym, subst}
use Rattle.std.proofs.lemmas.Result.{IfOk-weaker}
use Rattle.answers.specs.SimAnswer.Types.{ShowsRun}
use Rattle.answers.proofs.sim_answer.simulating.run_in.Goals as goal

pub returns-in-Lines : goal.returns-in-Lines
returns-in-Lines c =
    IfOk-weaker c.run.result _ _
    (λ text r. subst (λ form. ShowsRun form c.args.flat.now c.args.events.now text.items) (sym c.in-Lines.is)
    (record { outputs = r.outputs; are_outputs = r.shown; text_is = r.text_is }))
    c.run.ensures

pub returns-in-Waves : goal.returns-in-Waves
returns-in-Waves c =
    IfOk-weaker c.run_waves.result _ _
    (λ text r. subst (λ form. ShowsRun form c.args.flat.now c.args.events.now text.items) (sym c.in-Waves.is)
    (record { outputs = r.outputs; are_outputs = r.shown; text_is = r.text_is }))
    c.run_waves.ensures
