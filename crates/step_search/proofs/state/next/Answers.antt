use Rattle.trials.specs.Trials.{built}
use Rattle.active_parts.proofs.Options.{ok_more}
use Rattle.step_search.proofs.States.{next_of_all}
use Rattle.step_search.proofs.state.next.Goals as goal

pub returns : goal.returns
returns g c =
    let scene = c.args.scene.now in
    ok_more c.next_from.result _ _
    (λ answer is. next_of_all built scene.program.now scene.made.now c.open-from.result.made.number c.open-from.result.path.items answer
    c.open-from.ensures.first c.open-from.ensures.root is)
    c.next_from.ensures.first
