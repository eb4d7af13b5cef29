use Rattle.trials.specs.Trials.{built}
use Rattle.active_parts.proofs.Options.{ok_more}
use Rattle.step_search.proofs.LookedStates.{looked_in_made}
use Rattle.step_search.proofs.States.{found_in_made, made_leads}
use Rattle.step_search.proofs.state.in_number.Goals as goal

pub in_made-requires : goal.in_made-requires
in_made-requires g c = record {
  ground = c.requires.ground;
  same = c.requires.same;
  typed = made_leads c.place_of_scene_is_typed.ensures c.args.ground.now.scene.now c.args.number c.args.it.now c.requires.typed c.requires.is;
}

pub returns : goal.returns
returns g c =
    let scene = c.args.ground.now.scene.now in
    let from = c.args.from.now in
    record {
      first =
          ok_more c.found_in.result _ _
          (λ answer is. found_in_made built scene.program.now scene.made.now c.args.it.now c.args.number from.made.number from.path.items c.begin_in-path.result.now
          c.in_ok-in_made.field-0 answer c.requires.is c.begin_in-path.ensures c.in_ok-in_made.ensures.first is)
          c.found_in.ensures;
      looks =
          looked_in_made built scene.program.now scene.made.now c.args.it.now c.args.number from.made.number from.path.items c.begin_in-path.result.now (g.R.Looks.looks c.args.rules.now) (g.R.Looks.looks c.in_made.new.rules)
          c.requires.is c.begin_in-path.ensures c.in_made.ensures.looks;
    }

pub returns-in_err-in_made-clause-looks : goal.returns-in_err-in_made-clause-looks
returns-in_err-in_made-clause-looks g c =
    let scene = c.args.ground.now.scene.now in
    let from = c.args.from.now in
    looked_in_made built scene.program.now scene.made.now c.args.it.now c.args.number from.made.number from.path.items c.begin_in-path.result.now (g.R.Looks.looks c.args.rules.now) (g.R.Looks.looks c.in_made.new.rules)
    c.requires.is c.begin_in-path.ensures c.in_made.ensures.looks
