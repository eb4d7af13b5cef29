use Rattle.judge.proofs.Verdicts.{blocked_verdict, normal_verdict, scene_state}
use Rattle.judge.proofs.judging.judge.Goals as goal

pub returns-in-Some-clause-verdict : goal.returns-in-Some-clause-verdict
returns-in-Some-clause-verdict c =
    let scene = c.args.scene.now in
    blocked_verdict c.normal_is_not_blocked.ensures scene.program.now scene.made.now
    c.requires.made.0 c.args.it.now c.in-Some.part c.in_ok-part.field-0
    (scene_state scene c.requires.typed) c.requires.made.1 c.in-Some.is c.in_ok-part.ensures.first

pub returns-in-None-clause-verdict : goal.returns-in-None-clause-verdict
returns-in-None-clause-verdict c =
    let scene = c.args.scene.now in
    normal_verdict c.none_is_stuck.ensures.body scene.program.now scene.made.now
    c.requires.made.0 c.args.it.now c.in_ok-part.field-0 (scene_state scene c.requires.typed)
    c.requires.ended c.requires.made.1 c.in-None.is c.in_ok-part.ensures.first
