use Rattle.judge.proofs.Places.{first_in, none_in}
use Rattle.judge.proofs.states.blocked_in.Goals as goal

pub judge-requires-clause-made : goal.judge-requires-clause-made
judge-requires-clause-made c = (c.args.number, c.requires.is)

pub returns-in-Normal-clause-found : goal.returns-in-Normal-clause-found
returns-in-Normal-clause-found c =
    let scene = c.args.scene.now in
    none_in scene.program.now scene.made.now c.args.it.now c.args.number c.in_ok-judge.field-0
    c.requires.is c.in-Normal.is c.in_ok-judge.ensures.verdict

pub returns-in_ok-placed_in-in-Blocked-clause-found : goal.returns-in_ok-placed_in-in-Blocked-clause-found
returns-in_ok-placed_in-in-Blocked-clause-found c =
    let scene = c.args.scene.now in
    first_in scene.program.now scene.made.now c.args.it.now c.args.number c.in-Blocked.part
    c.in_ok-judge.field-0 c.in_ok-placed_in-in-Blocked.field-0 c.requires.is c.in-Blocked.is
    c.in_ok-placed_in-in-Blocked.ensures c.in_ok-judge.ensures.verdict
