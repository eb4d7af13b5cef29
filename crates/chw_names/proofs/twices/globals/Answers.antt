use Rattle.chw_names.proofs.Spaces.{globals_meet}
use Rattle.chw_names.proofs.twices.globals.Goals as goal

pub returns : goal.returns
returns c = globals_meet c.args.declarations.now c.in_ok-space.ensures c.in_ok-space-2.ensures c.in_ok-space-3.ensures c.in_ok-space-4.ensures
