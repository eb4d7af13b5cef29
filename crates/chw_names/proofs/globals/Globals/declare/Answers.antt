use Rattle.std.proofs.Common.{ap}
use Rattle.chw_names.specs.declared.globals.Globals.{Globals}
use Rattle.chw_names.proofs.Spaces.{globals_meet}
use Rattle.chw_names.proofs.globals.Globals.declare.Goals as goal

pub returns-clause-twices : goal.returns-clause-twices
returns-clause-twices c none =
    globals_meet c.args.declarations.now (c.in_ok-names_in.ensures.twices (ap (λ (g : Globals). g.domains) none)) (c.in_ok-names_in-2.ensures.twices (ap (λ (g : Globals). g.data_types) none))
    (c.in_ok-names_in-3.ensures.twices (ap (λ (g : Globals). g.constructors) none)) (c.in_ok-names_in-4.ensures.twices (ap (λ (g : Globals). g.definitions) none))
