use Rattle.std.proofs.Common.{subst}
use Rattle.normal_form.specs.States.{State}
use Rattle.normal_form.specs.UseOrders.{EachIsWhole, UsesAreThere}
use Rattle.normal_form.proofs.There.{uses_are_there, each_is_whole}
use Rattle.normal_form.proofs.states.Normal.made.Goals as goal

pub returns-clause-there : goal.returns-clause-there
returns-clause-there c =
    subst (λ (s : State). UsesAreThere s.made) c.self.view_is (uses_are_there c.self.inside.program.now c.self.inside.made.now c.self.invariant.normal)

pub returns-clause-wholes : goal.returns-clause-wholes
returns-clause-wholes c =
    subst (λ (s : State). EachIsWhole s.made) c.self.view_is
    (each_is_whole c.self.inside.program.now c.self.inside.made.now c.self.invariant.normal c.self.invariant.acyclic)
