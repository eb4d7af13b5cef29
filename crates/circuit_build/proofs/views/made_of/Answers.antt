use Rattle.std.proofs.Common.{◌∙◌, sym, subst}
use Rattle.circuit_build.specs.Shapes.{IsMade}
use Rattle.circuit_build.proofs.Readiness.{made_head}
use Rattle.circuit_build.proofs.views.made_of.Goals as goal

pub made_of_head-requires : goal.made_of_head-requires
made_of_head-requires c = subst IsMade (sym (made_head c.e.inside.head c.e.inside.args.items c.args.e.now c.e.view_is c.requires)) c.requires

pub returns : goal.returns
returns c = sym (made_head c.e.inside.head c.e.inside.args.items c.args.e.now c.e.view_is c.requires) ∙ c.made_of_head.ensures
