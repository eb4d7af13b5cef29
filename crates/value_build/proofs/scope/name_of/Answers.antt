use Rattle.std.proofs.Common.{ap}
use Rattle.chw_terms.specs.TermView.{tree_of}
use Rattle.value_build.proofs.Ready.{name_is, no_other_name}
use Rattle.value_build.proofs.scope.name_of.Goals as goal

pub returns : goal.returns
returns c = name_is c.e.inside.head c.e.inside.args.items c.args.e.now c.in-Var.x.number c.e.view_is c.requires (ap tree_of c.in-Var.is)

pub unreachable-requires : goal.unreachable-requires
unreachable-requires c = no_other_name c.e.inside.head c.e.inside.args.items c.args.e.now c.e.view_is c.requires c.in_default.not-Var
