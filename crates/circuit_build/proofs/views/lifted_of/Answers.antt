use Rattle.std.proofs.Common.{◌∙◌, sym, subst}
use Rattle.chw_terms.specs.TermTree.{TermTree}
use Rattle.circuit_build.specs.Shapes.{IsLifting}
use Rattle.circuit_build.specs.Views.{IsReadLifted}
use Rattle.circuit_build.proofs.Readiness.{lifted_by, lifted_spine, lifted_whole}
use Rattle.circuit_build.proofs.views.lifted_of.Goals as goal

pub of_lifting-p-requires : goal.of_lifting-p-requires
of_lifting-p-requires c =
    subst IsLifting (sym c.deref.ensures.value) (lifted_spine c.u.inside.head c.u.inside.args.items c.args.u.now c.u.view_is c.requires).1

pub prim_of-which-requires : goal.prim_of-which-requires
prim_of-which-requires c = (lifted_spine c.u.inside.head c.u.inside.args.items c.args.u.now c.u.view_is c.requires).0

pub lifted_by-requires : goal.lifted_by-requires
lifted_by-requires c =
    lifted_by c.u.inside.head c.u.inside.args.items c.args.u.now c.prim_of-which.result c.of_lifting-p.result
    c.u.view_is c.requires c.prim_of-which.ensures (sym c.deref.ensures.value ∙ c.of_lifting-p.ensures)

pub returns : goal.returns
returns c =
    subst (λ (u : TermTree). IsReadLifted c.lifted_by.result u)
    (lifted_whole c.u.inside.head c.u.inside.args.items c.args.u.now c.prim_of-which.result c.of_lifting-p.result
    c.u.view_is c.prim_of-which.ensures (sym c.deref.ensures.value ∙ c.of_lifting-p.ensures))
    c.lifted_by.ensures
