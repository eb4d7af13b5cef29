use Rattle.std.proofs.Common.{ap, subst}
use Rattle.chw_prims.specs.declared.prim.Primitive.{Primitive as Prim}
use Rattle.circuit_build.specs.Lifting.{lifting}
use Rattle.circuit_build.specs.Shapes.{IsLiftedBy}
use Rattle.circuit_build.proofs.Readiness.{no_other_lifting}
use Rattle.circuit_build.proofs.views.lifted_by.Goals as goal

pub unreachable-requires : goal.unreachable-requires
unreachable-requires c = no_other_lifting c.args.which c.args.p.function.now c.in_default.not-Fmap c.in_default.not-Ap c.requires

pub returns-in-Fmap : goal.returns-in-Fmap
returns-in-Fmap c =
    (ap (λ (q : Prim). lifting q c.args.p) c.in-Fmap.is, subst (λ (q : Prim). IsLiftedBy q c.args.p.function.now) c.in-Fmap.is c.requires)

pub returns-in-Ap : goal.returns-in-Ap
returns-in-Ap c =
    (ap (λ (q : Prim). lifting q c.args.p) c.in-Ap.is, subst (λ (q : Prim). IsLiftedBy q c.args.p.function.now) c.in-Ap.is c.requires)
