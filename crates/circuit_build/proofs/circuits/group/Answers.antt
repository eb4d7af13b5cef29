use Rattle.std.proofs.Common.{subst}
use Rattle.chw_terms.specs.declared.scene.Sort.TheVariants.{Circuit}
use Rattle.chw_terms.specs.TermView.{group_of}
use Rattle.net_built.specs.Bodies.{GroupBuilt}
use Rattle.value_build.specs.Added.{Adds, next}
use Rattle.value_build.specs.InScope.{in_scope}
use Rattle.circuit_build.proofs.BoundOnce.{group_results}
use Rattle.circuit_build.proofs.circuits.group.Goals as goal

pub returns-clause-built : goal.returns-clause-built
returns-clause-built c =
    let s = c.args.into.now in
    let built = c.in_ok-found.ensures.built in
    let same = group_results built.holds c.requires.known.2 in
    subst (λ b. Adds (λ p. GroupBuilt c.args.base.now Circuit (in_scope c.args.scope.now) (next s) (group_of c.args.bindings.now) p b) s c.sides.new.into)
    same.1 built
