use Rattle.std.proofs.Common.{List, sym, subst}
use Rattle.std.proofs.lemmas.Result.{IfOk-weaker}
use Rattle.chw_terms.specs.declared.scene.Sort.TheVariants.{Circuit}
use Rattle.chw_terms.specs.TermTree.{TermTree, letrec, var}
use Rattle.chw_terms.specs.TermView.{group_of}
use Rattle.chw_typing.specs.Scopes.{with_more, declared}
use Rattle.net_built.specs.Bodies.{BlockBuilt, GroupBuilt}
use Rattle.net_built.specs.Circuits.{Ground}
use Rattle.net_ready.specs.Ready.{types_on, GroupReady}
use Rattle.value_build.specs.Added.{Adds, next}
use Rattle.value_build.specs.Groups.{bound_of}
use Rattle.value_build.specs.InScope.{in_scope}
use Rattle.value_build.specs.declared.scope.Variable.{Variable as Held}
use Rattle.value_build.proofs.Ready.{letrec_group, letrec_name}
use Rattle.circuit_build.proofs.circuits.letrec.Goals as goal

pub name_of-x-requires : goal.name_of-x-requires
name_of-x-requires c = letrec_name c.requires.ready

pub wires_of_bindings-requires : goal.wires_of_bindings-requires
wires_of_bindings-requires c = record { ready = letrec_group c.requires.ready }

pub variable_in-outputs-requires-clause-ready : goal.variable_in-outputs-requires-clause-ready
variable_in-outputs-requires-clause-ready c =
    let bs = c.args.bindings.now in
    subst (λ (g : Ground). GroupReady g.datas Circuit (with_more (declared (group_of bs)) (types_on (in_scope c.wires_of_bindings.new.scope.items))) (group_of bs)) (sym c.wires_of_bindings.ensures.same)
    (subst (λ (vs : List Held). GroupReady c.args.base.now.datas Circuit (with_more (declared (group_of bs)) (types_on (in_scope vs))) (group_of bs)) (sym c.in_ok-wires.ensures.scope)
    (letrec_group c.requires.ready))

pub variable_in-outputs-requires-clause-known : goal.variable_in-outputs-requires-clause-known
variable_in-outputs-requires-clause-known c =
    let bs = c.args.bindings.now in
    let b = c.in_ok-wires.ensures.built in (
      b.0,
      b.1,
      subst (λ ws. GroupBuilt c.wires_of_bindings.new.base Circuit b.0 (next c.args.into.now) (group_of bs) b.1 (bound_of bs ws)) (sym c.deref.ensures.value)
          (subst (λ (g : Ground). GroupBuilt g Circuit b.0 (next c.args.into.now) (group_of bs) b.1 (bound_of bs c.in_ok-wires.wires.items)) (sym c.wires_of_bindings.ensures.same)
          (subst (λ n. GroupBuilt c.args.base.now Circuit b.0 n (group_of bs) b.1 (bound_of bs c.in_ok-wires.wires.items)) (sym c.requires.fresh) b.2)),
    )

pub returns-clause-built : goal.returns-clause-built
returns-clause-built c =
    let bs = c.args.bindings.now in
    let x = c.name_of-x.result.number in
    let s = c.args.into.now in
    let t = c.variable_in-outputs.new.into in
    let later = c.wires_of_bindings.new.scope.items in
    IfOk-weaker c.variable_in-outputs.result
    (λ ws. Adds (λ p. BlockBuilt c.wires_of_bindings.new.base Circuit (in_scope later) (next s) (letrec (group_of bs) (var x)) p ws) s t)
    (λ ws. Adds (λ p. BlockBuilt c.args.base.now Circuit (in_scope c.args.scope.now.items) (next s) (letrec (group_of bs) c.args.body.now) p ws) s t)
    (λ ws built.
    subst (λ (e : TermTree). Adds (λ p. BlockBuilt c.args.base.now Circuit (in_scope c.args.scope.now.items) (next s) (letrec (group_of bs) e) p ws) s t) (sym c.name_of-x.ensures)
    (subst (λ vs. Adds (λ p. BlockBuilt c.args.base.now Circuit (in_scope vs) (next s) (letrec (group_of bs) (var x)) p ws) s t) c.in_ok-wires.ensures.scope
    (subst (λ (g : Ground). Adds (λ p. BlockBuilt g Circuit (in_scope later) (next s) (letrec (group_of bs) (var x)) p ws) s t) c.wires_of_bindings.ensures.same built)))
    c.variable_in-outputs.ensures.built
