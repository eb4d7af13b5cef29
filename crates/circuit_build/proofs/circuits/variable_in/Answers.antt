use Rattle.std.proofs.Common.{◌≡◌, ◌∙◌, ap, sym, subst, refl}
use Rattle.std.proofs.lemmas.Result.{IfOk-weaker}
use Rattle.chw_terms.specs.declared.scene.Sort.TheVariants.{Circuit}
use Rattle.chw_terms.specs.TermTree.{letrec, var}
use Rattle.chw_terms.specs.TermView.{group_of}
use Rattle.net_built.specs.Bodies.{BlockBuilt, GroupBuilt}
use Rattle.net_built.specs.Terms.{wires_at}
use Rattle.net_ready.specs.Ready.{types_on, GroupReady}
use Rattle.value_build.specs.Added.{Adds, next}
use Rattle.value_build.specs.Groups.{bound_of}
use Rattle.value_build.specs.InScope.{in_scope, as_variables}
use Rattle.value_build.proofs.Parts.{letrec_made}
use Rattle.circuit_build.proofs.Readiness.{types_bound}
use Rattle.circuit_build.proofs.circuits.variable_in.Goals as goal

pub group-requires-clause-ready : goal.group-requires-clause-ready
group-requires-clause-ready c =
    let bs = c.args.bindings.now in
    let outer = as_variables c.args.scope.now.items in
    let inner = as_variables c.enter.new.scope.items in
    subst (λ vars. GroupReady c.args.base.now.datas Circuit vars (group_of bs))
    (sym (ap (λ vs. types_on (in_scope vs)) c.deref.ensures.value ∙ types_bound bs c.args.wires.now outer inner c.in_ok-enter.ensures))
    c.requires.ready

pub returns-clause-built : goal.returns-clause-built
returns-clause-built c =
    let ground = c.args.base.now in
    let bs = c.args.bindings.now in
    let x = c.args.x.number in
    let wires = c.args.wires.now in
    let outer = as_variables c.args.scope.now.items in
    let later = c.enter.new.scope.items in
    let s = c.args.into.now in
    let t = c.group.new.into in
    IfOk-weaker c.copy_wires.result (λ same. same ≡ c.wires_at.result.now)
    (λ ws. Adds (λ p. BlockBuilt ground Circuit (in_scope c.args.scope.now.items) (next s) (letrec (group_of bs) (var x)) p ws) s t)
    (λ ws is. letrec_made ground Circuit bs x wires wires ws outer (as_variables later) s t c.in_ok-enter.ensures refl
    (is ∙ c.wires_at.ensures ∙ ap (λ vs. wires_at (in_scope vs) x) c.deref-2.ensures.value)
    (subst (λ vs. Adds (λ p. GroupBuilt ground Circuit (in_scope vs) (next s) (group_of bs) p (bound_of bs wires)) s t) c.deref.ensures.value c.in_ok-group.ensures.built))
    c.copy_wires.ensures
