use Rattle.std.proofs.Common.{◌≡◌, ◌∙◌, ap, sym, subst, ℕ, IfOk}
use Rattle.std.proofs.lemmas.Result.{IfOk-weaker}
use Rattle.chw_terms.specs.declared.scene.Sort.TheVariants.{Circuit}
use Rattle.chw_terms.specs.TermTree.{TermTree, letrec, var}
use Rattle.chw_terms.specs.TermView.{group_of}
use Rattle.net_built.specs.Bodies.{BlockBuilt, block_variable}
use Rattle.net_built.specs.Terms.{wires_at}
use Rattle.net_built.specs.Wires.{nothing}
use Rattle.net_ready.specs.Ready.{types_on, BlockReady}
use Rattle.value_build.specs.Added.{Adds, next}
use Rattle.value_build.specs.InScope.{in_scope}
use Rattle.value_build.proofs.Behind.{adds_nothing}
use Rattle.circuit_build.specs.Shapes.{IsBlockForm}
use Rattle.circuit_build.specs.Views.{block_term}
use Rattle.circuit_build.proofs.Readiness.{block_head, block_form}
use Rattle.circuit_build.proofs.circuits.block.Goals as goal

pub block_of-requires : goal.block_of-requires
block_of-requires c =
    subst IsBlockForm (sym (block_head c.e.inside.head c.e.inside.args.items c.args.e.now c.e.view_is c.requires.ready)) (block_form c.requires.ready)

pub letrec-requires-clause-ready : goal.letrec-requires-clause-ready
letrec-requires-clause-ready c =
    let whole : c.args.e.now ≡ letrec (group_of c.in-Letrec.bindings.now) c.in-Letrec.body.now =
    sym (block_head c.e.inside.head c.e.inside.args.items c.args.e.now c.e.view_is c.requires.ready) ∙ c.block_of.ensures ∙ ap block_term c.in-Letrec.is in
    subst (λ (e : TermTree). BlockReady c.args.base.now.datas Circuit (types_on (in_scope c.args.scope.now.items)) e) whole c.requires.ready

pub returns-in-Variable-clause-built : goal.returns-in-Variable-clause-built
returns-in-Variable-clause-built c =
    let x : ℕ = c.in-Variable.x.number in
    let scope = in_scope c.args.scope.now.items in
    let into = c.args.into.now in
    let e = c.args.e.now in
    let whole : e ≡ var x =
    sym (block_head c.e.inside.head c.e.inside.args.items e c.e.view_is c.requires.ready) ∙ c.block_of.ensures ∙ ap block_term c.in-Variable.is in
    let wires : c.wires_at.result.now ≡ wires_at scope x =
    c.wires_at.ensures ∙ ap (λ vs. wires_at (in_scope vs) x) c.deref.ensures.value in
    IfOk-weaker c.copy_wires.result (λ same. same ≡ c.wires_at.result.now)
    (λ ws. Adds (λ p. BlockBuilt c.args.base.now Circuit scope (next into) e p ws) into into)
    (λ ws is. adds_nothing (λ p. BlockBuilt c.args.base.now Circuit scope (next into) e p ws) into
    (subst (λ f. BlockBuilt c.args.base.now Circuit scope (next into) f nothing ws) (sym whole)
    (subst (λ vs. BlockBuilt c.args.base.now Circuit scope (next into) (var x) nothing vs) (sym (is ∙ wires)) block_variable)))
    c.copy_wires.ensures

pub returns-in-Letrec-clause-built : goal.returns-in-Letrec-clause-built
returns-in-Letrec-clause-built c =
    let scope = in_scope c.args.scope.now.items in
    let into = c.args.into.now in
    let whole : c.args.e.now ≡ letrec (group_of c.in-Letrec.bindings.now) c.in-Letrec.body.now =
    sym (block_head c.e.inside.head c.e.inside.args.items c.args.e.now c.e.view_is c.requires.ready) ∙ c.block_of.ensures ∙ ap block_term c.in-Letrec.is in
    subst (λ (f : TermTree). IfOk c.letrec.result (λ ws. Adds (λ p. BlockBuilt c.args.base.now Circuit scope (next into) f p ws) into c.letrec.new.into))
    (sym whole) c.letrec.ensures.built
