use Rattle.std.proofs.Common.{◌≡◌, ◌∙◌, List, ℕ, ap, sym, subst, length, take}
use Rattle.std.proofs.lemmas.Result.{IfOk-weaker}
use Rattle.chw_terms.specs.declared.scene.Sort.TheVariants.{Circuit}
use Rattle.chw_terms.specs.TermView.{group_of}
use Rattle.net_built.specs.Bodies.{GroupBuilt}
use Rattle.net_built.specs.Terms.{Variable}
use Rattle.net_built.specs.Wires.{Piece}
use Rattle.net_ready.specs.Ready.{types_on, GroupReady}
use Rattle.value_build.specs.Added.{Adds, next}
use Rattle.value_build.specs.Groups.{bound_of}
use Rattle.value_build.specs.InScope.{as_variables, in_scope}
use Rattle.value_build.proofs.Scopes.{scope_left}
use Rattle.circuit_build.proofs.CircuitSides.{ok_anyway}
use Rattle.circuit_build.proofs.Readiness.{types_bound}
use Rattle.circuit_build.proofs.circuits.wires_of_bindings.Goals as goal

pub sides-found-requires : goal.sides-found-requires
sides-found-requires c =
    let bs = c.args.bindings.now in
    let outer = as_variables c.args.scope.now.items in
    let inner = as_variables c.enter.new.scope.items in
    record {
      ready = subst (λ vars. GroupReady c.args.base.now.datas Circuit vars (group_of bs))
          (sym (ap (λ vs. types_on (in_scope vs)) c.deref-2.ensures.value ∙ types_bound bs c.deref.result.now outer inner c.in_ok-enter.ensures))
          c.requires.ready;
    }

pub returns-clause-built : goal.returns-clause-built
returns-clause-built c =
    let bs = c.args.bindings.now in
    let ground = c.args.base.now in
    let scope = in_scope c.deref-2.result.now in
    let s = c.in_ok-scratch.scratch in
    let t = c.sides-found.new.into in
    IfOk-weaker c.sides-found.result
    (λ ws. Adds (λ p. GroupBuilt ground Circuit scope (next s) (group_of bs) p (bound_of bs ws.items)) s t)
    (λ ws. (outer : List Variable) × (p : Piece) × GroupBuilt ground Circuit outer (length c.args.inputs.now) (group_of bs) p (bound_of bs ws.items))
    (λ ws built. (scope, built.piece, subst (λ (n : ℕ). GroupBuilt ground Circuit scope n (group_of bs) built.piece (bound_of bs ws.items)) (ap (λ (p : Piece). next p) c.in_ok-scratch.ensures) built.holds))
    c.sides-found.ensures.built

pub returns-clause-scope : goal.returns-clause-scope
returns-clause-scope c =
    let outer = c.args.scope.now.items in
    let left : c.len-left.result ≡ length outer = c.len-left.ensures ∙ c.args.scope.now.ok.0 in
    ok_anyway c.sides-found.result (c.truncate.new.self.items ≡ outer)
    (c.truncate.ensures.items
    ∙ (λ i. take (left i) c.enter.new.scope.items)
    ∙ scope_left outer c.enter.new.scope.items (bound_of c.args.bindings.now c.deref.result.now) c.in_ok-enter.ensures)
