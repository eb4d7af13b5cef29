use Rattle.std.proofs.Common.{◌≡◌, ◌∙◌, sym, subst}
use Rattle.std.proofs.lemmas.Result.{IfOk-weaker}
use Rattle.chw_types.specs.TypeTree.{TypeTree}
use Rattle.chw_terms.specs.declared.scene.Sort.TheVariants.{Circuit}
use Rattle.net_built.specs.Bodies.{SideBuilt}
use Rattle.net_built.specs.Circuits.{Ground}
use Rattle.net_built.specs.Data.{HasParts}
use Rattle.net_built.specs.Terms.{head_of}
use Rattle.net_built.proofs.Parts.{parts_once}
use Rattle.net_ready.specs.Ready.{args_of, types_on, CircuitReady}
use Rattle.value_build.specs.Added.{Adds, next}
use Rattle.value_build.specs.InScope.{in_scope}
use Rattle.circuit_build.proofs.Readiness.{side_parts}
use Rattle.circuit_build.proofs.circuits.side.Goals as goal

pub port_parts-requires : goal.port_parts-requires
port_parts-requires c = let p = side_parts c.requires.ready in record { port = (p.0, p.1) }

pub side_of-requires : goal.side_of-requires
side_of-requires c =
    let b = c.args.binding.now in
    let vars = types_on (in_scope c.args.scope.now) in
    let p = side_parts c.requires.ready in
    let same : p.0 ≡ c.deref.result.now = parts_once p.1 c.in_ok-widths.ensures.parts ∙ sym c.deref.ensures.value in
    record {
      ready = subst (λ (g : Ground). CircuitReady g.datas vars c.deref.result.now (head_of b.body) (args_of b.body)) (sym c.port_parts.ensures.same)
          (subst (λ ws. CircuitReady c.args.base.now.datas vars ws (head_of b.body) (args_of b.body)) same p.2);
    }

pub returns-clause-built : goal.returns-clause-built
returns-clause-built c =
    let ground = c.args.base.now in
    let later = c.port_parts.new.base in
    let b = c.args.binding.now in
    let scope = in_scope c.args.scope.now in
    let s = c.args.into.now in
    let u = c.side_of.new.into in
    let given = c.deref.result.now in
    let parts = subst (λ (g : Ground). HasParts g.datas Circuit b.ty given) (sym c.port_parts.ensures.same)
    (subst (HasParts ground.datas Circuit b.ty) (sym c.deref.ensures.value) c.in_ok-widths.ensures.parts) in
    IfOk-weaker c.side_of.result
    (λ ws. (t : TypeTree) → HasParts later.datas Circuit t given → Adds (λ p. SideBuilt later Circuit scope (next s) t b.body p ws) s u)
    (λ ws. Adds (λ p. SideBuilt ground Circuit scope (next s) b.ty b.body p ws) s u)
    (λ ws built. subst (λ (g : Ground). Adds (λ p. SideBuilt g Circuit scope (next s) b.ty b.body p ws) s u) c.port_parts.ensures.same (built b.ty parts))
    c.side_of.ensures.built
