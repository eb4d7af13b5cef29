use Rattle.std.proofs.Common.{◌∙◌, sym, subst, refl, arith}
use Rattle.chw_terms.specs.declared.scene.Sort.TheVariants.{Circuit}
use Rattle.net_built.specs.Bodies.{SideBuilt}
use Rattle.net_built.specs.Circuits.{Ground}
use Rattle.net_ready.specs.Ready.{types_on, SideReady}
use Rattle.value_build.specs.Added.{Adds, next}
use Rattle.value_build.specs.InScope.{in_scope}
use Rattle.value_build.proofs.Rows.{GroupSoFar, group_begun, group_grown, group_whole}
use Rattle.value_build.proofs.Ready.{side_at}
use Rattle.circuit_build.proofs.circuits.sides.Goals as goal

pub side-requires : goal.side-requires
side-requires c =
    let b = c.binding-item.result in
    let vars = types_on (in_scope c.args.scope.now) in
    record {
      ready = subst (λ (g : Ground). SideReady g.datas Circuit vars b.ty b.body) (sym c.loop-binding.invariant.1)
          (side_at c.args.bindings.now c.loop-binding.binding-index b c.requires.ready c.loop-binding-test.true c.binding-item.is);
    }

pub loop-binding-init : goal.loop-binding-init
loop-binding-init c =
    let s = c.args.into.now in
    let scope = in_scope c.args.scope.now in (
      subst (λ ws. Adds (GroupSoFar c.args.base.now Circuit scope (next s) c.args.bindings.now 0 ws) s s)
          (sym c.new-found.ensures.items) (group_begun c.args.base.now Circuit scope c.args.bindings.now s),
      refl,
    )

pub loop-binding-preserved : goal.loop-binding-preserved
loop-binding-preserved c =
    let so = c.loop-binding.invariant in
    let b = c.binding-item.result in
    let ws = c.in_ok-side.field-0 in
    let scope = in_scope c.args.scope.now in
    let s = c.loop-binding.into in
    let u = c.side.new.into in (
      group_grown c.args.base.now Circuit scope c.args.bindings.now c.loop-binding.binding-index b
          c.loop-binding.found.items c.push.new.self.items ws c.args.into.now s u
          c.loop-binding-test.true c.binding-item.is c.in_ok-push.ensures.items so.0
          (subst (λ (g : Ground). Adds (λ p. SideBuilt g Circuit scope (next s) b.ty b.body p ws) s u) so.1 c.in_ok-side.ensures.built),
      c.side.ensures.same ∙ so.1,
    )

pub returns-clause-built : goal.returns-clause-built
returns-clause-built c =
    group_whole c.args.base.now Circuit (in_scope c.args.scope.now) c.args.bindings.now c.loop-binding.binding-index c.loop-binding.found.items
    c.args.into.now c.loop-binding.into (omega (arith, c.loop-binding-test.false)) c.loop-binding.invariant.0
