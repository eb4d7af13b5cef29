use Rattle.std.proofs.Common.{◌∙◌, ap, sym, subst, length, arith}
use Rattle.net_built.specs.Circuits.{Ground}
use Rattle.net_build.specs.Marks.{AreBelow}
use Rattle.net_build.specs.Nets.{EachIsReady, IsModuleAt}
use Rattle.net_build.proofs.Nets.{modules_grown, modules_whole}
use Rattle.net_build.proofs.building.modules.Goals as goal

pub module_at-requires-clause-place : goal.module_at-requires-clause-place
module_at-requires-clause-place c =
    let same = ap (λ (g : Ground). length g.order) c.loop-place.invariant.1 in
    let count = ap length c.order-count.ensures in
    omega (arith, c.loop-place-test.true, count, same)

pub module_at-requires-clause-below : goal.module_at-requires-clause-below
module_at-requires-clause-below c = subst (λ (g : Ground). AreBelow (length c.args.made.now) g.order) (sym c.loop-place.invariant.1) c.requires.below

pub module_at-requires-clause-ready : goal.module_at-requires-clause-ready
module_at-requires-clause-ready c = subst (λ (g : Ground). EachIsReady g.datas c.args.made.now) (sym c.loop-place.invariant.1) c.requires.ready

pub loop-place-preserved : goal.loop-place-preserved
loop-place-preserved c =
    let same = c.loop-place.invariant.1 in
    let built = c.in_ok-module_at.field-0 in (
      modules_grown c.args.base.now c.args.made.now c.loop-place.place built c.loop-place.modules.items c.push.new.self.items
          (subst (λ (g : Ground). IsModuleAt g c.args.made.now c.loop-place.place built) same c.in_ok-module_at.ensures.module)
          c.in_ok-push.ensures.items c.loop-place.invariant.0,
      c.module_at.ensures.same ∙ same,
    )

pub returns-clause-modules : goal.returns-clause-modules
returns-clause-modules c =
    modules_whole c.args.base.now c.args.made.now c.loop-place.place c.loop-place.modules.items
    (omega (arith, c.loop-place-test.false, ap length c.order-count.ensures)) c.loop-place.invariant.0
