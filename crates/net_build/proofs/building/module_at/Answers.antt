use Rattle.std.proofs.Common.{refl, length}
use Rattle.std.proofs.lemmas.Option.{slice_get_read}
use Rattle.std.proofs.lemmas.Result.{IfOk-weaker}
use Rattle.std.specs.List.{slice_index}
use Rattle.net_built.specs.Modules.{IsModuleOf}
use Rattle.net_build.specs.Nets.{IsModuleAt}
use Rattle.net_build.proofs.Nets.{at_place}
use Rattle.net_build.proofs.building.module_at.Goals as goal

pub bounds-made-m : goal.bounds-made-m
bounds-made-m c =
    (at_place (length c.args.made.now) c.args.place c.args.base.now.order c.order.result.now c.order.ensures c.requires.place c.requires.below).1

pub module_of-requires : goal.module_of-requires
module_of-requires c =
    let made = c.args.made.now in
    let m = slice_index c.order.result.now c.args.place in
    let at = at_place (length made) c.args.place c.args.base.now.order c.order.result.now c.order.ensures c.requires.place c.requires.below in
    c.requires.ready m c.index-made-m.result (slice_get_read made (length made) m c.index-made-m.result refl at.1 c.index-made-m.is)

pub returns-clause-module : goal.returns-clause-module
returns-clause-module c =
    let ground = c.args.base.now in
    let made = c.args.made.now in
    let it = c.index-made-m.result in
    let m = slice_index c.order.result.now c.args.place in
    let at = at_place (length made) c.args.place ground.order c.order.result.now c.order.ensures c.requires.place c.requires.below in
    IfOk-weaker c.module_of.result (IsModuleOf ground it) (IsModuleAt ground made c.args.place)
    (λ built is. record {
      m = m;
      at = at.0;
      it = it;
      is = slice_get_read made (length made) m it refl at.1 c.index-made-m.is;
      is_module = is;
    })
    c.module_of.ensures.module
