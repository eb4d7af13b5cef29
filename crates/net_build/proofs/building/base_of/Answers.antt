use Rattle.std.proofs.Common.{◌∙◌, ap, sym, subst, length, List, ℕ}
use Rattle.net_built.specs.Circuits.{Ground}
use Rattle.net_built.specs.Modules.{IsOrderOfModules}
use Rattle.net_build.specs.Marks.{AreBelow}
use Rattle.net_build.specs.Nets.{EachIsReady}
use Rattle.net_build.proofs.building.base_of.Goals as goal

pub order_of-requires-clause-ready : goal.order_of-requires-clause-ready
order_of-requires-clause-ready c =
    subst (λ ds. EachIsReady ds c.args.made.now) (sym (ap (λ (g : Ground). g.datas) c.in_ok-base.ensures)) c.requires.ready

pub returns : goal.returns
returns c =
    let datas = c.args.datas.now in
    let made = c.args.made.now in
    let same = ap (λ (g : Ground). g.datas) c.in_ok-base.ensures in
    record {
      datas_are = ap (λ (g : Ground). g.datas) (c.in_order.ensures) ∙ ap (λ (g : Ground). g.datas) c.order_of.ensures.same ∙ same;
      is_order = subst (λ (order : List ℕ). IsOrderOfModules datas made order) (sym (ap (λ (g : Ground). g.order) c.in_order.ensures ∙ c.in_ok-places.ensures))
          (subst (λ ds. IsOrderOfModules ds made c.in_ok-order.order.items) same c.in_ok-order.ensures.order);
      below = subst (λ (order : List ℕ). AreBelow (length made) order) (sym (ap (λ (g : Ground). g.order) c.in_order.ensures ∙ c.in_ok-places.ensures)) c.in_ok-order.ensures.below;
    }
