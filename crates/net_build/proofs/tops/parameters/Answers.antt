use Rattle.std.proofs.Common.{◌≡◌, ◌∙◌, ap, sym, subst, refl}
use Rattle.chw_types.specs.TypeTree.{fun}
use Rattle.chw_types.specs.TypeView.{tree_of}
use Rattle.type_ports.specs.Ports.{IsPort}
use Rattle.net_built.specs.Terms.{result_of}
use Rattle.net_build.proofs.Ends.{parameter_of}
use Rattle.net_build.proofs.Ports.{led_at_first, led_further}
use Rattle.net_build.proofs.tops.parameters.Goals as goal

pub loop-rest-init : goal.loop-rest-init
loop-rest-init c = (led_at_first c.args.base.now.datas c.args.t.now c.args.ins.now.items c.requires.none, c.requires.ends, refl)

pub add_leaves-requires : goal.add_leaves-requires
add_leaves-requires c =
    let datas = c.args.base.now.datas in
    subst (λ t. IsPort datas t) (sym c.deref.ensures)
    (parameter_of datas c.loop-rest.rest.now _ _ (sym c.rest.view_is ∙ ap tree_of c.in-Fun.is) c.loop-rest.invariant.1).0

pub loop-rest-preserved : goal.loop-rest-preserved
loop-rest-preserved c =
    let datas = c.args.base.now.datas in
    let a = c.deref.result.now in
    let b = c.deref-rest.result.now in
    let is : c.loop-rest.rest.now ≡ fun a b =
    sym c.rest.view_is ∙ ap tree_of c.in-Fun.is ∙ (λ i. fun (sym c.deref.ensures i) (sym c.deref-rest.ensures i)) in (
      led_further datas c.args.t.now c.loop-rest.rest.now a b c.loop-rest.ins.items c.add_leaves.new.leaves.items is c.in_ok-add_leaves.ensures c.loop-rest.invariant.0,
      (parameter_of datas c.loop-rest.rest.now a b is c.loop-rest.invariant.1).1,
      sym (ap result_of is) ∙ c.loop-rest.invariant.2,
    )
