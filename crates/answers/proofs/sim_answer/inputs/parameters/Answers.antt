use Rattle.std.proofs.Common.{◌≡◌, refl, sym, ap, subst, ◌∙◌}
use Rattle.chw_types.specs.TypeTree.{TypeTree, fun}
use Rattle.chw_types.specs.TypeView.{tree_of}
use Rattle.answers.specs.SimAnswer.Types.{AddsPort, IsMeasuredPort, LeadsFromMeasured}
use Rattle.answers.proofs.SimAnswer.Parameters.{Led, led_end, led_first, led_more, led_port, no_function}
use Rattle.answers.proofs.sim_answer.inputs.parameters.Goals as goal

pub loop-rest-init : goal.loop-rest-init
loop-rest-init c =
    record { same = refl; led = led_first c.args.t.now c.new-types.result.items c.requires.leads c.new-types.ensures.items }

pub put_port-requires : goal.put_port-requires
put_port-requires c =
    let form : c.loop-rest.rest.now ≡ fun c.in-Fun.from.value c.in-Fun.to.value = sym c.rest.view_is ∙ ap tree_of c.in-Fun.is in
    let so = c.loop-rest.invariant in
    let port = led_port c.in-Fun.from.value c.in-Fun.to.value (subst (LeadsFromMeasured c.args.widths.now) form so.led.measured) in
    record {
      port = subst (λ ds. IsMeasuredPort ds c.deref.result.now) (sym so.same) (subst (IsMeasuredPort c.args.widths.now) (sym c.deref.ensures) port);
    }

pub loop-rest-preserved : goal.loop-rest-preserved
loop-rest-preserved c =
    let form : c.loop-rest.rest.now ≡ fun c.in-Fun.from.value c.in-Fun.to.value = sym c.rest.view_is ∙ ap tree_of c.in-Fun.is in
    let datas = c.args.widths.now in
    let old = c.loop-rest.types.items in
    let new = c.put_port.new.types.items in
    let so = c.loop-rest.invariant in
    let put = subst (λ ds. AddsPort ds c.deref.result.now old new) so.same c.in_ok-put_port.ensures.put in
    record {
      same = c.put_port.ensures.same ∙ so.same;
      led =
          subst (λ r. Led datas c.args.t.now r new) (sym c.deref-rest.ensures)
          (led_more c.args.t.now c.in-Fun.from.value c.in-Fun.to.value old new (subst (λ r. Led datas c.args.t.now r old) form so.led)
          (subst (λ t. AddsPort datas t old new) c.deref.ensures put));
    }

pub returns : goal.returns
returns c =
    let other = subst (λ t. (a b : TypeTree) → t ≡ fun a b → ⊥) c.rest.view_is (no_function c.rest.inside.node c.in_default.not-Fun) in
    led_end c.args.t.now c.loop-rest.rest.now c.loop-rest.types.items c.loop-rest.invariant.led other
