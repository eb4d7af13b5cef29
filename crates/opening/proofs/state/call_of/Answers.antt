use Rattle.std.proofs.Common.{◌∙◌, ap}
use Rattle.chw_terms.specs.declared.scene.Sort.TheVariants.{Circuit}
use Rattle.opening.specs.Expanded.{on_parameters}
use Rattle.opening.proofs.state.call_of.Goals as goal

pub returns : goal.returns
returns c =
    let it = c.args.def.now in
    let origin = c.in_ok-origin.ensures ∙ ap (on_parameters it.ty) c.global.ensures in
    let body = c.in_ok-body.ensures ∙ ap (on_parameters it.ty) c.in_ok-copy.ensures in
    λ i. record { origin = origin i; body = body i; ty = c.in_ok-ty.ensures i; sort = Circuit }
