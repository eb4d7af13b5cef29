use Rattle.std.proofs.Common.{◌∙◌, ap, [], ◌∷◌}
use Rattle.chw_terms.specs.declared.scene.Made.{Made}
use Rattle.opening.proofs.Expanded.{opens, top_found}
use Rattle.opening.proofs.state.open.Goals as goal

pub returns : goal.returns
returns c =
    let p = c.args.program.now in
    let at = c.index-as_slice-top in
    let found = top_found p c.as_slice.result.now at.result c.requires c.as_slice.ensures at.is in
    let one = ap (λ (m : Made). m ∷ []) c.in_ok-call_of.ensures in
    opens p at.result found c.in_ok-vec.field-0.items (c.in_ok-vec.ensures.items ∙ one)
