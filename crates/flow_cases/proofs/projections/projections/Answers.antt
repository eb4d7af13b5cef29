use Rattle.std.proofs.Common.{◌∙◌, ◌++◌, ◌∷◌, [], sym, arith}
use Rattle.std.proofs.lemmas.List.FromFn.{map-range_with_len_more}
use Rattle.flow_cases.proofs.projections.projections.Goals as goal

pub loop-field-preserved : goal.loop-field-preserved
loop-field-preserved c =
    let n = c.loop-field.field in
    c.in_ok-push.ensures.items ∙ (λ i. c.loop-field.invariant i ++ c.in_ok-projection.ensures i ∷ []) ∙ sym (map-range_with_len_more _ 0 n n (omega arith))
