use Rattle.std.proofs.Common.{ap, ◌∙◌, map}
use Rattle.chw_terms.specs.Evaluated.{evaluated}
use Rattle.prim_vec.specs.Tests.{has_shape, shape_of}
use Rattle.prim_vec.proofs.Deciding.{shape_tells}
use Rattle.prim_vec.proofs.conditions.has_body.Goals as goal

pub returns : goal.returns
returns c =
    c.has_shape.ensures ∙ ap (λ s. has_shape s c.deref.result.now) c.shape_of.ensures
    ∙ ap (has_shape (shape_of c.args.row)) (c.deref.ensures.value ∙ c.in_ok-types.ensures) ∙ shape_tells c.args.row (map evaluated c.args.types.now)
