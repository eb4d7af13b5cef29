use Rattle.std.proofs.Common.{◌∙◌, ◌++◌, ap}
use Rattle.circuit_build.proofs.constants.add_literal.Goals as goal

pub returns : goal.returns
returns c =
    c.in_ok-extend_from_slice.ensures.items ∙ ap (λ xs. c.args.into.now.items ++ xs) c.as_slice.ensures.value
