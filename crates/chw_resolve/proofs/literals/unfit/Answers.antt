use Rattle.std.proofs.Common.{◌∙◌}
use Rattle.chw_resolve.specs.Literals.{unfit}
use Rattle.chw_resolve.proofs.literals.unfit.Goals as goal

pub returns : goal.returns
unfolding unfit
returns c = c.of_list.ensures ∙ c.in_ok-bits.ensures.items_if_clones_equal (λ y e. e)
