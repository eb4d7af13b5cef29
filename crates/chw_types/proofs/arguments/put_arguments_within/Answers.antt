use Rattle.std.proofs.Common.{sym, ap, ◌∙◌}
use Rattle.std.specs.Prelude.{reverse}
use Rattle.chw_types.specs.Arguments.{given}
use Rattle.chw_types.specs.TypeMoves.{sub, up_by}
use Rattle.chw_types.proofs.Filled.{list_of_trees}
use Rattle.chw_types.proofs.arguments.put_arguments_within.Goals as goal

pub returns-clause-is : goal.returns-clause-is
unfolding up_by
returns-clause-is c = c.in_ok-fill_within.ensures.is ∙ ap (λ us. sub c.args.field.now (given (reverse us))) (sym (list_of_trees c.args.args.now))
