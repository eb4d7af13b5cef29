use Rattle.std.proofs.Common.{[]}
use Rattle.chw_typing.proofs.TypesRenamed.{closed_type_put, closed_put_typed}
use Rattle.chw_typing.proofs.TermsEvaluated.{type_evaluated}
use Rattle.chw_typing.proofs.laws.evaluating_keeps_types.Goals as goal

pub returns : goal.returns
returns c = record {
  evaluating = λ s kinds vars vars' e t h g g' q d. type_evaluated d h g vars' g' q;
  putting = λ s kinds vars vars' e t a j h g d k g' q. type_evaluated (closed_type_put [] kinds a j d h g k) h (closed_put_typed s [] kinds vars a j g k) vars' g' q;
}
