use Rattle.chw_terms.proofs.TermsEvaluated.{evaluated_in_twice, evaluated_in_rename, evaluated_in_retyped, evaluated_in_sub, evaluated_both}
use Rattle.chw_terms.proofs.laws.evaluating.Goals as goal

pub returns : goal.returns
returns c = record { once = evaluated_in_twice; renamed = evaluated_in_rename; types_renamed = evaluated_in_retyped; put = evaluated_in_sub; types_put = evaluated_both }
