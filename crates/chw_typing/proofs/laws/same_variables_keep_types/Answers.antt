use Rattle.std.proofs.Common.{subst}
use Rattle.chw_terms.specs.TermTree.{var}
use Rattle.chw_terms.proofs.TermsPut.{sub_ids}
use Rattle.chw_typing.specs.Typing.{HasTypeUpTo}
use Rattle.chw_typing.proofs.TermsPut.{term_put, puts_same}
use Rattle.chw_typing.proofs.laws.same_variables_keep_types.Goals as goal

pub returns : goal.returns
returns c s kinds vars vars' e t h g g' q d = subst (λ f. HasTypeUpTo s kinds vars' f t) (sub_ids e) (term_put d h g var vars' g' (puts_same s kinds vars vars' q))
