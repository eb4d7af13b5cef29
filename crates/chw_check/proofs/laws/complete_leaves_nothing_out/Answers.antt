use Rattle.chw_check.proofs.Complete.{complete, kept}
use Rattle.chw_check.proofs.laws.complete_leaves_nothing_out.Goals as goal

pub returns : goal.returns
returns c s kinds vars e t d = (λ k. complete d k, λ h sought. kept sought d h)
