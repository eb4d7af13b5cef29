use Rattle.chw_types.proofs.SameLaws.{one_value}
use Rattle.chw_types.proofs.laws.same_values.Goals as goal

pub returns : goal.returns
returns c a b ρ h n m s = one_value a b ρ h n m s
