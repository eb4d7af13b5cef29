use Rattle.rule_types.proofs.Numbers.{number_typed, origin_same_type}
use Rattle.rule_types.proofs.laws.origins_tell_types.Goals as goal

pub returns : goal.returns
returns c = record { origin = origin_same_type; number = number_typed }
