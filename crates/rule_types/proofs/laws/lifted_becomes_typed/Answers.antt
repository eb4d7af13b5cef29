use Rattle.rule_types.proofs.Called.{lifted_typed}
use Rattle.rule_types.proofs.laws.lifted_becomes_typed.Goals as goal

pub returns : goal.returns
returns c o at g t r ts w none lifted many complete = lifted_typed o at w none g t ts r lifted many complete
