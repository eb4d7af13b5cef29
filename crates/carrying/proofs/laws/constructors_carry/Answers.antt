use Rattle.carrying.proofs.Data.{constructor_carries}
use Rattle.carrying.proofs.laws.constructors_carry.Goals as goal

pub returns : goal.returns
returns c = constructor_carries
