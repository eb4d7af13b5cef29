use Rattle.chw_terms.proofs.OccursLaws.{occurs_retyped, occurs_typed}
use Rattle.chw_terms.proofs.laws.occurs_beside_types.Goals as goal

pub returns : goal.returns
returns c = record { renamed = occurs_retyped; put = occurs_typed }
