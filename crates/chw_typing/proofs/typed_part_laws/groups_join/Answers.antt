use Rattle.chw_typing.proofs.Joined.{join_bound, first_bound, second_bound}
use Rattle.chw_typing.proofs.typed_part_laws.groups_join.Goals as goal

pub returns : goal.returns
returns c s kinds vars k g h = ((λ r. (first_bound g h r, second_bound g h r)), (λ p. join_bound p.0 p.1))
