use Rattle.chw_typing.proofs.Order.{never_earlier, earlier_through, one_is_earlier}
use Rattle.chw_typing.proofs.path_laws.order_of_places.Goals as goal

pub returns : goal.returns
returns c = record { irreflexive = never_earlier; transitive = earlier_through; total = one_is_earlier }
