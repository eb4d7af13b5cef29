use Rattle.std.proofs.Common.{inl, inr, refl, arith}
use Rattle.chw_typing.proofs.path_examples.of_the_order.Goals as goal

pub returns : goal.returns
returns c = record { sides = inr (refl, inl (omega arith)); outer = inr (refl, tt) }
