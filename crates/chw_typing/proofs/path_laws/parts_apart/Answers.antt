use Rattle.chw_typing.proofs.Order.{parts_apart}
use Rattle.chw_typing.proofs.path_laws.parts_apart.Goals as goal

pub returns : goal.returns
returns c e x p q h = parts_apart p q e x h
