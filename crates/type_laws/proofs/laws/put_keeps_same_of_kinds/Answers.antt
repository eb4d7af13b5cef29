use Rattle.std.proofs.Common.{length}
use Rattle.type_laws.proofs.OneKind.{nat_natural}
use Rattle.type_laws.proofs.Slots.{slot_is_nat}
use Rattle.type_laws.proofs.Shifted.{put_same}
use Rattle.type_laws.proofs.laws.put_keeps_same_of_kinds.Goals as goal

pub returns : goal.returns
returns c datas domains inner outer scope t u a b i j k of d e f h g =
    put_same t u a b (length inner) h g (λ s. nat_natural of f (slot_is_nat inner outer j d e s))
