use Rattle.rewriting.proofs.OneStep.{one_below}
use Rattle.rewriting.proofs.OneWay.{one_active, one_place}
use Rattle.rewriting.proofs.place_laws.one_place.Goals as goal

pub returns : goal.returns
returns c = record { step = one_below; steps = λ o at at' at'' e x y p l r. one_active l r; place = one_place }
