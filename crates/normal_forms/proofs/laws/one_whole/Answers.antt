use Rattle.std.proofs.Common.{refl}
use Rattle.normal_forms.proofs.Wholes.{one_whole, whole_is_there}
use Rattle.normal_forms.proofs.laws.one_whole.Goals as goal

pub returns : goal.returns
returns c = record { one = λ state m e f h g. one_whole h g refl; there = whole_is_there }
