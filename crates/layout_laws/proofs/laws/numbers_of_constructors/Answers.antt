use Rattle.layout_laws.proofs.Numbering.{has_place, at_place, one_numbering}
use Rattle.layout_laws.proofs.laws.numbers_of_constructors.Goals as goal

pub returns : goal.returns
returns c = record { places = λ datas n k. (has_place datas n k, at_place datas n k); one = one_numbering }
