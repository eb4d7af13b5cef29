use Rattle.answers.proofs.MakeAnswer.WholeSums.{sums_are_whole}
use Rattle.answers.proofs.make_answer.laws.sums_are_whole.Goals as goal

pub returns : goal.returns
returns c = sums_are_whole c.encoding_width.ensures
