use Rattle.chw_words.proofs.Lifting.{one_command}
use Rattle.chw_words.proofs.laws.words_are_one_command.Goals as goal

pub returns : goal.returns
returns c = one_command
