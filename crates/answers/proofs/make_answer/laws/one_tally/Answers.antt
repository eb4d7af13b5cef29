use Rattle.answers.proofs.MakeAnswer.OneTally.{one_tally}
use Rattle.answers.proofs.make_answer.laws.one_tally.Goals as goal

pub returns : goal.returns
returns c =
    one_tally c.one_compiled.ensures c.one_count.ensures c.at_most_one_meaning.ensures.ports c.one_stimulus.ensures c.one_meant.ensures
