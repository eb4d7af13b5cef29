use Rattle.acts.proofs.Shown.{in_other_turns, on_each_argument, at_each_history, at_its_width, in_each_word}
use Rattle.acts.proofs.examples.of_acting.Goals as goal

pub returns : goal.returns
returns c = record { turns = in_other_turns; arguments = on_each_argument; histories = at_each_history; widths = at_its_width; words = in_each_word }
