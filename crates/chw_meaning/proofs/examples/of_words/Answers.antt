use Rattle.chw_meaning.proofs.CornersShown.{words, width_zero, turns}
use Rattle.chw_meaning.proofs.examples.of_words.Goals as goal

pub returns : goal.returns
returns c = record {
  words = words;
  empty = width_zero;
  turns = turns;
}
