use Rattle.chw_meaning.proofs.CornersShown.{vectors_of_signals, one_element, indices, replacing, folds, orders}
use Rattle.chw_meaning.proofs.examples.of_vectors.Goals as goal

pub returns : goal.returns
returns c = record {
  signals = vectors_of_signals;
  elements = one_element;
  indices = indices;
  replacing = replacing;
  folds = folds;
  orders = orders;
}
