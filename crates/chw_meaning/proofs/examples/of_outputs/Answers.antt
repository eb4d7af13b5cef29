use Rattle.chw_meaning.proofs.TopsShown.{pair_out_shown, product_out_shown, recursive_out_shown, vector_out_shown, nested_vector_shown}
use Rattle.chw_meaning.proofs.examples.of_outputs.Goals as goal

pub returns : goal.returns
returns c =
    let so = c.computed_meaning_is_so.ensures in
    record {
      pair = pair_out_shown so.given so.ports so.fit so.meaning;
      product = product_out_shown so.given so.ports so.fit so.meaning;
      recursive = recursive_out_shown so.given so.ports so.fit so.meaning;
      vector = vector_out_shown so.given so.ports so.fit so.meaning;
      nested = nested_vector_shown so.given so.ports so.fit so.meaning;
    }
