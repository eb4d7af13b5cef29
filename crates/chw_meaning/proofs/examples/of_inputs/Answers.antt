use Rattle.chw_meaning.proofs.TopsShown.{pair_in_shown, without_width_shown, endless_part_shown, two_inputs_shown, product_in_shown, value_in_shown}
use Rattle.chw_meaning.proofs.examples.of_inputs.Goals as goal

pub returns : goal.returns
returns c =
    let so = c.computed_meaning_is_so.ensures in
    record {
      pair = pair_in_shown so.given so.ports so.fit so.meaning;
      without_width = without_width_shown so.given so.ports so.fit so.meaning;
      endless = endless_part_shown so.given so.ports so.fit so.meaning;
      two = two_inputs_shown so.given so.ports so.fit so.meaning;
      product = product_in_shown so.given so.ports so.fit so.meaning;
      value = value_in_shown so.given so.ports so.fit so.meaning;
    }
