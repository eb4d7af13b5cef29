use Rattle.net_there.proofs.Constants.{constant_bits, constant_words}
use Rattle.net_there.proofs.laws.constants_have_bits.Goals as goal

pub returns : goal.returns
returns c = record {
  bits = λ o vars e t w sound scoped constant typed wide.
      constant_bits c.facts.ensures c.same_values.ensures c.fields_keep_same.ensures c.encodings.ensures.there o sound vars scoped constant t w wide typed;
  words = λ o vars e n t w sound scoped constant typed wide.
      constant_words c.facts.ensures c.same_values.ensures c.fields_keep_same.ensures c.encodings.ensures.there o sound vars scoped constant n t w wide typed;
}
