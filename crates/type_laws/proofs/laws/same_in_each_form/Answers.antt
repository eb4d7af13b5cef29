use Rattle.chw_types.specs.SameTypes.{same_sum, same_product, same_scalar, same_vector, same_data, same_fun, same_signal, same_for_all}
use Rattle.type_laws.proofs.laws.same_in_each_form.Goals as goal

pub returns : goal.returns
returns c = record {
  sums = λ a b c d h g. same_sum h g;
  products = λ a b c d h g. same_product h g;
  scalars = λ s v w h. same_scalar h;
  vectors = λ n m t u h g. same_vector h g;
  data_types = λ d ts us h. same_data h;
  functions = λ a b c d h g. same_fun h g;
  signals = λ d e t u h g. same_signal h g;
  bound = λ k t u h. same_for_all h;
}
