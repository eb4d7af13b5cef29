use Rattle.type_laws.proofs.SameForms.{as_domain, as_scalar, as_vector, as_data, as_function, as_signal, as_bound}
use Rattle.type_laws.proofs.laws.same_parts.Goals as goal

pub returns : goal.returns
returns c = record {
  domain = λ d u h. as_domain h;
  scalar = λ s w u h. as_scalar h;
  vector = λ n t u h. as_vector h;
  of_data = λ d ts u h. as_data h;
  function = λ a b u h. as_function h;
  signal = λ d t u h. as_signal h;
  bound = λ k t u h. as_bound h;
}
