use Rattle.steady_laws.proofs.ValueTerms.{known_of, typed_steady}
use Rattle.steady_laws.proofs.laws.value_terms_are_steady.Goals as goal

pub returns : goal.returns
returns c = λ p kinds vars e t tidy typed g d k. typed_steady (known_of p c.types_are_term_types.ensures (c.typed_is_sound.ensures p tidy typed)) d g k
