use Rattle.steady_laws.specs.Steady.{steady_none}
use Rattle.steady_laws.proofs.Stays.{evals_stay}
use Rattle.steady_laws.proofs.GivenStay.{gives_stay}
use Rattle.steady_laws.proofs.ValueTerms.{known_of, typed_steady, defs_steady}
use Rattle.steady_laws.proofs.laws.values_stay.Goals as goal

pub returns : goal.returns
returns c = record {
  value = λ p e t n h g v tidy typed d k a.
      let known = known_of p c.types_are_term_types.ensures (c.typed_is_sound.ensures p tidy typed) in
      (evals_stay (defs_steady p known typed) a (typed_steady known d tt k) steady_none g).0;
  given = λ p e t ins h g k d tidy typed has values are given.
      let known = known_of p c.types_are_term_types.ensures (c.typed_is_sound.ensures p tidy typed) in
      gives_stay (defs_steady p known typed) given (typed_steady known has tt values) are g;
}
