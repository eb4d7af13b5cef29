use Rattle.steady_laws.proofs.Stays.{evals_stay, forces_stay}
use Rattle.steady_laws.proofs.GivenStay.{yields_stay}
use Rattle.steady_laws.proofs.ValueTerms.{known_of, defs_steady}
use Rattle.steady_laws.proofs.laws.what_is_steady_stays.Goals as goal

pub returns : goal.returns
returns c = record {
  terms = λ p e γ δ n h g v tidy typed s env a. evals_stay (defs_steady p (known_of p c.types_are_term_types.ensures (c.typed_is_sound.ensures p tidy typed)) typed) a s env g;
  thunks = λ p th n h g v tidy typed s a. forces_stay (defs_steady p (known_of p c.types_are_term_types.ensures (c.typed_is_sound.ensures p tidy typed)) typed) a s g;
  yields = λ p t th n h g d tidy typed s a. yields_stay (defs_steady p (known_of p c.types_are_term_types.ensures (c.typed_is_sound.ensures p tidy typed)) typed) a s g;
}
