use Rattle.std.proofs.Common.{◌++◌, length}
use Rattle.chw_terms.specs.TermMoves.{put_at}
use Rattle.chw_typing.proofs.TermsPut.{term_put, puts_put, typed_without}
use Rattle.chw_typing.proofs.laws.putting_terms_keeps_types.Goals as goal

pub returns : goal.returns
returns c = record {
  putting_all = λ s kinds vars vars' e t σ h g g' d p. term_put d h g σ vars' g' p;
  putting = λ s kinds inner outer e a t u h g d b. term_put d h g (put_at (length inner) a) (inner ++ outer) (typed_without s kinds inner outer u g) (puts_put s kinds inner outer a u b);
}
