use Rattle.chw_types.specs.TypeMoves.{raised, put_at}
use Rattle.chw_terms.proofs.TypesPut.{put_types_after_rename}
use Rattle.chw_terms.proofs.TermsEvaluated.{put_types_put}
use Rattle.chw_terms.proofs.laws.put_types_beside_terms.Goals as goal

pub returns : goal.returns
returns c = record {
  after_shift = λ e a k d by. put_types_after_rename e (raised k by) (put_at d a);
  after_put = λ e b a k d. put_types_put e b (put_at d a) k;
}
