use Rattle.std.proofs.Common.{ap, ◌∙◌}
use Rattle.chw_types.specs.TypeMoves.{raised, put_at}
use Rattle.chw_terms.specs.TypesMoved.{put_types}
use Rattle.chw_terms.specs.Evaluated.{evaluated_in}
use Rattle.chw_terms.proofs.TypesPut.{put_types_after_rename}
use Rattle.chw_terms.proofs.TermsEvaluated.{put_types_put, evaluated_in_rename, evaluated_in_put}
use Rattle.chw_terms.proofs.laws.put_type_in_beside_terms.Goals as goal

pub returns : goal.returns
returns c = record {
  after_shift = λ e a k by. ap evaluated_in (put_types_after_rename e (raised k by) (put_at 0 a)) ∙ evaluated_in_rename (put_types e 0 a) (raised k by);
  after_put = λ e b a k. ap evaluated_in (put_types_put e b (put_at 0 a) k) ∙ evaluated_in_put (put_types e 0 a) (put_types b 0 a) k;
}
