use Rattle.std.proofs.Common.{ap, ◌∙◌}
use Rattle.chw_types.specs.TypeTree.{ty_var}
use Rattle.chw_types.specs.TypeMoves.{raised, rename, sub, put_at}
use Rattle.chw_types.proofs.TypeLaws.{same}
use Rattle.chw_terms.specs.TypesMoved.{sub_types}
use Rattle.chw_terms.proofs.TypesPut.{types_sub, types_sub_ids}
use Rattle.chw_terms.proofs.laws.put_types_after_shift_types.Goals as goal

pub returns : goal.returns
unfolding rename sub
returns c e a k =
    types_sub e (raised k 1) (put_at k a)
    ∙ ap (sub_types e) (same _ _ (λ x. c.put_after_shift.ensures (ty_var x) a k))
    ∙ types_sub_ids e
