use Rattle.std.proofs.Common.{◌+◌, ap, sym, ◌∙◌}
use Rattle.chw_types.specs.TypeTree.{ty_var}
use Rattle.chw_types.specs.TypeMoves.{raised, shift, rename, sub, put_at}
use Rattle.chw_types.proofs.TypeLaws.{same}
use Rattle.chw_terms.specs.TypesMoved.{sub_types}
use Rattle.chw_terms.proofs.TypesPut.{types_sub, types_sub_rename}
use Rattle.chw_terms.proofs.laws.shift_types_after_put_types.Goals as goal

pub returns : goal.returns
unfolding rename sub
returns c e a k d by =
    types_sub_rename e (put_at k a) (raised (d + k) by)
    ∙ ap (sub_types e) (same _ _ (λ x. c.shift_after_put.ensures (ty_var x) a k d by))
    ∙ sym (types_sub e (raised (d + 1 + k) by) (put_at k (shift a d by)))
