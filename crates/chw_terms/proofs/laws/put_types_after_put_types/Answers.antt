use Rattle.std.proofs.Common.{◌+◌, ap, sym, ◌∙◌}
use Rattle.chw_types.specs.TypeTree.{ty_var}
use Rattle.chw_types.specs.TypeMoves.{put, sub, put_at}
use Rattle.chw_types.proofs.TypeLaws.{same}
use Rattle.chw_terms.specs.TypesMoved.{sub_types}
use Rattle.chw_terms.proofs.TypesPut.{types_sub_sub}
use Rattle.chw_terms.proofs.laws.put_types_after_put_types.Goals as goal

pub returns : goal.returns
unfolding sub
returns c e a b k d =
    types_sub_sub e (put_at k a) (put_at (d + k) b)
    ∙ ap (sub_types e) (same _ _ (λ x. c.put_after_put.ensures (ty_var x) a b k d))
    ∙ sym (types_sub_sub e (put_at (d + 1 + k) b) (put_at k (put a d b)))
