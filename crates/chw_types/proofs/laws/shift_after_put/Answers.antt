use Rattle.std.proofs.Common.{◌+◌, sym, ap, ◌∙◌}
use Rattle.chw_types.specs.TypeMoves.{raised, rename, put, lift_by}
use Rattle.chw_types.proofs.TypeLaws.{lifted, shift_put}
use Rattle.chw_types.proofs.laws.shift_after_put.Goals as goal

pub returns : goal.returns
returns c t a k d by =
    ap (rename (put t k a)) (sym (lifted k d by))
    ∙ shift_put t a k d by
    ∙ ap (λ r. put (rename t (lift_by k r)) k (rename a (raised d by))) (lifted 1 d by)
    ∙ ap (λ r. put (rename t r) k (rename a (raised d by))) (lifted k (d + 1) by)
