-- Types that stay as they are.
use Rattle.std.proofs.Common.{◌≡◌, ℕ, sym, ap, ◌∙◌, List, [], ◌∷◌, length, reverse}
use Rattle.chw_types.specs.TypeTree.{TypeTree}
use Rattle.chw_types.specs.TypeMoves.{shift, sub}
use Rattle.chw_types.specs.Arguments.{given}
use Rattle.chw_types.proofs.TypeLaws.{rename_by_none, sub_ids}

-- raised by no binder
pub not_raised : (t : TypeTree) (by : ℕ) → by ≡ 0 → t ≡ shift t 0 by
not_raised t by e = sym (rename_by_none t) ∙ ap (shift t 0) (sym e)

-- nothing waits
pub put_nothing : (t : TypeTree) (ts : List TypeTree) → length ts ≡ 0 → sub t (given (reverse ts)) ≡ t
put_nothing t [] none = sub_ids t
put_nothing t (a ∷ ts) none = absurd (cc)
