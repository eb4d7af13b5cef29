-- Fields at the arguments of the data type.
use Rattle.std.proofs.Common.{◌≡◌, ℕ, ◌<◌, ◌-◌, arith, get_or, refl, sym, ap, ◌∙◌, List, [], ◌∷◌, map, length, reverse}
use Rattle.chw_types.specs.Arguments.{given, arguments}
use Rattle.chw_types.specs.TypeMoves.{sub, up_by}
use Rattle.chw_types.specs.TypeTree.{TypeTree, ty_var}
use Rattle.chw_types.specs.TypeView.{trees_of}
use Rattle.chw_types.proofs.Filled.{list_of_trees, filled_here}
use Rattle.chw_types.proofs.TypeLaws.{same, sub_ids, rename_by_none}

-- without arguments a field is as it is
pub put_none : (f : TypeTree) (args : List TypeTree) → args ≡ [] → f ≡ sub f (arguments (trees_of args))
put_none f args e =
    sym (ap (λ us. sub f (arguments (trees_of us))) e ∙ ap (sub f) (same (given []) ty_var (λ x. refl)) ∙ sub_ids f)

-- the same of each of some fields
pub each_put_none : (fs args : List TypeTree) → args ≡ [] → map (λ f. sub f (arguments (trees_of args))) fs ≡ fs
each_put_none [] args e = refl
each_put_none (f ∷ fs) args e = λ i. sym (put_none f args e) i ∷ each_put_none fs args e i

-- what stands for a variable among the parameters
pub parameter_put : (args : List TypeTree) (x : ℕ) (a : TypeTree) → x < length args → a ≡ get_or args (length args - 1 - x) a → a ≡ sub (ty_var x) (arguments (trees_of args))
unfolding sub up_by
parameter_put args x a l e =
    let here : a ≡ get_or args (length args - 1 - (x - 0)) a = e ∙ ap (λ n. get_or args (length args - 1 - n) a) (omega arith) in
    sym (rename_by_none a) ∙ filled_here 0 x args a (omega arith) (omega (arith, l)) here ∙ ap (λ us. given (reverse us) x) (sym (list_of_trees args))
