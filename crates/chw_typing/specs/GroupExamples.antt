-- Worked examples of groups and of variables.
use Rattle.std.specs.Prelude.{◌≡◌, [], ◌∷◌, map}
use Rattle.chw_types.specs.TypeTree.{TypeTree, nat_lit}
use Rattle.chw_terms.specs.TermTree.{TermTree, var, lam, app, letrec, Group, no_bindings, bind}
use Rattle.chw_terms.specs.TermMoves.{exchanged}
use Rattle.chw_terms.specs.FreeVariables.{free_in}
use Rattle.chw_typing.specs.Groups.{Reached}

-- the type doesn't matter
abbrev pub some_type : TypeTree
some_type = nat_lit 0

-- `letrec { x = y; y = y; z = z; } in x`: x is the variable 2, y is 1, z is 0
abbrev pub three : Group
three = bind some_type (var 1) (bind some_type (var 1) (bind some_type (var 0) no_bindings))

-- x occurs in the body
abbrev pub FirstReached : Type 0
FirstReached = Reached three (var 2) 0

-- y occurs in the right side of x
abbrev pub SecondReached : Type 0
SecondReached = Reached three (var 2) 1

-- z occurs in its own right side alone
abbrev pub ThirdNotReached : Type 0
ThirdNotReached = Reached three (var 2) 2 → ⊥

-- the first 2 variables and the next 3 change places, and the others stay
abbrev pub AllExchanged : Type 0
AllExchanged =
    map (exchanged 2 3) (0 ∷ 1 ∷ 2 ∷ 3 ∷ 4 ∷ 5 ∷ 6 ∷ []) ≡ 3 ∷ 4 ∷ 0 ∷ 1 ∷ 2 ∷ 5 ∷ 6 ∷ []

-- `(\x. v2 x v1 v2) (letrec { x = y; y = y; z = z; } in v5)`
abbrev pub repeated : TermTree
repeated =
    app (lam some_type (app (app (app (var 2) (var 0)) (var 1)) (var 2))) (letrec three (var 5))

-- each free variable is listed once, where it is first, as it is called outside
abbrev pub EachFreeOnce : Type 0
EachFreeOnce = free_in repeated ≡ 1 ∷ 0 ∷ 2 ∷ []
