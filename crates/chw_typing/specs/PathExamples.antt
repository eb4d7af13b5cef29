-- Worked examples of paths.
use Rattle.std.specs.Prelude.{◌≡◌, [], ◌∷◌, Some, None}
use Rattle.chw_types.specs.TypeTree.{TypeTree, nat_lit}
use Rattle.chw_terms.specs.declared.term.Pattern.TheVariants.{Default}
use Rattle.chw_terms.specs.TermTree.{TermTree, var, global, lam, app, letrec, case_of}
use Rattle.chw_terms.specs.TermTree.{no_bindings, bind, no_alts, alt}
use Rattle.chw_typing.specs.Paths.{part_at, with_part, IsEarlier, argument_path}

-- the type doesn't matter
abbrev pub some_type : TypeTree
some_type = nat_lit 0

-- `\x. letrec { y = g1; } in case y of { _ -> g2 x; }`
abbrev pub nested : TermTree → TermTree
nested a =
    lam some_type (letrec (bind some_type (global 1) no_bindings)
    (case_of (var 0) (alt Default (app (global 2) a) no_alts)))

-- the body of the letrec is behind its one right side, and the alternative behind the scrutinee
abbrev pub ArgumentFound : Type 0
ArgumentFound = part_at (nested (var 1)) (0 ∷ 1 ∷ 1 ∷ 1 ∷ []) ≡ Some (var 1)

-- another argument there changes that alone
abbrev pub ArgumentChanged : Type 0
ArgumentChanged = with_part (nested (var 1)) (0 ∷ 1 ∷ 1 ∷ 1 ∷ []) (var 0) ≡ nested (var 0)

-- a lambda has one child
abbrev pub NoSecondChild : Type 0
NoSecondChild = part_at (nested (var 1)) (1 ∷ []) ≡ None

-- the first of three arguments is below two functions
abbrev pub FirstOfThree : Type 0
FirstOfThree = argument_path 0 3 ≡ 0 ∷ 0 ∷ 1 ∷ []

-- a right side is earlier than the body, and a place earlier than those below it
abbrev pub SideBeforeBody : Type 0
SideBeforeBody = IsEarlier (0 ∷ 0 ∷ []) (0 ∷ 1 ∷ [])

abbrev pub OuterBeforeInner : Type 0
OuterBeforeInner = IsEarlier (0 ∷ []) (0 ∷ 0 ∷ [])
