-- The terms and the types among arguments, and terms by their heads.
use Rattle.std.specs.Prelude.{List, [], ◌∷◌}
use Rattle.chw_terms.specs.declared.term.Arg.{Arg}
use Rattle.chw_terms.specs.declared.term.Arg.TheVariants.{OfTerm, OfType}
use Rattle.chw_terms.specs.TermTree.{TermTree}
use Rattle.chw_types.specs.TypeTree.{TypeTree}

-- the terms among these arguments
abbrev pub terms_in : List Arg → List TermTree
terms_in [] = []
terms_in (OfTerm e ∷ args) = e ∷ terms_in args
terms_in (OfType t ∷ args) = terms_in args

-- the types among them
abbrev pub types_in : List Arg → List TypeTree
types_in [] = []
types_in (OfTerm e ∷ args) = types_in args
types_in (OfType t ∷ args) = t ∷ types_in args
