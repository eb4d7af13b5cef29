-- The types and the terms among arguments.
use Rattle.std.specs.Prelude.{◌≡◌, ℕ, List, [], ◌∷◌, length}
use Rattle.chw_types.specs.TypeTree.{TypeTree}
use Rattle.chw_terms.specs.declared.term.Arg.{Arg}
use Rattle.chw_terms.specs.declared.term.Arg.TheVariants.{OfTerm, OfType}
use Rattle.chw_terms.specs.TermTree.{TermTree}
use Rattle.chw_typing.specs.Given.{types_then}

abbrev pub IsType : Arg → Type 0
IsType (OfType t) = Unit {0}
IsType (OfTerm e) = ⊥

abbrev pub IsTerm : Arg → Type 0
IsTerm (OfType t) = ⊥
IsTerm (OfTerm e) = Unit {0}

abbrev pub types_in : List Arg → List TypeTree
types_in [] = []
types_in (OfType t ∷ args) = t ∷ types_in args
types_in (OfTerm e ∷ args) = types_in args

abbrev pub terms_in : List Arg → List TermTree
terms_in [] = []
terms_in (OfType t ∷ args) = terms_in args
terms_in (OfTerm e ∷ args) = e ∷ terms_in args

-- so many types, then so many terms, and nothing else
pub record AreJust (types terms : ℕ) (args : List Arg) : Type 0 where
  pub are : args ≡ types_then (types_in args) (terms_in args)
  pub on_types : length (types_in args) ≡ types
  pub on_terms : length (terms_in args) ≡ terms
