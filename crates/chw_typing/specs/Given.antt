-- What a head is given, and whether it is what the head's type asks for.
use Rattle.std.specs.Prelude.{◌≡◌, ℕ, List, [], ◌∷◌, ◌++◌, map, length}
use Rattle.chw_types.specs.declared.kind.Kind.{Kind}
use Rattle.chw_types.specs.TypeTree.{TypeTree, fun, for_all}
use Rattle.chw_types.specs.TypeView.{trees_of}
use Rattle.chw_types.specs.TypeMoves.{sub}
use Rattle.chw_types.specs.Arguments.{arguments}
use Rattle.chw_types.specs.Kinds.{HasFunctions, KindsOf}
use Rattle.chw_types.specs.SameTypes.{SameTypes}
use Rattle.chw_terms.specs.declared.term.Arg.{Arg}
use Rattle.chw_terms.specs.declared.term.Arg.TheVariants.{OfTerm, OfType}
use Rattle.chw_terms.specs.TermTree.{TermTree}
use Rattle.chw_typing.specs.Scopes.{Setting, HasKind}
use Rattle.chw_typing.specs.Typing.{HasTypeUpTo}

-- these types as arguments, and behind them these terms
abbrev pub types_then : List TypeTree → List TermTree → List Arg
types_then types es = map (λ t. OfType t) types ++ map (λ e. OfTerm e) es

-- as many terms as types, and each term has the type at its place, up to naturals
abbrev pub AreGiven : Setting → List Kind → List TypeTree → List TypeTree → List TermTree → Type 0
AreGiven s kinds vars [] [] = Unit {0}
AreGiven s kinds vars (t ∷ ts) (e ∷ es) =
    HasTypeUpTo s kinds vars e t × AreGiven s kinds vars ts es
AreGiven s kinds vars _ _ = ⊥

-- the types have the kinds ks, the terms have the parameters' types ps at these types, and t is the
-- result's type r at these types, up to naturals
pub record IsSaturated (s : Setting) (kinds : List Kind) (vars : List TypeTree) (ks : List Kind)
    (ps : List TypeTree) (r : TypeTree) (types : List TypeTree) (es : List TermTree)
    (t : TypeTree) : Type 0 where
  pub have : KindsOf s.datas s.domains kinds (trees_of types) ks
  pub args_given : AreGiven s kinds vars (map (λ p. sub p (arguments (trees_of types))) ps) es
  pub gives : SameTypes (sub r (arguments (trees_of types))) t

-- each of these types has a kind that allows this one, as a parameter's does the result's
abbrev pub AllAllow : Setting → List Kind → Kind → List TypeTree → Type 0
AllAllow s kinds k [] = Unit {0}
AllAllow s kinds k (t ∷ ts) =
    ((j : Kind) × HasKind s kinds t j × HasFunctions j k) × AllAllow s kinds k ts

-- neither types nor terms are asked for: no function, and not for all types
abbrev pub AsksForNone : TypeTree → Type 0
AsksForNone (fun a b) = ⊥
AsksForNone (for_all k t) = ⊥
AsksForNone _ = Unit {0}

-- the arguments are so many types, then so many terms, and perhaps more
pub record Takes (n m : ℕ) (args : List Arg) : Type 0 where
  pub types : List TypeTree
  pub es : List TermTree
  pub more : List Arg
  pub are : args ≡ types_then types es ++ more
  pub on_types : length types ≡ n
  pub on_terms : length es ≡ m
