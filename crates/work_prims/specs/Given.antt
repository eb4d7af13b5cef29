-- The arguments of a primitive: types, then terms.
use Rattle.std.specs.Prelude.{◌≡◌, Bool, List, [], ◌∷◌, map}
use Rattle.chw_types.specs.declared.kind.Scalar.{Scalar}
use Rattle.chw_types.specs.TypeTree.{TypeTree}
use Rattle.chw_terms.specs.declared.term.Arg.{Arg}
use Rattle.chw_terms.specs.declared.term.Arg.TheVariants.{OfTerm, OfType}
use Rattle.chw_terms.specs.TermTree.{TermTree}
use Rattle.rewriting.specs.Primitives.{literal}

-- the types before the first term
abbrev pub types_in : List Arg → List TypeTree
types_in (OfType t ∷ args) = t ∷ types_in args
types_in _ = []

-- these terms as arguments
abbrev pub as_args : List TermTree → List Arg
as_args es = map (λ e. OfTerm e) es

-- these words as arguments, each as a literal
abbrev pub literals : List (Scalar × List Bool) → List Arg
literals words = as_args (map literal words)

-- these are literals of words with these bits
abbrev pub AreWords : List Arg → List (List Bool) → Type 0
AreWords args bits =
    (words : List (Scalar × List Bool)) × (args ≡ literals words) × (bits ≡ map (λ w. w.1) words)
