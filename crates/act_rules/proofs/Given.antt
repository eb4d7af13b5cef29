-- What a primitive is given: its types, closed, and the thunks of its terms.
use Rattle.std.proofs.Common.{ℕ, List, [], ◌∷◌, map}
use Rattle.chw_types.specs.TypeTree.{TypeTree, TypeTrees, no_types, type_and}
use Rattle.chw_terms.specs.Evaluated.{evaluated}
use Rattle.chw_terms.specs.TermTree.{TermTree}
use Rattle.chw_meaning.specs.Values.{Thunk, closed, Thunks, closed_type}
use Rattle.rewriting.specs.Origins.{with_origins}

-- a type in an environment of closed types, evaluated
abbrev pub at_env : TypeTrees → TypeTree → TypeTree
at_env δ t = evaluated (closed_type t δ)

-- each of these types, as the function has it, before others, the last one innermost
abbrev pub types_onto : (TypeTree → TypeTree) → List TypeTree → TypeTrees → TypeTrees
types_onto f [] ts = ts
types_onto f (t ∷ more) ts = types_onto f more (type_and (f t) ts)

-- the closed types that a primitive has where it is written with these
abbrev pub given_at : TypeTrees → List TypeTree → TypeTrees
given_at δ types = types_onto (at_env δ) types no_types

-- the thunks of these terms
abbrev pub thunks_of : (ℕ → TermTree) → Thunks → TypeTrees → List TermTree → List Thunk
thunks_of o γ δ es = map (λ e. closed (with_origins o e) γ δ) es
