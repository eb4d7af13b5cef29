-- A part that changed places with another term.
use Rattle.std.specs.Prelude.{◌≡◌, ℕ, List, Bool, true, false, Some}
use Rattle.chw_types.specs.declared.kind.Kind.{Kind}
use Rattle.chw_types.specs.TypeTree.{TypeTree}
use Rattle.chw_terms.specs.declared.term.Arg.{Arg}
use Rattle.chw_terms.specs.TermTree.{TermTree, lam, ty_lam, vec_lit}
use Rattle.chw_terms.specs.TermView.{applied_to, terms_of}
use Rattle.chw_typing.specs.PartSpines.{spine_at, IsPut}

-- what comes in exchange for a term that is put at a path: the whole spine that stood there, and
-- the term itself where none did
abbrev pub IsTaken : TermTree → List ℕ → TermTree → TermTree → Bool → Type 0
IsTaken old path x y true = spine_at old path ≡ Some y
IsTaken old path x y false = y ≡ x

-- both: what comes of the one term, and what comes in exchange for the other
abbrev pub IsSwapped : TermTree → List ℕ → TermTree → TermTree → TermTree → Bool → Type 0
IsSwapped old path x new y put = IsPut old path x new put × IsTaken old path x y put

-- behind the argument of any function
abbrev pub IsSwappedInArg : Arg → List ℕ → TermTree → Arg → TermTree → Bool → Type 0
IsSwappedInArg old path x new y put =
    (f : TermTree) → IsSwapped (applied_to f old) path x (applied_to f new) y put

-- behind the body of any lambda
abbrev pub IsSwappedInBody : TermTree → List ℕ → TermTree → TermTree → TermTree → Bool → Type 0
IsSwappedInBody old path x new y put =
    ((t : TypeTree) → IsSwapped (lam t old) path x (lam t new) y put)
    × ((k : Kind) → IsSwapped (ty_lam k old) path x (ty_lam k new) y put)

-- and behind the elements of any vector
abbrev pub IsSwappedInElements
    : List TermTree → List ℕ → TermTree → List TermTree → TermTree → Bool → Type 0
IsSwappedInElements old path x new y put =
    (t : TypeTree) → IsSwapped (vec_lit t (terms_of old)) path x (vec_lit t (terms_of new)) y put
