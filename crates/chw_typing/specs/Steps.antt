-- What the steps from a spine to one below it find.
use Rattle.std.specs.Prelude.{◌≡◌, ◌≢◌, ℕ, ◌<◌, ◌≤◌, List, ◌∷◌, ◌++◌, Bool}
use Rattle.std.specs.Prelude.{Option, length, drop, replicate, slice_index, option_and_then}
use Rattle.chw_terms.specs.declared.term.Arg.{Arg}
use Rattle.chw_types.specs.declared.kind.Kind.{Kind}
use Rattle.chw_types.specs.TypeTree.{TypeTree}
use Rattle.chw_terms.specs.TermTree.{TermTree, lam, ty_lam, vec_lit}
use Rattle.chw_terms.specs.TermView.{applied_to, terms_of}
use Rattle.chw_typing.specs.PartSpines.{spine_at, IsPut}

-- behind so many zeros and a number stands this spine, or none
abbrev pub LeadsTo : TermTree → ℕ → ℕ → Option TermTree → Type 0
LeadsTo e zeros i found =
    (rest : List ℕ)
    → spine_at e (replicate zeros 0 ++ i ∷ rest) ≡ option_and_then (λ x. spine_at x rest) found

-- so many zeros stand in front of a path, and behind them, if they are fewer than most, no zero
pub record AreZeros (path : List ℕ) (most n : ℕ) : Type 0 where
  pub within : n ≤ length path
  pub most_of : n ≤ most
  pub zeros : path ≡ replicate n 0 ++ drop n path
  pub ends : n < most → n < length path → slice_index path n ≢ 0

-- what comes of putting a term behind the argument of any function
abbrev pub IsPutInArg : Arg → List ℕ → TermTree → Arg → Bool → Type 0
IsPutInArg old path x new put =
    (f : TermTree) → IsPut (applied_to f old) path x (applied_to f new) put

-- behind the body of any lambda
abbrev pub IsPutInBody : TermTree → List ℕ → TermTree → TermTree → Bool → Type 0
IsPutInBody old path x new put =
    ((t : TypeTree) → IsPut (lam t old) path x (lam t new) put)
    × ((k : Kind) → IsPut (ty_lam k old) path x (ty_lam k new) put)

-- and behind the elements of any vector
abbrev pub IsPutInElements : List TermTree → List ℕ → TermTree → List TermTree → Bool → Type 0
IsPutInElements old path x new put =
    (t : TypeTree) → IsPut (vec_lit t (terms_of old)) path x (vec_lit t (terms_of new)) put
