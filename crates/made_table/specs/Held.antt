-- Which made definition has an origin.
use Rattle.std.specs.Prelude.{◌≡◌, ℕ, ◌<◌, ◌≤◌, Bool, List, map, length, set, Some}
use Rattle.std.specs.List.{slice_get}
use Rattle.chw_base.specs.declared.limits.TheConstants.{MADE_DEFINITIONS}
use Rattle.chw_terms.specs.declared.scene.Made.{Made}
use Rattle.chw_terms.specs.Evaluated.{evaluated_in}
use Rattle.chw_terms.specs.TermTree.{TermTree}
use Rattle.rewriting.specs.Origins.{MadeOf, made_of}
use Rattle.chw_typing.specs.PartSpines.{IsPut}
use Rattle.moved_in_place.specs.Swapped.{IsSwapped}
use Rattle.term_signs.specs.declared.alphabet.Sign.{Sign}
use Rattle.term_signs.specs.Written.{written}

-- the made definition of this number has this origin, with closed naturals as numbers: this is
-- `HasOrigin` of `rewriting`, whatever the program
abbrev pub HoldsOrigin : List Made → TermTree → ℕ → Type 0
HoldsOrigin made e m =
    (it : MadeOf) × (slice_get (map made_of made) m ≡ Some it)
    × (evaluated_in it.origin ≡ evaluated_in e)

-- none has it
abbrev pub HoldsNone : List Made → TermTree → Type 0
HoldsNone made e = (m : ℕ) → HoldsOrigin made e m → ⊥

-- the one of this number has it, and none before
abbrev pub IsFirstOf : List Made → TermTree → ℕ → Type 0
IsFirstOf made e m = HoldsOrigin made e m × ((j : ℕ) → j < m → HoldsOrigin made e j → ⊥)

-- these are the signs of the origins, and no more are made than may be
pub record AreSigns (made : List Made) (signs : List (List Sign)) : Type 0 where
  pub written : signs ≡ map (λ (m : Made). written m.origin) made
  pub few : length made ≤ MADE_DEFINITIONS

-- the body of this made definition is with the term put at a path, or as it was where no whole
-- spine stands there; all else is as it was
abbrev pub IsPartSet : List Made → ℕ → Made → List ℕ → TermTree → List Made → Bool → Type 0
IsPartSet made n it path new made' put =
    (body : TermTree) × IsPut it.body path new body put
    × (made' ≡ set made n (record it { body = body }))

-- the same where the term changes places with the whole spine at the path, which comes in exchange
-- for it
abbrev pub IsPartSwapped
    : List Made → ℕ → Made → List ℕ → TermTree → List Made → TermTree → Bool → Type 0
IsPartSwapped made n it path x made' y swapped =
    (body : TermTree) × IsSwapped it.body path x body y swapped
    × (made' ≡ set made n (record it { body = body }))
