-- Whole spines at places: a head with all of its arguments.
use Rattle.std.specs.Prelude.{◌≡◌, ℕ, zero, List, [], ◌∷◌, Bool, true, false}
use Rattle.std.specs.Prelude.{Option, Some, None, IsSome, if◌then◌else◌, option_and_then}
use Rattle.chw_terms.specs.TermTree.{TermTree, app, ty_app}
use Rattle.chw_typing.specs.Paths.{child, with_part}

-- whether the child of this number is the function of an application
abbrev pub is_function : TermTree → ℕ → Bool
is_function (app f a) zero = true
is_function (ty_app f t) zero = true
is_function e i = false

-- the part at a path, if it is a whole spine: the path's last step doesn't go from an application
-- to its function
abbrev pub spine_at : TermTree → List ℕ → Option TermTree
spine_at e [] = Some e
spine_at e (i ∷ []) = if is_function e i then None else child e i
spine_at e (i ∷ j ∷ path) = option_and_then (λ c. spine_at c (j ∷ path)) (child e i)

-- what comes of putting a term at a path, and whether a whole spine stood there: without one all
-- stays as it was
abbrev pub IsPut : TermTree → List ℕ → TermTree → TermTree → Bool → Type 0
IsPut old path x new true = IsSome (spine_at old path) × (new ≡ with_part old path x)
IsPut old path x new false = (spine_at old path ≡ None) × (new ≡ old)
