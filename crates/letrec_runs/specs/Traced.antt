-- Steps in a letrec as they are traced.
use Rattle.std.specs.Prelude.{◌≡◌, ℕ, List, [], ◌∷◌, ◌++◌, Option, None, Some}
use Rattle.chw_terms.specs.declared.rule.Rule.{Rule}
use Rattle.chw_terms.specs.declared.rule.Rule.TheVariants.{Flat}
use Rattle.norm_lines.specs.Places.{where_of}
use Rattle.norm_lines.specs.declared.place.StepAt.{StepAt}

-- the path to the right side of this number, or where there is none, to the letrec itself
abbrev pub path_of : Option ℕ → List ℕ
path_of None = []
path_of (Some k) = k ∷ []

-- one more step is traced: by this rule at this path of a letrec, which stands at the path q of the
-- made definition m
abbrev pub Traces : ℕ → List ℕ → List StepAt → List StepAt → List ℕ → Rule → Type 0
Traces m q old new path r =
    (it : StepAt) × (new ≡ old ++ it ∷ [])
    × (where_of it ≡ record { number = m; path = q ++ path; rule = r })

-- so by this rule at the right side k, and then the one by which it joins
abbrev pub TracesJoin : ℕ → List ℕ → List StepAt → List StepAt → ℕ → Rule → Type 0
TracesJoin m q old new k r =
    (mid : List StepAt) × Traces m q old mid (k ∷ []) r × Traces m q mid new [] Flat
