-- For which parts of a tree the kept ones stand.
use Rattle.std.specs.Prelude.{◌≡◌, ℕ, ◌≤◌, ◌<◌, Option, Some, None, List, ◌∷◌}
use Rattle.chw_base.specs.declared.limits.TheConstants.{NESTING}
use Rattle.parser_parts.specs.declared.action.Action.{Action}
use Rattle.parser_parts.specs.declared.parts.Parts.{Parts}
use Rattle.parser_parts.specs.declared.value.Value.{Value}
use Rattle.parser_parts.specs.Actions.{made}
use Rattle.parser_parts.specs.Heights.{measures, highest}

-- the parts are kept exactly where none is higher than 200
abbrev pub Kept : Option (List Value) → List Value → ℕ → Type 0
Kept (Some us) vs height = (us ≡ vs) × (height ≤ NESTING)
Kept None vs height = NESTING < height

pub record Stands (parts : Parts) (vs : List Value) : Type 0 where
  pub heights : parts.heights ≡ measures vs
  pub kept : Kept parts.values vs (highest (measures vs))

-- the part was put on top of those that are there
abbrev pub IsPut : Value → Option (List Value) → Option (List Value) → Type 0
IsPut v (Some vs) new = new ≡ Some (v ∷ vs)
IsPut v None new = new ≡ None

-- the action was done with the parts that are there
abbrev pub IsActed : Action → Option (List Value) → Option (List Value) → Type 0
IsActed action (Some vs) new = (us : List Value) → made action vs ≡ Some us → new ≡ Some us
IsActed action None new = new ≡ None
