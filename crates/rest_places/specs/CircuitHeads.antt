-- What is left in heads of circuits.
use Rattle.std.specs.Prelude.{◌≡◌, ◌⊎◌, ℕ, List, []}
use Rattle.chw_types.specs.declared.declarations.Data.{Data}
use Rattle.chw_types.specs.declared.kind.Kind.TheVariants.{Cir}
use Rattle.chw_types.specs.TypeTree.{TypeTree}
use Rattle.chw_terms.specs.declared.scene.Mode.TheVariants.{HC}
use Rattle.chw_terms.specs.TermTree.{TermTree}
use Rattle.chw_typing.specs.Given.{AsksForNone}
use Rattle.chw_typing.specs.Scopes.{HasKind}
use Rattle.rewriting.specs.Named.{IsNamed}
use Rattle.rewriting.specs.Origins.{Origins, setting_at}
use Rattle.rewriting.specs.Shapes.{pure_of}
use Rattle.rewriting.specs.Spots.{Spot}
use Rattle.rest_places.specs.Chains.{IsChain}
use Rattle.rest_places.specs.Constants.{IsTakenAway}
use Rattle.rest_places.specs.Rest.{IsRestPlace}

-- a signal of one value
pub data IsPure : TermTree → Type 0 where
  pure_value : {d a : TypeTree} {v : TermTree} → IsPure (pure_of d a v)

-- what is left in the head of a circuit: what a rule at the place above takes away, a signal of one
-- value, or a chain
abbrev pub IsLeftInHead : List Data → TermTree → Type 0
IsLeftInHead datas e = IsTakenAway datas e ⊎ (IsPure e ⊎ ((n : ℕ) × IsChain e n))

-- so is each term at rest there, of a type of circuits that is no port
abbrev pub CircuitHeadsGo : Type 0
CircuitHeadsGo =
    (o : Origins) (at : Spot) (e : TermTree) (t : TypeTree)
    → at.mode ≡ HC → IsRestPlace o at e t → AsksForNone t → HasKind (setting_at o) [] t Cir
    → (IsNamed o.program.datas HC t → ⊥) → IsLeftInHead o.program.datas e
