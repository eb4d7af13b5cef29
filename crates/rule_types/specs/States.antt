-- Typed states of rewriting, and what is promised of them.
use Rattle.std.specs.Prelude.{◌≡◌, ℕ, ◌≤◌, List, [], ◌∷◌, length, Some}
use Rattle.std.specs.List.{slice_get}
use Rattle.chw_types.specs.SameTypes.{SameTypes}
use Rattle.chw_types.specs.TypeTree.{TypeTree}
use Rattle.chw_terms.specs.declared.program.Program.{Program}
use Rattle.chw_terms.specs.declared.rule.Rule.{Rule}
use Rattle.chw_terms.specs.declared.rule.Rule.TheVariants.{Spec}
use Rattle.chw_terms.specs.declared.scene.Made.{Made}
use Rattle.chw_terms.specs.declared.scene.Sort.TheVariants.{Value}
use Rattle.chw_terms.specs.TermTree.{TermTree, made}
use Rattle.chw_terms.specs.Tidy.{IsTidy}
use Rattle.chw_typing.specs.HeadTypes.{from_each}
use Rattle.chw_typing.specs.Programs.{IsComplete, IsTyped}
use Rattle.chw_typing.specs.Typing.{HasTypeUpTo}
use Rattle.rewriting.specs.Origins.{HoldsNoMade, MadeOf, Origins, made_of, origin_of, setting_at}
use Rattle.rewriting.specs.Typed.{IsTypedMade}
use Rattle.rewriting.specs.Spots.{HasLets, Spot}
use Rattle.rewriting.specs.Calls.{IsCall, call_origin}
use Rattle.rewriting.specs.Instances.{HasInstance}
use Rattle.rewriting.specs.Numbers.{HasOrigin, IsNumberOf}
use Rattle.rewriting.specs.Runs.{After, first_body, sort_at, Step, StepsTo}
use Rattle.rewriting.specs.Shapes.{leading_lambdas}
use Rattle.rewriting.specs.Signals.{IsLifted}
use Rattle.rewriting.specs.Steps.{origins_in}
use Rattle.rule_types.specs.Laws.{AreTypedOrigins, IsTypedPlace}

-- a tidy and typed program with typed made definitions
pub record IsTypedState (p : Program) (made : List Made) : Type 0 where
  pub tidy : IsTidy p
  pub typed : IsTyped p
  pub each : (m : ℕ) (it : Made) → slice_get made m ≡ Some it
      → IsTypedMade (origins_in p made) (made_of it) it.body

-- what rules put for names is typed there
abbrev pub StatesHaveTypedOrigins : Type 0
StatesHaveTypedOrigins =
    (p : Program) (made : List Made) → IsTypedState p made → AreTypedOrigins (origins_in p made)

-- the origins of made definitions hold none themselves
abbrev pub OriginsHoldNoMade : Origins → Type 0
OriginsHoldNoMade o =
    (m : ℕ) (it : MadeOf) → slice_get o.made m ≡ Some it → HoldsNoMade it.origin

-- a lifted function with a lambda for each parameter becomes a typed made definition
abbrev pub LiftedBecomesTyped : Type 0
LiftedBecomesTyped =
    (o : Origins) (at : Spot) (g : TermTree) (t r : TypeTree) (ts : List TypeTree)
    → AreTypedOrigins o → OriginsHoldNoMade o
    → IsLifted o at g t ts r → length (t ∷ ts) ≤ leading_lambdas g → IsComplete o.program.datas g
    → IsTypedMade o
    (record { origin = origin_of o g; ty = from_each (t ∷ ts) r; sort = Value })
    (first_body o.program (origin_of o g))

-- a call as a closed term has the type of a function of its free variables
abbrev pub CallOriginHasType : Type 0
CallOriginHasType =
    (o : Origins) (at : Spot) (e : TermTree) (ts : List TypeTree) (t : TypeTree)
    → AreTypedOrigins o → IsTypedPlace o at
    → IsCall o at e ts t
    → HasTypeUpTo (setting_at o) [] [] (call_origin o ts e) (from_each ts t)

-- and it is complete where the call is
abbrev pub CallOriginIsComplete : Type 0
CallOriginIsComplete =
    (o : Origins) (ts : List TypeTree) (e : TermTree)
    → AreTypedOrigins o → IsComplete o.program.datas e
    → IsComplete o.program.datas (call_origin o ts e)

-- a made definition whose origin is this term, with closed naturals as numbers, has the type that
-- the term has, up to naturals
abbrev pub OriginTellsType : Type 0
OriginTellsType =
    (o : Origins) (e : TermTree) (t : TypeTree) (m : ℕ)
    → AreTypedOrigins o → HasTypeUpTo (setting_at o) [] [] e t
    → (it : HasOrigin o e m) → SameTypes t it.0.ty

-- so the number that is taken for an origin names a made definition of its type, where there is one
abbrev pub NumberHasType : Type 0
NumberHasType =
    (o : Origins) (vars : List TypeTree) (e : TermTree) (t : TypeTree) (m n : ℕ)
    → AreTypedOrigins o → HasTypeUpTo (setting_at o) [] [] e t → HasOrigin o e n
    → IsNumberOf o e m → HasTypeUpTo (setting_at o) [] vars (made m) t

-- a complete call, where a value or a circuit is built, becomes a typed made definition
abbrev pub CallBecomesTyped : Type 0
CallBecomesTyped =
    (o : Origins) (at : Spot) (e : TermTree) (ts : List TypeTree) (t : TypeTree)
    → AreTypedOrigins o → OriginsHoldNoMade o → IsTypedPlace o at → HasLets at.mode
    → IsCall o at e ts t → IsComplete o.program.datas e
    → IsTypedMade o
    (record { origin = call_origin o ts e; ty = from_each ts t; sort = sort_at at.mode })
    (first_body o.program (call_origin o ts e))

-- the state with the definition that a rule makes at a typed place, of a complete term, is typed
abbrev pub AfterKeepsState : Type 0
AfterKeepsState =
    (p : Program) (made with_new : List Made) (at : Spot) (e new : TermTree) (r : Rule)
    → IsTypedState p made → IsTypedPlace (origins_in p made) at
    → HasInstance (origins_in p made) at r e new → IsComplete p.datas e
    → After p made at e r with_new → IsTypedState p with_new

-- a step by a rule that makes no definition leads from a typed state to a typed one
abbrev pub StepsKeepState : Type 0
StepsKeepState =
    (rules : List Rule) (p : Program) (made made' : List Made) (s : Step)
    → IsTypedState p made → (s.place.rule ≡ Spec → ⊥) → StepsTo rules p made s made'
    → IsTypedState p made'
