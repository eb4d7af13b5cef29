-- What is promised of the types of what rules make.
use Rattle.std.specs.Prelude.{◌≡◌, ℕ, List, [], Some}
use Rattle.std.specs.List.{slice_get}
use Rattle.chw_types.specs.declared.declarations.Data.{Data}
use Rattle.chw_types.specs.TypeTree.{TypeTree}
use Rattle.chw_terms.specs.declared.program.Def.{Def}
use Rattle.chw_terms.specs.declared.rule.Rule.{Rule}
use Rattle.chw_terms.specs.declared.rule.Rule.TheVariants.{Anf, Spec}
use Rattle.chw_terms.specs.declared.scene.Scene.{Scene}
use Rattle.chw_terms.specs.declared.term.Arg.{Arg}
use Rattle.chw_terms.specs.TermTree.{TermTree}
use Rattle.chw_terms.specs.TermView.{applied}
use Rattle.chw_typing.specs.Programs.{IsComplete, IsSound}
use Rattle.chw_typing.specs.Scopes.{AreTermTypes}
use Rattle.chw_typing.specs.Typing.{HasType, HasTypeUpTo}
use Rattle.rewriting.specs.Origins.{MadeOf, Origins, origins_of, setting_at}
use Rattle.rewriting.specs.Typed.{IsTypedScene}
use Rattle.rewriting.specs.Spots.{Spot}
use Rattle.rewriting.specs.Calls.{OfWhole}
use Rattle.rewriting.specs.Functions.{OfFunctions}
use Rattle.rewriting.specs.Cases.{OfCases}
use Rattle.rewriting.specs.Lets.{OfLets}
use Rattle.rewriting.specs.Demanded.{OfDemanded}
use Rattle.rewriting.specs.Instances.{HasInstance}
use Rattle.rewriting.specs.Names.{OfNames}
use Rattle.rewriting.specs.Operands.{OfOperands}
use Rattle.rewriting.specs.Primitives.{OfPrimitives}
use Rattle.rewriting.specs.Signals.{OfSignals}

-- a place where rules keep types: what terms are typed over is sound, and the variables in scope
-- have types that terms have
pub record IsTypedPlace (o : Origins) (at : Spot) : Type 0 where
  pub sound : IsSound (setting_at o)
  pub vars : AreTermTypes (setting_at o) [] at.vars

-- the bodies of definitions and the origins of made definitions are closed, complete, and of the
-- types that terms see, up to naturals
pub record AreTypedOrigins (o : Origins) : Type 0 where
  pub sound : IsSound (setting_at o)
  pub bodies : (d : ℕ) (it : Def) → slice_get o.program.defs d ≡ Some it
      → HasTypeUpTo (setting_at o) [] [] it.body it.ty × IsComplete o.program.datas it.body
  pub origins : (m : ℕ) (it : MadeOf) → slice_get o.made m ≡ Some it
      → HasTypeUpTo (setting_at o) [] [] it.origin it.ty × IsComplete o.program.datas it.origin

-- so in a typed scene
abbrev pub ScenesHaveTypedOrigins : Type 0
ScenesHaveTypedOrigins =
    (scene : Scene) → IsTypedScene scene → AreTypedOrigins (origins_of scene)

-- at this place the second term has, up to naturals, each type of the first
abbrev pub KeepsType : Origins → Spot → TermTree → TermTree → Type 0
KeepsType o at e e' =
    (t : TypeTree)
    → HasType (setting_at o) [] at.vars e t → HasTypeUpTo (setting_at o) [] at.vars e' t

-- what keeps the type of a core keeps that of the core with further arguments
abbrev pub CoresKeepType : Type 0
CoresKeepType =
    (o : Origins) (at : Spot) (core core' : TermTree) (rest : List Arg)
    → IsTypedPlace o at → KeepsType o at core core'
    → KeepsType o at (applied core rest) (applied core' rest)

-- and what keeps a core complete keeps it complete with these
abbrev pub CoresKeepComplete : Type 0
CoresKeepComplete =
    (datas : List Data) (core core' : TermTree) (rest : List Arg)
    → (IsComplete datas core → IsComplete datas core')
    → IsComplete datas (applied core rest) → IsComplete datas (applied core' rest)

-- what is made of functions keeps types
abbrev pub FunctionsKeepType : Type 0
FunctionsKeepType =
    (o : Origins) (at : Spot) (r : Rule) (e e' : TermTree)
    → IsTypedPlace o at → OfFunctions o at r e e' → KeepsType o at e e'

-- and it keeps complete terms complete
abbrev pub FunctionsKeepComplete : Type 0
FunctionsKeepComplete =
    (o : Origins) (at : Spot) (r : Rule) (e e' : TermTree)
    → OfFunctions o at r e e' → IsComplete o.program.datas e → IsComplete o.program.datas e'

-- what is made of a case keeps types
abbrev pub CasesKeepType : Type 0
CasesKeepType =
    (o : Origins) (at : Spot) (r : Rule) (e e' : TermTree)
    → IsTypedPlace o at → OfCases o at r e e' → KeepsType o at e e'

-- and it keeps complete terms complete
abbrev pub CasesKeepComplete : Type 0
CasesKeepComplete =
    (o : Origins) (at : Spot) (r : Rule) (e e' : TermTree)
    → OfCases o at r e e' → IsComplete o.program.datas e → IsComplete o.program.datas e'

-- what is made of a letrec keeps types
abbrev pub LetsKeepType : Type 0
LetsKeepType =
    (o : Origins) (at : Spot) (r : Rule) (e e' : TermTree)
    → IsTypedPlace o at → OfLets o at r e e' → KeepsType o at e e'

-- and it keeps complete terms complete
abbrev pub LetsKeepComplete : Type 0
LetsKeepComplete =
    (o : Origins) (at : Spot) (r : Rule) (e e' : TermTree)
    → OfLets o at r e e' → IsComplete o.program.datas e → IsComplete o.program.datas e'

-- what is made of a primitive with a demanded letrec or case keeps types
abbrev pub DemandedKeepType : Type 0
DemandedKeepType =
    (o : Origins) (at : Spot) (r : Rule) (e e' : TermTree)
    → IsTypedPlace o at → OfDemanded o at r e e' → KeepsType o at e e'

-- and it keeps complete terms complete
abbrev pub DemandedKeepComplete : Type 0
DemandedKeepComplete =
    (o : Origins) (at : Spot) (r : Rule) (e e' : TermTree)
    → OfDemanded o at r e e' → IsComplete o.program.datas e → IsComplete o.program.datas e'

-- a name for an operand keeps types
abbrev pub OperandsKeepType : Type 0
OperandsKeepType =
    (o : Origins) (at : Spot) (r : Rule) (e e' : TermTree)
    → IsTypedPlace o at → OfOperands o at r e e' → KeepsType o at e e'

-- and it keeps complete terms complete
abbrev pub OperandsKeepComplete : Type 0
OperandsKeepComplete =
    (o : Origins) (at : Spot) (r : Rule) (e e' : TermTree)
    → OfOperands o at r e e' → IsComplete o.program.datas e → IsComplete o.program.datas e'

-- a name for an operand of a call, or for what a result place gives, keeps types
abbrev pub NamesInWholesKeepType : Type 0
NamesInWholesKeepType =
    (o : Origins) (at : Spot) (e e' : TermTree)
    → IsTypedPlace o at → OfWhole o at Anf e e' → KeepsType o at e e'

-- and it keeps complete terms complete
abbrev pub NamesInWholesKeepComplete : Type 0
NamesInWholesKeepComplete =
    (o : Origins) (at : Spot) (e e' : TermTree)
    → OfWhole o at Anf e e' → IsComplete o.program.datas e → IsComplete o.program.datas e'

-- what is made of a definition's name keeps types
abbrev pub NamesKeepType : Type 0
NamesKeepType =
    (o : Origins) (at : Spot) (r : Rule) (e e' : TermTree)
    → AreTypedOrigins o → IsTypedPlace o at → OfNames o at r e e' → KeepsType o at e e'

-- and it keeps complete terms complete
abbrev pub NamesKeepComplete : Type 0
NamesKeepComplete =
    (o : Origins) (at : Spot) (r : Rule) (e e' : TermTree)
    → AreTypedOrigins o → OfNames o at r e e'
    → IsComplete o.program.datas e → IsComplete o.program.datas e'

-- what is made of a primitive on vectors, and of one on words, keeps types
abbrev pub PrimitivesKeepType : Type 0
PrimitivesKeepType =
    (o : Origins) (at : Spot) (r : Rule) (e e' : TermTree)
    → IsTypedPlace o at → OfPrimitives o at r e e' → KeepsType o at e e'

-- and it keeps complete terms complete
abbrev pub PrimitivesKeepComplete : Type 0
PrimitivesKeepComplete =
    (o : Origins) (at : Spot) (r : Rule) (e e' : TermTree)
    → IsTypedPlace o at → OfPrimitives o at r e e'
    → IsComplete o.program.datas e → IsComplete o.program.datas e'

-- what is made of functions on signals keeps types, but for the names of made definitions
abbrev pub SignalsKeepType : Type 0
SignalsKeepType =
    (o : Origins) (at : Spot) (r : Rule) (e e' : TermTree)
    → IsTypedPlace o at → OfSignals o at r e e' → (r ≡ Spec → ⊥) → KeepsType o at e e'

-- and it keeps complete terms complete
abbrev pub SignalsKeepComplete : Type 0
SignalsKeepComplete =
    (o : Origins) (at : Spot) (r : Rule) (e e' : TermTree)
    → OfSignals o at r e e' → IsComplete o.program.datas e → IsComplete o.program.datas e'

-- an instance of a rule keeps types, but for the rule of made definitions
abbrev pub InstancesKeepType : Type 0
InstancesKeepType =
    (o : Origins) (at : Spot) (r : Rule) (e e' : TermTree)
    → AreTypedOrigins o → IsTypedPlace o at → HasInstance o at r e e' → (r ≡ Spec → ⊥)
    → KeepsType o at e e'

-- and that of any rule keeps complete terms complete
abbrev pub InstancesKeepComplete : Type 0
InstancesKeepComplete =
    (o : Origins) (at : Spot) (r : Rule) (e e' : TermTree)
    → AreTypedOrigins o → IsTypedPlace o at → HasInstance o at r e e'
    → IsComplete o.program.datas e → IsComplete o.program.datas e'
