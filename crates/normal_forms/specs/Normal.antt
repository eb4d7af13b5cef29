-- Bodies in normal form, and normal states.
use Rattle.std.specs.Prelude.{◌≡◌, ℕ, List, [], ◌∷◌, Some, Contains}
use Rattle.std.specs.List.{slice_get, AllByRecursion}
use Rattle.chw_types.specs.declared.declarations.Data.{Data}
use Rattle.type_ports.specs.declared.ports.Leaf.{Leaf}
use Rattle.type_ports.specs.Ports.{Leaves}
use Rattle.type_ports.specs.Representable.{Representable}
use Rattle.chw_types.specs.TypeTree.{TypeTree}
use Rattle.chw_terms.specs.declared.program.Program.{Program}
use Rattle.chw_terms.specs.declared.rule.Rule.{Rule}
use Rattle.chw_terms.specs.declared.rule.Rule.TheVariants.{TyBeta, Beta, AppLet, AppCase}
use Rattle.chw_terms.specs.declared.rule.Rule.TheVariants.{CaseCon, CaseLet, CaseCase, Proj}
use Rattle.chw_terms.specs.declared.rule.Rule.TheVariants.{PrimLet, PrimCase, Flat, Dead, Inline}
use Rattle.chw_terms.specs.declared.rule.Rule.TheVariants.{Unfold, Unroll, Elem, Delta, ApPure}
use Rattle.chw_terms.specs.declared.rule.Rule.TheVariants.{Eta, Spec, Anf}
use Rattle.chw_terms.specs.declared.scene.Made.{Made}
use Rattle.chw_terms.specs.declared.scene.Sort.{Sort}
use Rattle.chw_terms.specs.declared.scene.Sort.TheVariants.{Value, Circuit}
use Rattle.chw_terms.specs.TermTree.{TermTree}
use Rattle.chw_typing.specs.HeadTypes.{from_each}
use Rattle.chw_typing.specs.Programs.{IsComplete}
use Rattle.chw_typing.specs.Typing.{HasTypeUpTo}
use Rattle.chw_layout.specs.Measured.{HasWidth}
use Rattle.rewriting.specs.Named.{IsNamed, mode_of, UnderLambdas}
use Rattle.rewriting.specs.Origins.{MadeOf, Origins, setting_at, made_of}
use Rattle.rewriting.specs.Steps.{origins_in, HasNoStep}
use Rattle.normal_forms.specs.Circuits.{IsCircuitBody}
use Rattle.normal_forms.specs.Parts.{EachDeclared, HasClosedTypes}
use Rattle.normal_forms.specs.Values.{IsBlock}

-- the form below the leading lambdas, by what the definition gives
abbrev pub HasForm : Origins → Sort → List TypeTree → TermTree → Type 0
HasForm o Value vars e = IsBlock o vars e
HasForm o Circuit vars e = IsCircuitBody o e

-- the widths of a type are within the limits: its own where it is representable, and the one of
-- each leaf's payload where it is a port
pub record HoldsWidths (datas : List Data) (t : TypeTree) : Type 0 where
  pub value : Representable datas t → (w : ℕ) × HasWidth datas t w
  pub leaves : (ls : List Leaf) (l : Leaf) → Leaves datas t ls → Contains ls l
      → (w : ℕ) × HasWidth datas l.payload w

-- the body of a made definition is in normal form
pub record IsNormalBody (o : Origins) (it : MadeOf) (body : TermTree) : Type 0 where
  pub typed : HasTypeUpTo (setting_at o) [] [] body it.ty
  pub complete : IsComplete o.program.datas body
  pub closed : HasClosedTypes body
  -- lambdas on named types, and below them the form
  pub path : List ℕ
  pub vars : List TypeTree
  pub inner : TermTree
  pub under : UnderLambdas [] body it.ty path vars inner
  pub named : AllByRecursion (IsNamed o.program.datas (mode_of it.sort)) vars
  pub form : HasForm o it.sort vars inner
  -- the widths of what is declared and of the result
  pub widths : EachDeclared (HoldsWidths o.program.datas) body
  pub params : List TypeTree
  pub result : TypeTree
  pub gives : it.ty ≡ from_each params result
  pub result_named : IsNamed o.program.datas (mode_of it.sort) result
  pub result_width : HoldsWidths o.program.datas result

-- the rules, in their order
abbrev pub all_rules : List Rule
all_rules =
    TyBeta ∷ Beta ∷ AppLet ∷ AppCase ∷ CaseCon ∷ CaseLet ∷ CaseCase ∷ Proj ∷ PrimLet ∷ PrimCase
    ∷ Flat ∷ Dead ∷ Inline ∷ Unfold ∷ Unroll ∷ Elem ∷ Delta ∷ ApPure ∷ Eta ∷ Spec ∷ Anf ∷ []

-- a normal state: no rule has an instance, and each body is in normal form
pub record IsNormal (p : Program) (state : List Made) : Type 0 where
  pub no_step : HasNoStep all_rules p state
  pub bodies : (m : ℕ) (it : Made) → slice_get state m ≡ Some it
      → IsNormalBody (origins_in p state) (made_of it) it.body
