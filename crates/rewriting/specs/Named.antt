-- Which types are named in which mode, and where the body of a made definition stands.
use Rattle.std.specs.Prelude.{ℕ, List, [], ◌∷◌}
use Rattle.chw_types.specs.declared.declarations.Data.{Data}
use Rattle.chw_types.specs.TypeTree.{TypeTree, fun}
use Rattle.chw_types.specs.SameTypes.{SameTypes}
use Rattle.type_ports.specs.Representable.{Representable}
use Rattle.type_ports.specs.Ports.{IsPort}
use Rattle.chw_terms.specs.declared.scene.Mode.{Mode}
use Rattle.chw_terms.specs.declared.scene.Mode.TheVariants.{V, C, HV, HC, K}
use Rattle.chw_terms.specs.declared.scene.Sort.{Sort}
use Rattle.chw_terms.specs.declared.scene.Sort.TheVariants.{Value, Circuit}
use Rattle.chw_terms.specs.TermTree.{TermTree, lam}
use Rattle.chw_typing.specs.Given.{AsksForNone}

-- a type is named in a mode where a variable of it has wires: values where a value is built, ports
-- where a circuit is
abbrev pub IsNamed : List Data → Mode → TypeTree → Type 0
IsNamed datas V t = Representable datas t
IsNamed datas HV t = Representable datas t
IsNamed datas C t = IsPort datas t
IsNamed datas HC t = IsPort datas t
IsNamed datas K t = ⊥

-- the mode of a definition's body
abbrev pub mode_of : Sort → Mode
mode_of Value = V
mode_of Circuit = C

-- each parameter and the result have named types
pub data LeadsToNamed (datas : List Data) (mode : Mode) : TypeTree → Type 0 where
  to_named : {t : TypeTree} → IsNamed datas mode t → LeadsToNamed datas mode t
  from_named : {a b : TypeTree}
      → IsNamed datas mode a → LeadsToNamed datas mode b → LeadsToNamed datas mode (fun a b)

-- one leading lambda for each parameter, of its type up to naturals: the path to what is below
-- them, the types of the variables in scope there, the innermost first, and the term there
pub data UnderLambdas : List TypeTree → TermTree → TypeTree → List ℕ → List TypeTree → TermTree
    → Type 0 where
  under_none : {vars : List TypeTree} {e : TermTree} {t : TypeTree}
      → AsksForNone t → UnderLambdas vars e t [] vars e
  under_one : {vars vs : List TypeTree} {a b t : TypeTree} {e x : TermTree} {p : List ℕ}
      → SameTypes a b → UnderLambdas (a ∷ vars) e t p vs x
      → UnderLambdas vars (lam a e) (fun b t) (0 ∷ p) vs x

-- the closed term has one leading lambda for each parameter of the type
pub record HasLeadingLambdas (e : TermTree) (t : TypeTree) : Type 0 where
  pub path : List ℕ
  pub vars : List TypeTree
  pub body : TermTree
  pub under : UnderLambdas [] e t path vars body
