-- What holds of all parts of a term: it declares wires alone, and has no type variables.
use Rattle.std.specs.Prelude.{◌≡◌, ◌⊎◌, ℕ, List, [], ◌∷◌, Some}
use Rattle.std.specs.List.{AllByRecursion}
use Rattle.chw_types.specs.declared.declarations.Data.{Data}
use Rattle.type_ports.specs.Ports.{IsPort}
use Rattle.type_ports.specs.Representable.{Representable}
use Rattle.chw_types.specs.TypeMoves.{Renaming}
use Rattle.chw_types.specs.TypeTree.{TypeTree}
use Rattle.chw_terms.specs.TermTree.{TermTree, lam, ty_lam, letrec, case_of}
use Rattle.chw_terms.specs.TypesMoved.{rename_types}
use Rattle.chw_typing.specs.Scopes.{declared}
use Rattle.chw_typing.specs.Paths.{part_at}
use Rattle.rewriting.specs.Shapes.{IsVariable}

-- this holds of the part at each path
abbrev pub EachPart : (TermTree → Type 0) → TermTree → Type 0
EachPart P e = (path : List ℕ) (x : TermTree) → part_at e path ≡ Some x → P x

-- the types that a term declares itself: of a lambda's variable, of a letrec's bindings
abbrev pub declared_by : TermTree → List TypeTree
declared_by (lam t e) = t ∷ []
declared_by (letrec g e) = declared g
declared_by e = []

-- this holds of all types that are declared in the term
abbrev pub EachDeclared : (TypeTree → Type 0) → TermTree → Type 0
EachDeclared P e = EachPart (λ x. AllByRecursion P (declared_by x)) e

-- no type in the term has a free variable: renaming them changes nothing
abbrev pub HasClosedTypes : TermTree → Type 0
HasClosedTypes e = (ρ : Renaming) → rename_types e ρ ≡ e

abbrev pub IsTypeLambda : TermTree → Type 0
IsTypeLambda (ty_lam k e) = Unit {0}
IsTypeLambda e = ⊥

-- what a case looks at is a variable
abbrev pub LooksAtVariable : TermTree → Type 0
LooksAtVariable (case_of e alts) = IsVariable e
LooksAtVariable e = Unit {0}

-- monomorphic: no type lambda, and no type variable in any part
pub record IsMonomorphic (e : TermTree) : Type 0 where
  pub no_type_lambda : EachPart (λ x. IsTypeLambda x → ⊥) e
  pub closed : EachPart HasClosedTypes e

-- first-order: the variables of lambdas and the bindings of letrecs have representable types or
-- ports, and the names of patterns are fields of a variable
pub record IsFirstOrder (datas : List Data) (e : TermTree) : Type 0 where
  pub wires : EachDeclared (λ t. Representable datas t ⊎ IsPort datas t) e
  pub fields : EachPart LooksAtVariable e
