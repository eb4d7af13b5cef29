-- What is promised of the widths of cells.
use Rattle.std.specs.Prelude.{◌≡◌, ℕ, Bool, List, [], ◌∷◌, map}
use Rattle.std.specs.List.{AllByRecursion}
use Rattle.chw_types.specs.declared.kind.Kind.{Kind}
use Rattle.chw_types.specs.declared.kind.Scalar.{Scalar}
use Rattle.chw_types.specs.TypeTree.{TypeTree}
use Rattle.chw_prims.specs.declared.prim.Primitive.{Primitive as Prim}
use Rattle.chw_prims.specs.declared.prim.Primitive.TheVariants.{VGet, VAt}
use Rattle.chw_terms.specs.TermTree.{TermTree, var, con, prim, lit, vec_lit}
use Rattle.chw_terms.specs.TermView.{terms_of}
use Rattle.chw_typing.specs.Programs.{IsSound}
use Rattle.chw_typing.specs.Scopes.{AreTermTypes, HasKind}
use Rattle.chw_typing.specs.Typing.{HasTypeUpTo}
use Rattle.rewriting.specs.Origins.{Origins, setting_at}
use Rattle.rewriting.specs.Spots.{IsOnWords}
use Rattle.normal_forms.specs.Values.{IsSide, on_names}
use Rattle.chw_layout.specs.Measured.{HasWidth}
use Rattle.netlist.specs.declared.net.Module.{Module}
use Rattle.net_rules.specs.WellFormed.{WidthsAgree}
use Rattle.net_built.specs.Bodies.{ValueCells}
use Rattle.net_built.specs.Terms.{head_of, types_of, operands_of, Variable}
use Rattle.net_built.specs.Wires.{Piece}
use Rattle.net_means.specs.NetFits.Laws.{ground_over}
use Rattle.net_means.specs.NetFits.Widths.{StandFrom, WideAt}

-- the types of the variables in scope
abbrev pub types_in : List Variable → List TypeTree
types_in scope = map (λ (v : Variable). v.ty) scope

-- the cells of this right side, where it is typed, agree in width, if the wires of the variables in
-- scope are as wide as their types
abbrev pub SideAgrees : TermTree → Type 0
SideAgrees e =
    (o : Origins) (order all : List ℕ) (earlier : List Module) (scope : List Variable) (n w : ℕ)
    (t : TypeTree) (k : Kind) (p : Piece)
    → IsSound (setting_at o) → AreTermTypes (setting_at o) [] (types_in scope)
    → HasTypeUpTo (setting_at o) [] (types_in scope) e t → HasKind (setting_at o) [] t k
    → HasWidth o.program.datas t w → IsSide o (types_in scope) e
    → ValueCells (ground_over (setting_at o) order) scope n w (head_of e) (types_of e)
    (operands_of e) p
    → ((x : ℕ) → WideAt o.program.datas all scope x) → StandFrom all n p.widths
    → AllByRecursion (WidthsAgree earlier all) p.cells

-- so it is with a primitive on words
abbrev pub WordSidesAgree : Type 0
WordSidesAgree =
    (e : TermTree) (q : Prim) → head_of e ≡ prim q → IsOnWords q → SideAgrees e

-- with a variable
abbrev pub NamesAgree : Type 0
NamesAgree = (x : ℕ) → SideAgrees (var x)

-- with a literal
abbrev pub LiteralsAgree : Type 0
LiteralsAgree = (s : Scalar) (bits : List Bool) → SideAgrees (lit s bits)

-- with a vector of variables
abbrev pub VectorsAgree : Type 0
VectorsAgree =
    (t : TypeTree) (xs : List ℕ) → SideAgrees (vec_lit t (terms_of (map (λ x. var x) xs)))

-- with an element of a vector, by its number
abbrev pub ElementsAgree : Type 0
ElementsAgree =
    (i m a : TypeTree) (x : ℕ) → SideAgrees (on_names (prim VGet) (i ∷ m ∷ a ∷ []) (x ∷ []))

-- by an index
abbrev pub IndexedAgree : Type 0
IndexedAgree =
    (m k a : TypeTree) (x y : ℕ)
    → SideAgrees (on_names (prim VAt) (m ∷ k ∷ a ∷ []) (x ∷ y ∷ []))

-- and with a constructor
abbrev pub ConstructorsAgree : Type 0
ConstructorsAgree =
    (c : ℕ) (types : List TypeTree) (xs : List ℕ) → SideAgrees (on_names (con c) types xs)
