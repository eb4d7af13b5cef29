-- What is promised of representable types and of ports.
use Rattle.std.specs.Prelude.{◌≡◌, ℕ, ◌⊎◌, ◌↔◌, List, [], reverse, Some}
use Rattle.std.specs.List.{slice_get}
use Rattle.chw_types.specs.declared.kind.Kind.{Kind}
use Rattle.chw_types.specs.declared.kind.Kind.TheVariants.{Val, Cir}
use Rattle.chw_types.specs.declared.declarations.Data.{Data}
use Rattle.chw_types.specs.TypeTree.{TypeTree, vector, data_of, TypeTrees}
use Rattle.chw_types.specs.TypeMoves.{sub}
use Rattle.chw_types.specs.Arguments.{arguments}
use Rattle.chw_types.specs.Kinds.{KindsOf}
use Rattle.chw_types.specs.References.{HasNoCycle as HasOrder}
use Rattle.type_ports.specs.Representable.{Representable}
use Rattle.type_ports.specs.Ports.{IsPort, IsNoPort}
use Rattle.chw_terms.specs.References.{IsField, DataRefers}
use Rattle.graph_order.specs.References.{HasNoCycle}
use Rattle.chw_typing.specs.Scopes.{Setting, HasKind}
use Rattle.chw_typing.specs.Programs.{IsSound}

-- a closed type that is representable is a type of values
abbrev pub RepresentableIsVal : Type 0
RepresentableIsVal =
    (s : Setting) (t : TypeTree) (k : Kind) → IsSound s → HasKind s [] t k
    → Representable s.datas t → k ≡ Val

-- a closed type that is a port is a type of circuits
abbrev pub PortIsCir : Type 0
PortIsCir =
    (s : Setting) (t : TypeTree) (k : Kind) → IsSound s → HasKind s [] t k
    → IsPort s.datas t → k ≡ Cir

-- no type is both
abbrev pub NoTypeIsBoth : Type 0
NoTypeIsBoth = (datas : List Data) (t : TypeTree) → Representable datas t → IsPort datas t → ⊥

-- the element of a representable vector is representable
abbrev pub ElementsOfRepresentable : Type 0
ElementsOfRepresentable =
    (datas : List Data) (n t : TypeTree) → Representable datas (vector n t) → Representable datas t

-- so is each field of a representable data type
abbrev pub FieldsOfRepresentable : Type 0
FieldsOfRepresentable =
    (datas : List Data) (d : ℕ) (it : Data) (ts : TypeTrees) (f : TypeTree)
    → slice_get datas d ≡ Some it → IsField it f → Representable datas (data_of d ts)
    → Representable datas (sub f (arguments ts))

-- each field of a port is a port
abbrev pub FieldsOfPortArePorts : Type 0
FieldsOfPortArePorts =
    (datas : List Data) (d : ℕ) (it : Data) (ts : TypeTrees) (f : TypeTree)
    → slice_get datas d ≡ Some it → IsField it f → IsPort datas (data_of d ts)
    → IsPort datas (sub f (arguments ts))

-- a field with closed arguments of the parameters' kinds put in has the kind that it has over these
abbrev pub FieldsHaveKinds : Type 0
FieldsHaveKinds =
    (s : Setting) (d : ℕ) (it : Data) (ts : TypeTrees) (f : TypeTree) → IsSound s
    → slice_get s.datas d ≡ Some it → IsField it f → KindsOf s.datas s.domains [] ts it.params
    → (k : Kind) × HasKind s (reverse it.params) f k × HasKind s [] (sub f (arguments ts)) k

-- no data type leads back to itself exactly where they have an order in which each refers only to
-- earlier ones
abbrev pub NoCycleBothWays : Type 0
NoCycleBothWays = (datas : List Data) → (HasNoCycle (DataRefers datas) ↔ HasOrder datas)

-- where no data type leads back to itself, a type is representable or it isn't
abbrev pub RepresentableIsDecided : Type 0
RepresentableIsDecided =
    (datas : List Data) (t : TypeTree) → HasNoCycle (DataRefers datas)
    → Representable datas t ⊎ (Representable datas t → ⊥)

-- and a type is a port or it isn't
abbrev pub PortIsDecided : Type 0
PortIsDecided =
    (datas : List Data) (t : TypeTree) → HasNoCycle (DataRefers datas)
    → IsPort datas t ⊎ IsNoPort datas t
