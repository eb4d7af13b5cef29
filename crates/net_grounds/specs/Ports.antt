-- What is promised of leaves of ports.
use Rattle.std.specs.Prelude.{List, [], map, ◌++◌, ◌∷◌, ◌≡◌}
use Rattle.chw_layout.specs.Datum.{Datum}
use Rattle.chw_meaning.specs.Gives.{Input, LeafOf, PortGiven, PortLeaves, stream_in}
use Rattle.chw_meaning.specs.Values.{Thunk}
use Rattle.type_ports.specs.Ports.{Leaves}
use Rattle.chw_types.specs.TypeTree.{TypeTree}
use Rattle.chw_types.specs.declared.declarations.ConDecl.{ConDecl}
use Rattle.chw_types.specs.declared.declarations.Data.{Data}
use Rattle.type_ports.specs.declared.ports.Leaf.{Leaf}
use Rattle.layout_laws.specs.LeavesAgree.{AreStreams, payloads, result_payloads}

-- facts on leaves of ports
pub record PortFacts : Type 0 where
  -- a value of a port has the leaves of the port, in order
  pub leaves_agree :
      {datas : List Data} {t : TypeTree} {th : Thunk} {ls : List Leaf} {ms : List LeafOf}
      → Leaves datas t ls → PortLeaves datas t th ms → result_payloads ms ≡ payloads ls
  -- each thunk has leaves at the type of a port
  pub leaves_there :
      {datas : List Data} {t : TypeTree} {ls : List Leaf}
      → Leaves datas t ls → (th : Thunk)
      → (ms : List LeafOf) × PortLeaves datas t th ms
  -- streams for the leaves of a port give the port
  pub streams_give :
      {datas : List Data} {t : TypeTree} {ls : List Leaf}
      → Leaves datas t ls → (streams : List (List Datum)) (more : List Input)
      → AreStreams datas ls streams
      → (th : Thunk) × PortGiven datas t (map stream_in streams ++ more) th more
  -- data types with one constructor that are one have the same fields
  pub same_fields :
      (a b : Data) {j k : ConDecl} {f g : TypeTree} {fs gs : List TypeTree}
      → a ≡ b → a.cons ≡ j ∷ [] → b.cons ≡ k ∷ [] → j.fields ≡ f ∷ fs → k.fields ≡ g ∷ gs
      → f ∷ fs ≡ g ∷ gs
