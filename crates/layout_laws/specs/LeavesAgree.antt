-- The leaves of a port are those of each value of it, and those that its inputs are given for.
use Rattle.std.specs.Prelude.{◌≡◌, List, [], ◌∷◌, ◌++◌, map, length}
use Rattle.std.specs.List.{AllByRecursion}
use Rattle.chw_types.specs.declared.declarations.Data.{Data}
use Rattle.type_ports.specs.declared.ports.Leaf.{Leaf}
use Rattle.chw_types.specs.TypeTree.{TypeTree}
use Rattle.type_ports.specs.Ports.{Leaves}
use Rattle.chw_layout.specs.Datum.{Datum}
use Rattle.chw_layout.specs.Encodes.{IsValueOf}
use Rattle.chw_meaning.specs.Values.{Thunk}
use Rattle.chw_meaning.specs.Gives.{Input, stream_in, PortGiven, LeafOf, PortLeaves}

-- the types of the values at leaves
abbrev pub payloads : List Leaf → List TypeTree
payloads ls = map (λ l. l.payload) ls

abbrev pub result_payloads : List LeafOf → List TypeTree
result_payloads ms = map (λ m. m.payload) ms

-- a thunk of a port has as many leaves as the port, with the same payloads in the same order
abbrev pub LeavesAgree : Type 0
LeavesAgree =
    (datas : List Data) (t : TypeTree) (th : Thunk) (ls : List Leaf) (ms : List LeafOf)
    → Leaves datas t ls → PortLeaves datas t th ms → result_payloads ms ≡ payloads ls

-- and each thunk has such leaves
abbrev pub LeavesAreThere : Type 0
LeavesAreThere =
    (datas : List Data) (t : TypeTree) (th : Thunk) (ls : List Leaf) → Leaves datas t ls
    → (ms : List LeafOf) × PortLeaves datas t th ms

-- a stream for each leaf, of data values of its payload
abbrev pub AreStreams : List Data → List Leaf → List (List Datum) → Type 0
AreStreams datas [] [] = Unit {0}
AreStreams datas (l ∷ ls) (ds ∷ streams) =
    AllByRecursion (IsValueOf datas l.payload) ds × AreStreams datas ls streams
AreStreams datas _ _ = ⊥

-- the first of the inputs are such streams, and these are left
pub record TakesStreams (datas : List Data) (ls : List Leaf) (ins more : List Input) : Type 0 where
  pub streams : List (List Datum)
  pub are : ins ≡ map stream_in streams ++ more
  pub each : AreStreams datas ls streams

-- a port that is given takes as many streams as it has leaves
abbrev pub PortTakesStreams : Type 0
PortTakesStreams =
    (datas : List Data) (t : TypeTree) (ls : List Leaf) (ins more : List Input) (th : Thunk)
    → Leaves datas t ls → PortGiven datas t ins th more
    → (s : TakesStreams datas ls ins more) × (length s.streams ≡ length ls)

-- and where there are such streams, it is given on them
abbrev pub StreamsGivePort : Type 0
StreamsGivePort =
    (datas : List Data) (t : TypeTree) (ls : List Leaf) (ins more : List Input) → Leaves datas t ls
    → TakesStreams datas ls ins more → (th : Thunk) × PortGiven datas t ins th more
