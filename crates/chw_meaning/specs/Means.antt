-- The meaning of a program: its ports, the histories that fit them, and what each output is at
-- each history.
use Rattle.std.specs.Prelude.{◌≡◌, ℕ, suc, zero, Bool, List, [], ◌∷◌, ◌++◌, length, replicate, Some, slice_get}
use Rattle.chw_clock.specs.declared.event.Event.{Event}
use Rattle.chw_clock.specs.declared.event.Port.{Port}
use Rattle.chw_clock.specs.declared.event.Ports.{Ports}
use Rattle.chw_clock.specs.Histories.{FitsPorts}
use Rattle.chw_types.specs.declared.declarations.Data.{Data}
use Rattle.type_ports.specs.declared.ports.Leaf.{Leaf}
use Rattle.type_ports.specs.Ports.{Leaves}
use Rattle.chw_types.specs.TypeTree.{TypeTree, fun}
use Rattle.chw_terms.specs.declared.program.Def.{Def}
use Rattle.chw_terms.specs.declared.program.Program.{Program}
use Rattle.chw_terms.specs.TermTree.{global}
use Rattle.chw_layout.specs.Datum.{Datum}
use Rattle.chw_layout.specs.Measured.{HasWidth}
use Rattle.chw_layout.specs.Encodes.{Encodes}
use Rattle.chw_meaning.specs.Zeros.{IsZero}
use Rattle.chw_meaning.specs.Values.{History}
use Rattle.chw_meaning.specs.Gives.{Input, stream_in, Gives}

-- the closed type leads from ports with these leaves to a port with those, each from left to right
pub data LeadsFrom (datas : List Data) : TypeTree → List Leaf → List Leaf → Type 0 where
  leads_to : {t : TypeTree} {outs : List Leaf} → Leaves datas t outs → LeadsFrom datas t [] outs
  leads_from : {a b : TypeTree} {ls ins outs : List Leaf} → Leaves datas a ls → LeadsFrom datas b ins outs → LeadsFrom datas (fun a b) (ls ++ ins) outs

abbrev pub port_of : List ℕ → Leaf → ℕ → Port
port_of name leaf width = record { name = name; dom = leaf.dom; width = width }

-- leaves with these names have these ports: one for each leaf whose width isn't 0
pub data PortsOf (datas : List Data) : List Leaf → List (List ℕ) → List Port → Type 0 where
  no_ports : PortsOf datas [] [] []
  port_and : {leaf : Leaf} {leaves : List Leaf} {name : List ℕ} {names : List (List ℕ)} {ports : List Port} {w : ℕ} → HasWidth datas leaf.payload (suc w) → PortsOf datas leaves names ports → PortsOf datas (leaf ∷ leaves) (name ∷ names) (port_of name leaf (suc w) ∷ ports)
  no_port_and : {leaf : Leaf} {leaves : List Leaf} {name : List ℕ} {names : List (List ℕ)} {ports : List Port} → HasWidth datas leaf.payload zero → PortsOf datas leaves names ports → PortsOf datas (leaf ∷ leaves) (name ∷ names) ports

-- the leaf of this number among all leaves is the port of this number
pub data IsPortAt (datas : List Data) : List Leaf → ℕ → ℕ → Type 0 where
  port_here : {leaf : Leaf} {leaves : List Leaf} {w : ℕ} → HasWidth datas leaf.payload (suc w) → IsPortAt datas (leaf ∷ leaves) zero zero
  port_later : {leaf : Leaf} {leaves : List Leaf} {w k j : ℕ} → HasWidth datas leaf.payload (suc w) → IsPortAt datas leaves k j → IsPortAt datas (leaf ∷ leaves) (suc k) (suc j)
  port_past : {leaf : Leaf} {leaves : List Leaf} {k j : ℕ} → HasWidth datas leaf.payload zero → IsPortAt datas leaves k j → IsPortAt datas (leaf ∷ leaves) (suc k) j

-- the top of a program: its definition, and the leaves of its parameters and of its result
pub record IsTop (p : Program) (it : Def) (ins outs : List Leaf) : Type 0 where
  pub held : slice_get p.defs p.top.«def».number ≡ Some it
  pub leads : LeadsFrom p.datas it.ty ins outs

-- the ports of a program: its domains, those of them that have a reset, and those leaves of its top
-- whose width isn't 0
pub record HasPorts (p : Program) (ports : Ports) : Type 0 where
  pub it : Def
  pub ins : List Leaf
  pub outs : List Leaf
  pub top : IsTop p it ins outs
  pub domains : ports.domains ≡ p.domains
  pub resets : ports.resets ≡ p.resets
  pub inputs : PortsOf p.datas ins p.top.inputs ports.inputs
  pub outputs : PortsOf p.datas outs p.top.outputs ports.outputs

-- the bits of this input, in a history with the present event first, decode to these data values,
-- that of the first event first
pub data Decoded (datas : List Data) : TypeTree → ℕ → History → List Datum → Type 0 where
  decoded_none : {t : TypeTree} {i : ℕ} → Decoded datas t i [] []
  decoded_and : {t : TypeTree} {i : ℕ} {present : Event} {past : History} {b : List Bool} {d : Datum} {ds : List Datum} → slice_get present.inputs i ≡ Some b → Encodes datas t d b → Decoded datas t i past ds → Decoded datas t i (present ∷ past) (ds ++ (d ∷ []))

-- the streams of these leaves, of which the first that is a port is the input of this number; a
-- leaf of width 0 has the stream of its one value
pub data Streams (datas : List Data) : List Leaf → ℕ → History → List Input → Type 0 where
  no_streams : {i : ℕ} {h : History} → Streams datas [] i h []
  stream_and : {leaf : Leaf} {leaves : List Leaf} {w i : ℕ} {h : History} {ds : List Datum} {ins : List Input} → HasWidth datas leaf.payload (suc w) → Decoded datas leaf.payload i h ds → Streams datas leaves (suc i) h ins → Streams datas (leaf ∷ leaves) i h (stream_in ds ∷ ins)
  stream_of_one : {leaf : Leaf} {leaves : List Leaf} {i : ℕ} {h : History} {z : Datum} {ins : List Input} → HasWidth datas leaf.payload zero → IsZero datas leaf.payload z → Streams datas leaves i h ins → Streams datas (leaf ∷ leaves) i h (stream_in (replicate (length h) z) ∷ ins)

-- a history of the program: at least one event, in each some domain ticks, and its inputs are
-- encodings of values of their ports' types
pub record Fit (p : Program) (h : History) : Type 0 where
  pub ports : Ports
  pub are_ports : HasPorts p ports
  pub fits : FitsPorts ports h
  pub streams : List Input
  pub decode : Streams p.datas are_ports.ins zero h streams

-- at the history, the output of this number has this data value
pub record Means (p : Program) (h : History) (k : ℕ) (d : Datum) : Type 0 where
  pub it : Def
  pub ins : List Leaf
  pub outs : List Leaf
  pub top : IsTop p it ins outs
  pub streams : List Input
  pub decode : Streams p.datas ins zero h streams
  pub leaf : ℕ
  pub is_port : IsPortAt p.datas outs leaf k
  pub gives : Gives p (global p.top.«def».number) it.ty streams h leaf d
