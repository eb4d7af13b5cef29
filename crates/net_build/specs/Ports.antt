-- The ports of a program, one after the other.
use Rattle.std.specs.Prelude.{◌≡◌, ℕ, zero, suc, List, [], ◌∷◌, ◌++◌, Some, slice_get}
use Rattle.chw_clock.specs.declared.event.Port.{Port}
use Rattle.chw_clock.specs.declared.event.Ports.{Ports}
use Rattle.chw_types.specs.declared.declarations.Data.{Data}
use Rattle.type_ports.specs.declared.ports.Leaf.{Leaf}
use Rattle.type_ports.specs.Ports.{Leaves}
use Rattle.chw_types.specs.TypeTree.{TypeTree}
use Rattle.chw_terms.specs.declared.program.Def.{Def}
use Rattle.chw_terms.specs.declared.program.Program.{Program}
use Rattle.chw_layout.specs.Measured.{HasWidth}
use Rattle.chw_meaning.specs.Means.{LeadsFrom, PortsOf, HasPorts, port_of}

-- the type leads from ports to a port
abbrev pub HasEnds : List Data → TypeTree → Type 0
HasEnds datas t = (ins : List Leaf) × (outs : List Leaf) × LeadsFrom datas t ins outs

-- the leaves of a port were put behind others
pub record AddsLeaves (datas : List Data) (t : TypeTree) (before later : List Leaf) : Type 0 where
  pub leaves : List Leaf
  pub are : Leaves datas t leaves
  pub is : later ≡ before ++ leaves

-- the type leads from ports with these leaves to the other type
abbrev pub IsLedTo : List Data → (t rest : TypeTree) → List Leaf → Type 0
IsLedTo datas t rest ins =
    (more outs : List Leaf) → LeadsFrom datas rest more outs → LeadsFrom datas t (ins ++ more) outs

-- the port of a leaf of this width; none without bits
abbrev pub port_at : List ℕ → Leaf → ℕ → List Port
port_at name leaf zero = []
port_at name leaf (suc w) = port_of name leaf (suc w) ∷ []

-- the port of a leaf with this name was put behind others
pub record AddsPort (datas : List Data) (leaf : Leaf) (name : List ℕ) (before later : List Port)
    : Type 0 where
  pub width : ℕ
  pub measured : HasWidth datas leaf.payload width
  pub are : later ≡ before ++ port_at name leaf width

-- these are the ports of a program whose top has these leaves
pub record ArePorts (datas : List Data) (p : Program) (ins outs : List Leaf) (ports : Ports)
    : Type 0 where
  pub domains : ports.domains ≡ p.domains
  pub resets : ports.resets ≡ p.resets
  pub inputs : PortsOf datas ins p.top.inputs ports.inputs
  pub outputs : PortsOf datas outs p.top.outputs ports.outputs

-- there are ports of these leaves with these names
abbrev pub HavePorts : List Data → List Leaf → List (List ℕ) → Type 0
HavePorts datas leaves names = (ports : List Port) × PortsOf datas leaves names ports

-- the program has ports
abbrev pub HasSomePorts : Program → Type 0
HasSomePorts p = (ports : Ports) × HasPorts p ports

-- this is the definition of the program's top
abbrev pub IsTopOf : Program → Def → Type 0
IsTopOf p it = slice_get p.defs p.top.«def».number ≡ Some it
