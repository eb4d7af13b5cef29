-- What the code keeps of the types of a program's inputs, and of the widths of their bits.
use Rattle.std.specs.Prelude.{◌≡◌, ℕ, Bool, List, [], ◌++◌, length, take, Some, slice_get}
use Rattle.std.specs.List.{AllByRecursion}
use Rattle.chw_clock.specs.declared.event.Event.{Event}
use Rattle.chw_clock.specs.declared.event.Ports.{Ports}
use Rattle.type_ports.specs.Ports.{Leaves}
use Rattle.chw_types.specs.TypeTree.{TypeTree}
use Rattle.chw_types.specs.declared.declarations.Data.{Data}
use Rattle.type_ports.specs.declared.ports.Leaf.{Leaf}
use Rattle.chw_terms.specs.declared.program.Program.{Program}
use Rattle.chw_layout.specs.Measured.{HasWidth}
use Rattle.chw_meaning.specs.Means.{HasPorts, LeadsFrom}
use Rattle.chw_words.specs.declared.command.SimForm.{SimForm}
use Rattle.net_run.specs.Runs.{OutputsAt}
use Rattle.netlist.specs.declared.net.Flat.{Flat}
use Rattle.answers.specs.SimAnswer.Simulation.{AllPairs, HasInputs, HasValues, TypesOf, shown}

-- the type has a width
abbrev pub IsMeasured : List Data → TypeTree → Type 0
IsMeasured datas t = (w : ℕ) × HasWidth datas t w

-- what each of these leaves carries has one
abbrev pub AreMeasured : List Data → List Leaf → Type 0
AreMeasured datas leaves = AllByRecursion (λ (leaf : Leaf). IsMeasured datas leaf.payload) leaves

-- the type is a port of such leaves
pub record IsMeasuredPort (datas : List Data) (t : TypeTree) : Type 0 where
  pub leaves : List Leaf
  pub are : Leaves datas t leaves
  pub measured : AreMeasured datas leaves

-- the type leads from such ports to a port
pub record LeadsFromMeasured (datas : List Data) (t : TypeTree) : Type 0 where
  pub ins : List Leaf
  pub outs : List Leaf
  pub leads : LeadsFrom datas t ins outs
  pub measured : AreMeasured datas ins

-- behind others are put the types of those of the leaves whose width isn't 0
pub record AddsTypes (datas : List Data) (leaves : List Leaf) (old new : List TypeTree)
    : Type 0 where
  pub types : List TypeTree
  pub are : TypesOf datas leaves types
  pub joined : new ≡ old ++ types

-- so are those of a port's leaves
abbrev pub AddsPort : List Data → TypeTree → (old new : List TypeTree) → Type 0
AddsPort datas t old new =
    (leaves : List Leaf) → Leaves datas t leaves → AddsTypes datas leaves old new

-- these are the types of what a type leads from
abbrev pub AreParameters : List Data → TypeTree → List TypeTree → Type 0
AreParameters datas t types =
    (ins outs : List Leaf) → LeadsFrom datas t ins outs → TypesOf datas ins types

-- the program has ports
abbrev pub IsPorted : Program → Type 0
IsPorted p = (ports : Ports) × HasPorts p ports

-- the values at the inputs of the program are of these types
abbrev pub AreInputs : Program → List TypeTree → Type 0
AreInputs p types = (ports : Ports) → HasPorts p ports → HasInputs p ports types

-- as many bits as the values of the type have
abbrev pub IsSized : List Data → TypeTree → List Bool → Type 0
IsSized datas t bits = HasWidth datas t (length bits)

-- the inputs of each event are so sized
abbrev pub AllAreSized : List Data → List TypeTree → List Event → Type 0
AllAreSized datas types events =
    AllByRecursion (λ (event : Event). AllPairs (IsSized datas) types event.inputs) events

-- the event of this number is the first whose inputs aren't encodings of values of these types
pub record IsFirstStranger (datas : List Data) (types : List TypeTree) (events : List Event)
    (place : ℕ) : Type 0 where
  pub event : Event
  pub is_event : slice_get events place ≡ Some event
  pub values : AllByRecursion (HasValues datas types) (take place events)
  pub cause : ¬ HasValues datas types event

-- the text has the events in this form, with the outputs of the flat net at each of them
pub record ShowsRun (form : SimForm) (flat : Flat) (events : List Event) (text : List ℕ)
    : Type 0 where
  pub outputs : List (List (List Bool))
  pub are_outputs : OutputsAt flat [] events outputs
  pub text_is : text ≡ shown form flat.ports events outputs
