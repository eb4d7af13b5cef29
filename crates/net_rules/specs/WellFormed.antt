-- Well formed nets: the rules on names, widths, drivers and numbers of each module, in this order.
use Rattle.std.specs.Prelude.{◌≡◌, ℕ, ◌+◌, ◌<◌, ◌≤◌, Bool, List, [], length, take, flat_map}
use Rattle.std.specs.Prelude.{Option, Some, option_map, slice_get, IfSome}
use Rattle.std.specs.List.{AllByRecursion}
use Rattle.chw_base.specs.declared.limits.TheConstants.{ADDRESS_BITS, MODULES, RAM_WORDS}
use Rattle.chw_base.specs.declared.index.WireId.{WireId}
use Rattle.chw_clock.specs.declared.event.Port.{Port}
use Rattle.chw_clock.specs.declared.event.Ports.{Ports}
use Rattle.net_rules.specs.PortsHold.{PortsHold}
use Rattle.netlist.specs.Sound.{EachOnce, FitsCell, HasWidth, IsWire, IsWireWidth}
use Rattle.netlist.specs.Wires.{driven, read_by}
use Rattle.netlist.specs.declared.net.Cell.{Cell}
use Rattle.netlist.specs.declared.net.Cell.TheVariants.{Reg, Ram, Use}
use Rattle.netlist.specs.declared.net.Module.{Module}
use Rattle.netlist.specs.declared.net.Net.{Net}
use Rattle.netlist.specs.declared.net.RamIn.{RamIn}
use Rattle.net_rules.specs.declared.well_formed.NetCode.{NetCode}
use Rattle.net_rules.specs.declared.well_formed.NetCode.TheVariants.{Name, Width, Driver, Limit}
use Rattle.net_rules.specs.declared.well_formed.NetFault.{NetFault}

-- the relation holds of the items at each place of two lists, as far as both go
abbrev pub Together : {A B : Type 0} → (A → B → Type 0) → List A → List B → Type 0
Together {A} {B} R xs ys =
    (k : ℕ) (x : A) (y : B) → slice_get xs k ≡ Some x → slice_get ys k ≡ Some y → R x y

-- the use is of one of these modules, and has a wire for each of its inputs and outputs
pub record UseExists (earlier : List Module) (m : ℕ) (reads drives : List WireId) : Type 0 where
  pub used : Module
  pub found : slice_get earlier m ≡ Some used
  pub inputs : length reads ≡ used.inputs
  pub outputs : length drives ≡ length used.outputs

-- the domain or the module that a cell names exists, among so many domains and these modules
abbrev pub PartExists : ℕ → List Module → Cell → Type 0
PartExists domains earlier (Reg w domain initial a) = domain.number < domains
PartExists domains earlier (Ram w domain words inputs) = domain.number < domains
PartExists domains earlier (Use m reads drives) = UseExists earlier m.number reads drives
PartExists domains earlier _ = Unit {0}

-- all that a cell names exists
pub record NamesExist (domains : ℕ) (earlier : List Module) (widths : List ℕ) (cell : Cell)
    : Type 0 where
  pub driven : AllByRecursion (IsWire widths) (driven cell)
  pub read : AllByRecursion (IsWire widths) (read_by cell)
  pub part : PartExists domains earlier cell

-- the rules on ports hold, and the module has as many inputs and outputs
pub record TopNamesHold (ports : Ports) (top : Module) : Type 0 where
  pub rules : PortsHold ports
  pub inputs : length ports.inputs ≡ top.inputs
  pub outputs : length ports.outputs ≡ length top.outputs

-- what the module at this place of the net names exists
pub record NamesHold (net : Net) (i : ℕ) (m : Module) : Type 0 where
  pub cells : AllByRecursion
      (NamesExist (length net.ports.domains) (take i net.modules) m.widths) m.cells
  pub outputs : AllByRecursion (IsWire m.widths) m.outputs
  pub top : i + 1 ≡ length net.modules → TopNamesHold net.ports m

-- a RAM has addresses of 12 bits, and what it shows, writes and holds has one width
pub record AgreesRam (widths : List ℕ) (w : WireId) (words : List (List Bool)) (inputs : RamIn)
    : Type 0 where
  pub read : HasWidth widths inputs.read ADDRESS_BITS
  pub enable : HasWidth widths inputs.enable 1
  pub place : HasWidth widths inputs.place ADDRESS_BITS
  pub width : ℕ
  pub shown : HasWidth widths w width
  pub value : HasWidth widths inputs.value width
  pub each_word : AllByRecursion (λ word. length word ≡ width) words

-- the wires of a use are as wide as those of the module's inputs, which are its first wires, and of
-- its outputs
pub record AgreesUse (widths : List ℕ) (used : Module) (reads drives : List WireId) : Type 0 where
  pub inputs : Together (HasWidth widths) reads used.widths
  pub outputs : Together
      (λ w output. slice_get widths w.number ≡ slice_get used.widths output.number)
      drives used.outputs

-- the widths of a cell's wires agree: those of a cell without a domain or module as in a flat net
abbrev pub WidthsAgree : List Module → List ℕ → Cell → Type 0
WidthsAgree earlier widths (Reg w domain initial a) =
    HasWidth widths w (length initial) × HasWidth widths a (length initial)
WidthsAgree earlier widths (Ram w domain words inputs) = AgreesRam widths w words inputs
WidthsAgree earlier widths (Use m reads drives) =
    IfSome (slice_get earlier m.number) (λ used. AgreesUse widths used reads drives)
WidthsAgree earlier widths cell = FitsCell 0 widths cell

-- the module's inputs, which are its first wires, and its outputs are as wide as the ports
pub record TopWidthsHold (ports : Ports) (top : Module) : Type 0 where
  pub inputs : Together (λ (port : Port) width. port.width ≡ width) ports.inputs top.widths
  pub outputs : Together
      (λ (port : Port) w. HasWidth top.widths w port.width) ports.outputs top.outputs

-- the widths of the module at this place of the net agree
pub record WidthsHold (net : Net) (i : ℕ) (m : Module) : Type 0 where
  pub cells : AllByRecursion (WidthsAgree (take i net.modules) m.widths) m.cells
  pub top : i + 1 ≡ length net.modules → TopWidthsHold net.ports m

-- the wire at this place among those that the cells drive, in order
abbrev pub wire_driven_at : List WireId → ℕ → Option ℕ
wire_driven_at driven place = option_map (λ w. w.number) (slice_get driven place)

-- the module at this place of the net has its inputs among its wires, each other wire is driven
-- once, and if it isn't the last, it has an output
pub record DriversHold (net : Net) (i : ℕ) (m : Module) : Type 0 where
  pub inputs : m.inputs ≤ length m.widths
  pub drivers : EachOnce m.inputs (length m.widths) (wire_driven_at (flat_map driven m.cells))
  pub outputs : i + 1 < length net.modules → 1 ≤ length m.outputs

-- a RAM has from one word to the most that it may have
abbrev pub HasFewWords : Cell → Type 0
HasFewWords (Ram w domain words inputs) = (1 ≤ length words) × (length words ≤ RAM_WORDS)
HasFewWords _ = Unit {0}

-- widths of wires and numbers of words are within their limits, and for the first module the number
-- of modules too
pub record LimitsHold (net : Net) (i : ℕ) (m : Module) : Type 0 where
  pub widths : AllByRecursion IsWireWidth m.widths
  pub words : AllByRecursion HasFewWords m.cells
  pub modules : i ≡ 0 → length net.modules ≤ MODULES

-- the rule of this code holds of the module at this place of the net
abbrev pub Holds : Net → ℕ → Module → NetCode → Type 0
Holds net i m Name = NamesHold net i m
Holds net i m Width = WidthsHold net i m
Holds net i m Driver = DriversHold net i m
Holds net i m Limit = LimitsHold net i m

-- the place of a code in the order of the rules
abbrev pub place_of : NetCode → ℕ
place_of Name = 0
place_of Width = 1
place_of Driver = 2
place_of Limit = 3

-- each rule holds of the module at this place of the net
abbrev pub EachRuleHolds : Net → ℕ → Module → Type 0
EachRuleHolds net i m = (code : NetCode) → Holds net i m code

-- the module at this place of the net breaks the rule of this code, and none before it
pub record IsBrokenIn (net : Net) (i : ℕ) (m : Module) (code : NetCode) : Type 0 where
  pub before : (c : NetCode) → place_of c < place_of code → Holds net i m c
  pub broken : Holds net i m code → ⊥

-- there is a module, and each rule holds of each
pub record WellFormed (net : Net) : Type 0 where
  pub some : 1 ≤ length net.modules
  pub rules : (i : ℕ) (m : Module) → slice_get net.modules i ≡ Some m → EachRuleHolds net i m

-- the rule of this code is the first that a net breaks, in its first module that breaks one
pub record IsFirstBroken (net : Net) (i : ℕ) (code : NetCode) : Type 0 where
  pub broken_in : Module
  pub found : slice_get net.modules i ≡ Some broken_in
  pub earlier : (j : ℕ) (m : Module) → j < i → slice_get net.modules j ≡ Some m
      → EachRuleHolds net j m
  pub breaks : IsBrokenIn net i broken_in code

-- what is wrong with a net: it has no module, which is a limit of module 0, or this is the first
-- rule that it breaks
pub data IsNetFault (net : Net) : NetFault → Type 0 where
  no_module : (fault : NetFault) → net.modules ≡ [] → fault.module.number ≡ 0 → fault.code ≡ Limit
      → IsNetFault net fault
  broken : (fault : NetFault) → IsFirstBroken net fault.module.number fault.code
      → IsNetFault net fault
